-- What a crash leaves of the objects that stand on the disk at an opening.
use Rattle.std.proofs.Common.{◌≡◌, ◌≢◌, ◌⊎◌, ℕ, sym, ◌∙◌, ap, subst, List, Some, None}
use Rattle.ost_types.specs.declared.limits.Limits.{Limits}
use Rattle.ost_types.specs.declared.object.ObjName.{ObjName}
use Rattle.fs_trait.specs.declared.types.Value.TheVariants.{Absent}
use Rattle.fs_trait.specs.View.{View}
use Rattle.fs_trait.specs.Image.{IsTree}
use Rattle.fs_trait.specs.Seen.{Vacant, seen, shows}
use Rattle.fs_trait.proofs.Ways.{folder_of}
use Rattle.repo_layout.specs.Paths.{mark_path, objects_folder_path}
use Rattle.repo_layout.specs.RefFile.{IsSum}
use Rattle.repo_model.specs.Objects.{Stores, Marked, object_in, path_of}
use Rattle.repo_model.specs.Whole.{Complete}
use Rattle.repo_model.proofs.Grown.{complete_up}
use Rattle.rely_guarantee.specs.Disks.{IsLeaf}
use Rattle.rely_guarantee.specs.Lasting.{AlwaysStores, IsRight, NeverMarked}
use Rattle.rely_guarantee.specs.Objects.{IsObjectSeen}
use Rattle.rely_guarantee.specs.Opening.{IsOpening}
use Rattle.rely_guarantee.specs.State.{State}
use Rattle.rely_guarantee.proofs.Lasting.{always_one, object_under, tail_of}
use Rattle.rely_guarantee.proofs.Openings.{leads_there, leaf_value}

module _ (start : State) (v : View) (begins : IsOpening start v) where
  pub opened_right : (name : ObjName) → IsSum name.csum → (shows v.now (path_of name) ≡ Vacant) ⊎ IsObjectSeen name.kind name.csum (shows v.now (path_of name)) → IsRight v name
  opened_right name sum right = record {
    sum = sum;
    each = λ s may. subst (λ x. (x ≡ Vacant) ⊎ IsObjectSeen name.kind name.csum x) (sym ((begins.settled (path_of name)).each s may)) right;
  }

  pub opened_unmarked : (commit : List ℕ) → (Marked v.now commit → ⊥) → NeverMarked commit v
  opened_unmarked commit none = record {
    each = λ s may leaf. none (leaf_value v.now (v.now.at (mark_path commit)) (subst IsLeaf ((begins.settled (mark_path commit)).each s may) leaf));
  }

  module _ (tree : IsTree v.now) where
    stored_there : (name : ObjName) (bytes : List ℕ) → Stores v.now name bytes → v.now.at (path_of name) ≢ Absent
    stored_there name bytes has none = let n : None ≡ Some bytes = sym (ap (λ z. object_in name.kind (seen v.now z)) none) ∙ has.there in cc

    pub opened_stored : (name : ObjName) (bytes : List ℕ) → Stores v.now name bytes → AlwaysStores v name bytes
    opened_stored name bytes has = record {
      holds = λ s may. ap (object_in name.kind) ((begins.settled (path_of name)).each s may) ∙ has.there;
      above = leads_there start v tree begins (objects_folder_path name.csum)
          (folder_of v.now tree (objects_folder_path name.csum) (tail_of name) (subst (λ q. v.now.at q ≢ Absent) (object_under name) (stored_there name bytes has)));
      named = has.named;
    }

    pub opened_whole : (limits : Limits) (commit : List ℕ) → Complete (Stores v.now) limits commit → Complete (AlwaysStores v) limits commit
    opened_whole limits commit whole = complete_up (Stores v.now) (AlwaysStores v) opened_stored (always_one v) limits commit whole
