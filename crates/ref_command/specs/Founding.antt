-- What is known of a reset's commit goes on to be so, and comes to say that it lasts.
use Rattle.std.proofs.Common.{◌≡◌, ◌≢◌, inr, ⊎_elim, ℕ, true, false, refl, sym, subst, List, [], Option, Some, None}
use Rattle.std.specs.Prelude.{IsSome}
use Rattle.ost_types.specs.declared.object.Kind.TheVariants.{Commit}
use Rattle.ost_types.specs.Path.{Path}
use Rattle.fs_trait.specs.declared.types.Value.{Value}
use Rattle.fs_trait.specs.declared.types.Value.TheVariants.{Absent, Folder, Link, File}
use Rattle.fs_trait.specs.View.{Disk, View}
use Rattle.fs_trait.specs.Image.{IsTree, bytes_of, is_folder, reads}
use Rattle.fs_trait.specs.Seen.{Seen, Vacant, seen, shows, IsDirectory}
use Rattle.fs_trait.specs.Change.{Writes, LeadsTo}
use Rattle.fs_trait.proofs.Ways.{above, folder_of}
use Rattle.repo_layout.specs.Paths.{mark_path, object_path, objects_folder_path}
use Rattle.repo_layout.specs.Place.{place}
use Rattle.repo_layout.specs.RefFile.{IsSum}
use Rattle.layout_rules.specs.declared.many.Many.TheVariants.{Marks}
use Rattle.layout_rules.specs.declared.rule.Rule.TheVariants.{FileOrNothing}
use Rattle.layout_rules.specs.InLayout.{SuitsSeen}
use Rattle.layout_rules.proofs.Layouts.{below_split}
use Rattle.ref_store.specs.Change.{Change}
use Rattle.ref_store.specs.Steps.{Needs, WritesOf}
use Rattle.rely_guarantee.specs.Books.{Books}
use Rattle.rely_guarantee.specs.Disks.{IsLeaf}
use Rattle.rely_guarantee.specs.Lasting.{IsFinishedNow}
use Rattle.rely_guarantee.specs.Rely.{Guarantee}
use Rattle.rely_guarantee.proofs.Finished.{IsElsewhere, finished_now, finished_pinned, finished_stays, stays_apart}
use Rattle.rely_guarantee.proofs.Lasting.{none_out, object_under, tail_of}
use Rattle.ref_command.specs.declared.look_up.Found.{Found}
use Rattle.ref_command.specs.declared.look_up.Found.TheVariants.{Whole}
use Rattle.ref_command.specs.Found.{IsFound, commit_name}
use Rattle.ref_command.specs.Founded.{IsFounded, IsKnownBy}
use Rattle.ref_command.specs.Pins.{IsPinnedBy, IsPinnedFor}
use Rattle.ref_command.specs.Placed.{ref_places}

-- others write nothing but a mark where one may stand, no mark where its commit is, over no object, and remove none that is pinned
module _ (b : Books) (v w : View) (actor lane : ℕ) (writes : Writes (Guarantee b v actor lane) v w) (mine : ℕ) (other : mine ≢ lane) where
  pub known_kept : (found : Option Found) (commit : List ℕ) → IsPinnedBy found mine b commit → IsKnownBy found commit v → IsKnownBy found commit w
  known_kept None commit pin known = λ rule is. ⊎_elim (λ same. subst (SuitsSeen rule) (sym same) (known rule is)) (λ m. m.fits.suits rule is) (writes.now (mark_path commit))
  known_kept (Some found) commit pin known = finished_now b v w actor lane writes mine other commit pin known

  pub founded_kept : (o : Option (List ℕ)) → IsPinnedFor o mine b → IsFounded o v → IsFounded o w
  founded_kept None pin is = tt
  founded_kept (Some commit) pin is = finished_pinned b v w actor lane writes mine other commit pin is

-- the change of a ref writes no object and no mark
pub founded_own : (t : Change) (v w : View) (lane : ℕ) → Needs t v → t.actor ≡ lane → Writes (WritesOf t v) v w → (o : Option (List ℕ)) → IsFounded o v → IsFounded o w
founded_own t v w lane needs mine writes None is = tt
founded_own t v w lane needs mine writes (Some commit) is = finished_stays [] v w commit (stays_apart (WritesOf t v) v w writes elsewhere) (none_out (commit_name commit)) is
  where
    elsewhere : (p : Path) (s : Seen) → WritesOf t v p s → IsElsewhere (place p)
    elsewhere p s wrote = ⊎_elim
        (λ e. subst IsElsewhere (sym e) tt)
        (λ r. subst IsElsewhere (sym r.1) tt)
        (ref_places t v lane needs mine p s wrote)

-- A regular file is at the object's path, and none at the mark's.
file_there : (d : Disk) (z : Value) → IsSome (bytes_of d z) → (seen d z ≢ Vacant) × (z ≢ Absent)
file_there d (File n) is = ((λ e. cc), (λ e. cc))
file_there d Absent is = let n : false ≡ true = is in cc
file_there d (Folder m) is = ((λ e. cc), (λ e. cc))
file_there d (Link m t) is = ((λ e. cc), (λ e. cc))

no_leaf : (d : Disk) (z : Value) → bytes_of d z ≡ None → SuitsSeen FileOrNothing (seen d z) → IsLeaf (seen d z) → ⊥
no_leaf d (File n) none suits leaf = let k : Some (d.bytes n) ≡ None = none in cc
no_leaf d (Link m t) none suits leaf = suits
no_leaf d Absent none suits leaf = leaf
no_leaf d (Folder m) none suits leaf = leaf

directory : (d : Disk) (z : Value) → is_folder z ≡ true → IsDirectory (seen d z)
directory d (Folder m) is = tt
directory d Absent is = let n : is_folder Absent ≡ true = is in cc
directory d (Link m t) is = let n : is_folder (Link m t) ≡ true = is in cc
directory d (File n) is = let k : is_folder (File n) ≡ true = is in cc

module _ (v : View) (commit : List ℕ) (tree : IsTree v.now) where
  leads_there : v.now.at (object_path Commit commit) ≢ Absent → (p : Path) → LeadsTo (objects_folder_path commit) p (shows v.now p)
  leads_there there p below =
      let rest = below_split p (objects_folder_path commit) below in
      let home : is_folder (v.now.at (objects_folder_path commit)) ≡ true =
      folder_of v.now tree (objects_folder_path commit) (tail_of (commit_name commit)) (subst (λ q. v.now.at q ≢ Absent) (object_under (commit_name commit)) there)
      in
      directory v.now (v.now.at p) (above v.now tree p rest.0 (subst (λ q. is_folder (v.now.at q) ≡ true) rest.1 home))

  -- what was found whole is whole now
  pub found_now : IsSum commit → IsKnownBy None commit v → IsFound v.now commit Whole → IsFinishedNow v commit
  unfolding reads
  found_now sum known found =
      let there = file_there v.now (v.now.at (object_path Commit commit)) found.0 in
      record {
        sum = sum;
        there = there.0;
        above = leads_there there.1;
        unmarked = no_leaf v.now (v.now.at (mark_path commit)) found.1 (known FileOrNothing (inr (Marks, (refl, (commit, sum, refl)))));
      }
