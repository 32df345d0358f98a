-- What follows the look at a ref.
use Rattle.std.proofs.Common.{◌≡◌, ℕ, true, false, refl, sym, ◌∙◌, subst, List, Option, Some, None}
use Rattle.std.specs.Prelude.{IsSome}
use Rattle.fs_trait.specs.declared.types.Value.{Value}
use Rattle.fs_trait.specs.declared.types.Value.TheVariants.{Absent, Folder, Link, File}
use Rattle.ost_types.specs.Path.{Path}
use Rattle.fs_trait.specs.View.{Disk, View}
use Rattle.fs_trait.specs.Image.{is_folder}
use Rattle.fs_trait.specs.Seen.{Seen, Vacant, Directory, Symlink, Leaf, seen, shows, NotDirectory, bytes_in}
use Rattle.fs_trait.proofs.Claims.{reads_shows}
use Rattle.repo_layout.specs.Paths.{ref_path}
use Rattle.repo_layout.specs.Refs.{ShowsCommit, is_leaf}
use Rattle.ref_room.specs.Clearing.{IsLeaf}
use Rattle.ref_room.proofs.Begins.{way_begins, clearing_begins}
use Rattle.ref_store.specs.declared.phase.Phase.{Phase}
use Rattle.ref_store.specs.declared.phase.Phase.TheVariants as phase
use Rattle.ref_store.specs.declared.lookup.There.{There}
use Rattle.ref_store.specs.declared.lookup.There.TheVariants as there
use Rattle.ref_store.specs.Lookup.{IsThere}
use Rattle.ref_store.specs.Change.{Change, IsLook, begun, commit_of}
use Rattle.ref_store.specs.Steps.{Needs}
use Rattle.ref_store.proofs.StepLemmas.{meets_in, made}
use Rattle.ref_store.proofs.RoomLemmas.{begins_leads}

pub is_look : (ph : Phase) → IsLook ph → ph ≡ phase.Look
is_look phase.Look is = refl
is_look (phase.Clear c) is = absurd is
is_look (phase.Walk w) is = absurd is
is_look (phase.Put s) is = absurd is
is_look phase.Unlink is = absurd is
is_look phase.SyncFolder is = absurd is
is_look phase.Ended is = absurd is

file_leaf : (s : Seen) (b : List ℕ) → bytes_in s ≡ Some b → IsLeaf s
file_leaf (Leaf n m c) b e = tt
file_leaf Vacant b e = let n : None ≡ Some b = e in cc
file_leaf (Directory m) b e = let n : None ≡ Some b = e in cc
file_leaf (Symlink m l) b e = let n : None ≡ Some b = e in cc

pub leaf_not_folder : (s : Seen) → IsLeaf s → NotDirectory s
leaf_not_folder (Leaf n m c) is = tt
leaf_not_folder (Symlink m l) is = tt
leaf_not_folder Vacant is = tt
leaf_not_folder (Directory m) is = is

commit_leaf : (d : Disk) (p : Path) (commit : List ℕ) → ShowsCommit d p commit → IsLeaf (shows d p)
commit_leaf d p commit shown = file_leaf (shows d p) _ (sym (reads_shows d p) ∙ shown.file)

folder_no_leaf : (d : Disk) (z : Value) → is_folder z ≡ true → ¬ (IsLeaf (seen d z))
folder_no_leaf d (Folder m) e leaf = leaf
folder_no_leaf d Absent e leaf = leaf
folder_no_leaf d (Link m l) e leaf = let n : false ≡ true = e in cc
folder_no_leaf d (File n) e leaf = let n : false ≡ true = e in cc

leaf_no_folder : (d : Disk) (z : Value) → is_leaf z ≡ true → NotDirectory (seen d z)
leaf_no_folder d (Folder m) e = let n : false ≡ true = e in cc
leaf_no_folder d Absent e = tt
leaf_no_folder d (Link m l) e = tt
leaf_no_folder d (File n) e = tt

module _ (t : Change) (v : View) (needs : Needs t v) (is : t.phase ≡ phase.Look) where
  walks : (commit : List ℕ) → t.value ≡ Some commit → NotDirectory (shows v.now (ref_path t.name)) → Needs (record t { phase = begun (Some commit) there.Nothing t.name }) v
  walks commit e leaf =
      let some : IsSome t.value = subst IsSome (sym e) refl in
      let b = meets_in t v needs phase.Look is in
      record {
        named = needs.named;
        actor = needs.actor;
        made = (refl, some);
        meets = (b, way_begins t.name v needs.named (begins_leads t.value t.actor v some b), leaf);
      }

  looked : (o : Option (List ℕ)) → t.value ≡ o → (x : There) → IsThere v.now (ref_path t.name) x → commit_of x ≡ t.seen → Needs (record t { phase = begun o x t.name }) v
  looked None e (there.Commit commit) at same = record { named = needs.named; actor = needs.actor; made = e; meets = commit_leaf v.now (ref_path t.name) commit at }
  looked None e there.Nothing at same = let n : false ≡ true = subst IsSome (sym same) (made t v needs phase.Look is e) in cc
  looked None e there.Folder at same = let n : false ≡ true = subst IsSome (sym same) (made t v needs phase.Look is e) in cc
  looked None e there.OtherLeaf at same = let n : false ≡ true = subst IsSome (sym same) (made t v needs phase.Look is e) in cc
  looked (Some commit) e there.Folder at same = record {
    named = needs.named;
    actor = needs.actor;
    made = (refl, subst IsSome (sym e) refl);
    meets = (meets_in t v needs phase.Look is, clearing_begins t.name v needs.named (folder_no_leaf v.now (v.now.at (ref_path t.name)) at));
  }
  looked (Some commit) e there.Nothing at same = walks commit e (subst (λ z. NotDirectory (seen v.now z)) (sym at) tt)
  looked (Some commit) e (there.Commit other) at same = walks commit e (leaf_not_folder _ (commit_leaf v.now (ref_path t.name) other at))
  looked (Some commit) e there.OtherLeaf at same = walks commit e (leaf_no_folder v.now (v.now.at (ref_path t.name)) at.leaf)

  pub look_over : (at : Path) → at ≡ ref_path t.name → (x : There) → IsThere v.now at x → commit_of x ≡ t.seen → (ph : Phase) → ph ≡ begun t.value x t.name → Needs (record t { phase = ph }) v
  look_over at e x is_ same ph begins_ = subst (λ y. Needs (record t { phase = y }) v) (sym begins_) (looked t.value refl x (subst (λ p. IsThere v.now p x) e is_) same)
