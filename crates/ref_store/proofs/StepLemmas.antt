-- What each step writes and leaves.
use Rattle.std.proofs.Common.{◌≡◌, ◌≢◌, ℕ, ◌<◌, arith, true, false, refl, sym, ◌∙◌, subst, List, [], ◌∷◌, ◌++◌, append-nil, Option, Some, None}
use Rattle.std.specs.Prelude.{codes}
use Rattle.std.specs.Fmt.{decimal}
use Rattle.ost_types.specs.Path.{Name, Path, under, is_below}
use Rattle.ost_types.proofs.Paths.{under-not_folder}
use Rattle.fs_trait.specs.declared.types.Value.{Value}
use Rattle.fs_trait.specs.declared.types.Value.TheVariants.{Absent, Folder, Link, File}
use Rattle.fs_trait.specs.declared.types.FsErr.{FsErr}
use Rattle.fs_trait.specs.declared.types.FsErr.TheVariants.{Failed, NoMemory}
use Rattle.fs_trait.specs.View.{Disk, View, named, folder_synced}
use Rattle.fs_trait.specs.Image.{is_folder, IsTree, Told}
use Rattle.fs_trait.specs.Effect.{no_leaf, no_folder, unless_leaf}
use Rattle.fs_trait.specs.Seen.{Seen, Vacant, seen, shows, MayShow, MayBe, IsDirectory}
use Rattle.fs_trait.specs.Change.{Writes}
use Rattle.fs_trait.proofs.Ways.{way-there, folder_of}
use Rattle.fs_trait.proofs.Refusals.{no_folder-there}
use Rattle.fs_trait.proofs.Effects.{named-writes, folder_synced-writes, shows_named, shows_named_apart, folder_synced-firm}
use Rattle.fs_trait.proofs.Claims.{folder_shows}
use Rattle.fs_trait.proofs.Facts.{vacant_absent}
use Rattle.repo_layout.specs.Paths.{in_repo, ref_path, stage_path}
use Rattle.repo_layout.specs.Place.{place, Stage, Ref}
use Rattle.repo_layout.proofs.Places.{place-ref, place-stage, place-apart}
use Rattle.ref_room.specs.Clash.{way_to, ref_folder}
use Rattle.ref_room.specs.Clearing.{IsLeaf}
use Rattle.ref_room.proofs.Names.{ref_folder-under}
use Rattle.fs_trait.proofs.Answering.{Step}
use Rattle.staged_file.specs.Steps.{IsPlaced}
use Rattle.ref_store.specs.declared.phase.Phase.{Phase}
use Rattle.ref_store.specs.declared.phase.Phase.TheVariants as phase
use Rattle.ref_store.specs.Change.{Change, made_in, keeps_folder, IsUnlink, IsSyncFolder}
use Rattle.ref_store.specs.Steps.{Needs, needs_in, writes_in, WritesOf, refuses_in, ShowsNew, leads}

pub is_unlink : (ph : Phase) → IsUnlink ph → ph ≡ phase.Unlink
is_unlink phase.Unlink is = refl
is_unlink phase.Look is = absurd is
is_unlink (phase.Clear c) is = absurd is
is_unlink (phase.Walk w) is = absurd is
is_unlink (phase.Put s) is = absurd is
is_unlink phase.SyncFolder is = absurd is
is_unlink phase.Ended is = absurd is

pub is_sync_folder : (ph : Phase) → IsSyncFolder ph → ph ≡ phase.SyncFolder
is_sync_folder phase.SyncFolder is = refl
is_sync_folder phase.Look is = absurd is
is_sync_folder (phase.Clear c) is = absurd is
is_sync_folder (phase.Walk w) is = absurd is
is_sync_folder (phase.Put s) is = absurd is
is_sync_folder phase.Unlink is = absurd is
is_sync_folder phase.Ended is = absurd is

pub kept_folder : (ph : Phase) → ph ≡ phase.SyncFolder → (name : List ℕ) (folder : Option Path) (f : Path) → keeps_folder ph name folder → folder ≡ Some f → f ≡ ref_folder name
kept_folder ph is name folder f keeps e =
    let k : folder ≡ Some (ref_folder name) = subst (λ x. keeps_folder x name folder) is keeps in
    let same : Some f ≡ Some (ref_folder name) = sym e ∙ k in cc

leaf_free : (d : Disk) (z : Value) → IsLeaf (seen d z) → unless_leaf z ≡ None
leaf_free d Absent leaf = absurd leaf
leaf_free d (Folder m) leaf = absurd leaf
leaf_free d (Link m l) leaf = refl
leaf_free d (File n) leaf = refl

leaf_there : (d : Disk) (z : Value) → IsLeaf (seen d z) → z ≢ Absent
leaf_there d Absent leaf = absurd leaf
leaf_there d (Folder m) leaf = absurd leaf
leaf_there d (Link m l) leaf = λ e. let n : Link m l ≡ Absent = e in cc
leaf_there d (File n) leaf = λ e. let n : File n ≡ Absent = e in cc

no_leaf-leaf : (d : Disk) (p : Path) → IsTree d → IsLeaf (shows d p) → no_leaf p d ≡ None
unfolding no_leaf
no_leaf-leaf d p tree leaf = rw (way-there d tree p (leaf_there d (d.at p) leaf)) (leaf_free d (d.at p) leaf)

pub folder_directory : (d : Disk) (z : Value) → is_folder z ≡ true → IsDirectory (seen d z)
folder_directory d (Folder m) e = tt
folder_directory d Absent e = let n : false ≡ true = e in cc
folder_directory d (Link m t) e = let n : false ≡ true = e in cc
folder_directory d (File k) e = let n : false ≡ true = e in cc

-- where the file is staged, and where it goes
pub stage-not_ref : (actor : ℕ) (name : List ℕ) → actor < 16 → stage_path actor ≢ ref_path name
stage-not_ref actor name few = place-apart (stage_path actor) (ref_path name) (λ e.
    let s : place (stage_path actor) ≡ Stage actor = subst (λ p. place p ≡ Stage actor) (append-nil (stage_path actor)) (place-stage actor [] (omega (arith, few))) in
    let n : Stage actor ≡ Ref name = sym s ∙ e ∙ place-ref name in cc)

pub stage-home : (actor : ℕ) → (g : Path) × (y : Name) × (stage_path actor ≡ under g y)
unfolding stage_path
stage-home actor = (in_repo (codes "tmp" ∷ []), codes "actor-" ++ decimal actor, refl)

pub stage-aside : (actor : ℕ) (k : ℕ) (name : List ℕ) → is_below (stage_path actor) (way_to k name) ≡ false
unfolding stage_path way_to is_below
stage-aside actor k name = refl

pub placed : (actor : ℕ) (name : List ℕ) → actor < 16 → IsPlaced (stage_path actor) (ref_folder name) (ref_path name)
placed actor name few = record {
  apart = stage-not_ref actor name few;
  staging = stage-home actor;
  aside = stage-aside actor _ name;
  inside = ref_folder-under name;
}

pub at-not_folder : (name : List ℕ) → ref_path name ≢ ref_folder name
at-not_folder name e = let u = ref_folder-under name in under-not_folder (ref_folder name) u.0 (sym u.1 ∙ e)

-- the call that failed, and want of memory, may stop each step
pub failed : (ph : Phase) (t : Change) (v : View) → refuses_in ph t v Failed
failed phase.Look t v = tt
failed (phase.Clear c) t v = tt
failed (phase.Walk w) t v = tt
failed (phase.Put s) t v = tt
failed phase.Unlink t v = tt
failed phase.SyncFolder t v = tt
failed phase.Ended t v = tt

pub no_memory : (ph : Phase) (t : Change) (v : View) → refuses_in ph t v NoMemory
no_memory phase.Look t v = tt
no_memory (phase.Clear c) t v = tt
no_memory (phase.Walk w) t v = tt
no_memory (phase.Put s) t v = tt
no_memory phase.Unlink t v = tt
no_memory phase.SyncFolder t v = tt
no_memory phase.Ended t v = tt

-- the task in its other form
pub as_is : (t u : Change) → t ≡ u → (v : View) (After : View → Type 0) (refusal : Option FsErr) (w : View) → Step (WritesOf t v) After v refusal w → Step (WritesOf u v) After v refusal w
as_is t u e v After refusal w step = subst (λ x. Step (WritesOf x v) After v refusal w) e step

pub written_as : (t u : Change) → t ≡ u → (ph : Phase) → t.phase ≡ ph → (v : View) (view : Option View) → Told view (λ w. Writes (writes_in ph t v) v w) → Told view (λ w. Writes (WritesOf u v) v w)
written_as t u e ph is v view told = (told.0, told.1, subst (λ x. Writes (WritesOf x v) v told.0) e (subst (λ f. Writes (writes_in f t v) v told.0) (sym is) told.2))

-- two facts on one view
pub told_both : (P Q R : View → Type 0) (view : Option View) → ((w : View) → P w → Q w → R w) → Told view P → Told view Q → Told view R
told_both P Q R view both a b = let same : b.0 ≡ a.0 = cc (a.1, b.1) in (a.0, a.1, both a.0 a.2 (subst Q same b.2))

module _ (t : Change) (v : View) (needs : Needs t v) where
  pub meets_in : (ph : Phase) → t.phase ≡ ph → needs_in ph t v
  meets_in ph is = subst (λ f. needs_in f t v) is needs.meets

  pub made : (ph : Phase) → t.phase ≡ ph → made_in ph t
  made ph is = subst (λ f. made_in f t) is needs.made

module _ (t : Change) (v : View) (tree : IsTree v.now) (needs : Needs t v) where
  written : (ph : Phase) (w : View) → t.phase ≡ ph → Writes (writes_in ph t v) v w → Writes (WritesOf t v) v w
  written ph w is writes = subst (λ f. Writes (writes_in f t v) v w) (sym is) writes

  -- the ref's file is taken away
  pub unlink : (at : Path) → at ≡ ref_path t.name → t.phase ≡ phase.Unlink
      → Step (WritesOf t v) (Needs (record t { phase = phase.SyncFolder })) v (no_leaf at v.now) (named at Absent v)
  unlink at e is = subst (λ p. Step (WritesOf t v) (Needs (record t { phase = phase.SyncFolder })) v (no_leaf p v.now) (named p Absent v)) (sym e)
      (let p = ref_path t.name in
      let w = named p Absent v in
      let leaf = meets_in t v needs phase.Unlink is in
      let u = ref_folder-under t.name in
      let there : v.now.at (under (ref_folder t.name) u.0) ≢ Absent = subst (λ q. v.now.at q ≢ Absent) u.1 (leaf_there v.now (v.now.at p) leaf) in
      record {
        free = no_leaf-leaf v.now p tree leaf;
        writes = written phase.Unlink w is (named-writes v p Absent);
        after = record {
          named = needs.named;
          actor = needs.actor;
          made = made t v needs phase.Unlink is;
          meets = (
            shows_named v p Absent,
            subst IsDirectory (sym (shows_named_apart v p Absent (ref_folder t.name) (at-not_folder t.name)))
                (folder_directory v.now (v.now.at (ref_folder t.name)) (folder_of v.now tree (ref_folder t.name) u.0 there)),
          );
        };
      })

  gone : (s : Seen) → shows v.now (ref_path t.name) ≡ Vacant → MayShow v (v.now.at (ref_path t.name)) s → s ≡ Vacant
  gone s vacant may = subst (λ z. MayShow v z s) (vacant_absent v.now (ref_path t.name) vacant) may

  removed : t.value ≡ None → (w : View) → ((s : Seen) → MayBe w (ref_path t.name) s → s ≡ Vacant) → needs_in phase.Ended (record t { phase = phase.Ended }) w
  removed none w vacant = subst (λ o. ((s : Seen) → MayBe w (ref_path t.name) s → ShowsNew o s) × leads o t.name w) (sym none) (vacant, tt)

  -- its folder is synced
  pub sync_folder : (folder : Path) → folder ≡ ref_folder t.name → t.phase ≡ phase.SyncFolder
      → Step (WritesOf t v) (Needs (record t { phase = phase.Ended })) v (no_folder folder v.now) (folder_synced folder v)
  sync_folder folder e is = subst (λ f. Step (WritesOf t v) (Needs (record t { phase = phase.Ended })) v (no_folder f v.now) (folder_synced f v)) (sym e)
      (let f = ref_folder t.name in
      let w = folder_synced f v in
      let now = meets_in t v needs phase.SyncFolder is in
      let u = ref_folder-under t.name in
      record {
        free = no_folder-there v.now tree f (folder_shows v.now f now.1);
        writes = written phase.SyncFolder w is (folder_synced-writes v f);
        after = record {
          named = needs.named;
          actor = needs.actor;
          made = tt;
          meets = removed (made t v needs phase.SyncFolder is) w
              (λ s may. gone s now.0 (subst (λ q. MayBe w q s → MayShow v (v.now.at q) s) (sym u.1) (folder_synced-firm v f u.0 s) may));
        };
      })
