-- What stays of the objects of the store, whoever acts.
use Rattle.std.specs.Prelude.{◌≡◌, ◌≢◌, ◌⊎◌, ◌≤◌, ℕ, List, Contains, Option, Some}
use Rattle.ost_types.specs.declared.object.Kind.TheVariants.{Commit}
use Rattle.ost_types.specs.declared.object.ObjName.{ObjName}
use Rattle.ost_types.specs.Path.{Path}
use Rattle.ost_objects.specs.Object.{IsNamed}
use Rattle.fs_trait.specs.View.{Disk, View}
use Rattle.fs_trait.specs.Image.{Told}
use Rattle.fs_trait.specs.Seen.{Seen, Vacant, shows, MayBe}
use Rattle.fs_trait.specs.Change.{LeadsTo, Left}
use Rattle.repo_layout.specs.Paths.{mark_path, object_path, objects_folder_path}
use Rattle.repo_layout.specs.RefFile.{IsSum}
use Rattle.repo_model.specs.Objects.{Marked, object_in, path_of}
use Rattle.repo_model.specs.Trees.{name_of}
use Rattle.rely_guarantee.specs.Disks.{IsLeaf}
use Rattle.rely_guarantee.specs.Objects.{IsObjectSeen}
use Rattle.rely_guarantee.specs.SystemInvariant.{Leads}

-- No crash leaves the object's path vacant.
pub record IsSafe (v : View) (name : ObjName) : Type 0 where
  pub sum : IsSum name.csum
  pub there : (s : Seen) → MayBe v (path_of name) s → s ≢ Vacant
  pub above : Leads v (objects_folder_path name.csum)

-- Each crash leaves these bytes as the object of that name: the view as a store.
pub record AlwaysStores (v : View) (name : ObjName) (bytes : List ℕ) : Type 0 where
  pub holds : (s : Seen) → MayBe v (path_of name) s → object_in name.kind s ≡ Some bytes
  pub above : Leads v (objects_folder_path name.csum)
  pub named : IsNamed name bytes

-- Whatever a crash leaves at the object's path is nothing, or has its name.
pub record IsRight (v : View) (name : ObjName) : Type 0 where
  pub sum : IsSum name.csum
  pub each : (s : Seen) → MayBe v (path_of name) s → (s ≡ Vacant) ⊎ IsObjectSeen name.kind name.csum s

-- No crash leaves a mark of the commit.
pub record NeverMarked (commit : List ℕ) (v : View) : Type 0 where
  pub each : (s : Seen) → MayBe v (mark_path commit) s → IsLeaf s → ⊥

-- The commit's object outlasts each crash, and no crash leaves a mark of it.
pub record StaysFinished (v : View) (commit : List ℕ) : Type 0 where
  pub there : IsSafe v (name_of Commit commit)
  pub unmarked : NeverMarked commit v

-- On the disk as it is now the commit's object stands, folders lead to it, and no mark of it is there.
pub record IsFinishedNow (v : View) (commit : List ℕ) : Type 0 where
  pub sum : IsSum commit
  pub there : shows v.now (object_path Commit commit) ≢ Vacant
  pub above : (p : Path) → LeadsTo (objects_folder_path commit) p (shows v.now p)
  pub unmarked : IsLeaf (shows v.now (mark_path commit)) → ⊥

-- From one view to a later one, where no objects but these may have been removed in between: any other that is safe goes on to be
-- so, and nothing else comes to its path; what is right stays right; and any other commit that is safe and that no mark is of goes
-- on so.
pub record Stays (out : List ObjName) (v w : View) : Type 0 where
  pub safe : (name : ObjName) → ¬ (Contains out name) → IsSafe v name → IsSafe w name
  pub same : (name : ObjName) → ¬ (Contains out name) → IsSafe v name → (s : Seen) → MayBe w (path_of name) s → MayBe v (path_of name) s
  pub right : (name : ObjName) → IsRight v name → IsRight w name
  pub unmarked : (commit : List ℕ) → ¬ (Contains out (name_of Commit commit)) → IsSafe v (name_of Commit commit) → NeverMarked commit v → NeverMarked commit w

-- From a view to a disk that a crash left later.
pub record StaysOn (out : List ObjName) (v : View) (d : Disk) : Type 0 where
  pub same : (name : ObjName) → ¬ (Contains out name) → IsSafe v name → MayBe v (path_of name) (shows d (path_of name))
  pub right : (name : ObjName) → IsRight v name → (shows d (path_of name) ≡ Vacant) ⊎ IsObjectSeen name.kind name.csum (shows d (path_of name))
  pub unmarked : (commit : List ℕ) → ¬ (Contains out (name_of Commit commit)) → IsSafe v (name_of Commit commit) → NeverMarked commit v → Marked d commit → ⊥

-- From one moment, with this view, to a later one: what was so stays so now, and on each disk that a crash left since. A crash
-- left no other disks but those that it had left before.
pub record Outlasts (out : List ObjName) {F : Type 0} (clock : F → ℕ) (was : F → ℕ → View → Type 0) (old new : F) (v w : View) : Type 0 where
  pub later : clock old ≤ clock new
  pub now : Stays out v w
  pub since : (t : ℕ) (d : Disk) → clock old ≤ t → Left (was new) t d → StaysOn out v d
  pub earlier : (t : ℕ) (d : Disk) → Left (was new) t d → Left (was old) t d ⊎ StaysOn out v d

-- so it is where the view is told
abbrev pub Lasts : List ObjName → {F : Type 0} → (F → Option View) → (F → ℕ) → (F → ℕ → View → Type 0) → F → F → Type 0
Lasts out view clock was old new = (v : View) → view old ≡ Some v → Told (view new) (λ w. Outlasts out clock was old new v w)
