-- A whole run of an edit beside what others do: what it writes, what a crash leaves of it, and what others leave alone.
use Rattle.std.specs.Prelude.{◌≡◌, ◌⊎◌, ℕ, true, List}
use Rattle.ost_types.specs.declared.meta.Meta.{Meta}
use Rattle.ost_types.specs.Path.{Name, Path, is_in, under}
use Rattle.fs_trait.specs.declared.types.Value.TheVariants.{File}
use Rattle.fs_trait.specs.declared.task.Need.TheVariants.{RefLock}
use Rattle.fs_trait.specs.View.{Disk, View}
use Rattle.fs_trait.specs.Effect.{IsFresh}
use Rattle.fs_trait.specs.Seen.{Seen, Vacant, Leaf, shows, MayBe, IsDirectory, NotDirectory}
use Rattle.fs_trait.specs.Change.{Harmless, LeadsTo, Own}
use Rattle.host_edit.specs.declared.edit.Edit.{Edit}
use Rattle.host_edit.specs.declared.edit.Edit.TheVariants.{Put}
use Rattle.host_edit.specs.declared.phase.Phase.{Phase}
use Rattle.host_edit.specs.declared.phase.Phase.TheVariants.{Stage, Clear, Link, Look, RemoveFolder}
use Rattle.host_edit.specs.Editing.{Editing, need_in}
use Rattle.host_edit.specs.Steps.{ShowsNew}
use Rattle.host_edit.specs.There.{HasParent, IsEmptyFolder}

-- where it may begin: what is put needs no folder at the staging path, and the folder that this is in
abbrev pub IsReady : Edit → Path → Disk → Type 0
IsReady (Put p l) stage d = NotDirectory (shows d stage) × HasParent d stage
IsReady e stage d = Unit {0}

-- what all steps together may write: no folder at the staging path, and at the edit's path what the edit says
abbrev pub Written : Editing → Path → Seen → Type 0
Written t p s = ((p ≡ t.stage) × NotDirectory s) ⊎ ((p ≡ t.at) × ShowsNew t.change s)

-- The edit and its paths stay.
pub record IsSame (old new : Editing) : Type 0 where
  pub stage : new.stage ≡ old.stage
  pub at : new.at ≡ old.at
  pub path : new.path ≡ old.path
  pub shows : (s : Seen) → ShowsNew new.change s → ShowsNew old.change s

-- what was or may have been at the edit's path, or what the edit says
abbrev pub IsOldOrNew : Editing → View → Seen → Type 0
IsOldOrNew t v s = MayBe v t.at s ⊎ ShowsNew t.change s

-- after each crash folders lead to the edit's path
abbrev pub LeadsThere : Editing → View → Type 0
LeadsThere t v = (f : Path) → is_in f t.at ≡ true → (p : Path) (s : Seen) → MayBe v p s → LeadsTo f p s

-- Where a write of the next step lies: at the staging path, or, under the lock, at the edit's path, where it is what the edit says.
-- A file that is written is a new one or the staged one. A write takes no folder's place but that of an empty one that is removed.
pub record Lies (t : Editing) (v : View) (p : Path) (s : Seen) : Type 0 where
  pub place : ((p ≡ t.stage) × NotDirectory s) ⊎ ((p ≡ t.at) × ShowsNew t.change s × (need_in t.phase ≡ RefLock))
  pub comes : (n : ℕ) (m : Meta) (b : List ℕ) → s ≡ Leaf n m b → IsFresh n v ⊎ (v.now.at t.stage ≡ File n)
  pub folders : NotDirectory (shows v.now p) ⊎ ((t.phase ≡ RemoveFolder) × IsEmptyFolder v.now p)

-- whether the path was looked at
abbrev pub IsLooked : Phase → Type 0
IsLooked Stage = ⊥
IsLooked Clear = ⊥
IsLooked Link = ⊥
IsLooked Look = ⊥
IsLooked ph = Unit {0}

-- The writes of others spare the edit: they write nothing at its staging path, leave folders where folders are above it, and give
-- the staged file no other name. From the look on they write nothing at its path, leave the folder that this is in, and put nothing
-- into a folder that is to be removed.
pub record Spares (W : Path → Seen → Type 0) (t : Editing) (v : View) : Type 0 where
  pub stage : (s : Seen) → W t.stage s → ⊥
  pub parents : (p : Path) (s : Seen) → is_in p t.stage ≡ true → IsDirectory (shows v.now p) → W p s → IsDirectory s
  pub own : (n : ℕ) → v.now.at t.stage ≡ File n → ((p : Path) (s : Seen) → MayBe v p s → Own n t.stage p s) → Harmless W (Own n t.stage)
  pub path : IsLooked t.phase → (s : Seen) → W t.at s → ⊥
  pub parent : IsLooked t.phase → (p : Path) (s : Seen) → is_in p t.at ≡ true → IsDirectory (shows v.now p) → W p s → IsDirectory s
  pub inside : t.phase ≡ RemoveFolder → (x : Name) (s : Seen) → W (under t.at x) s → s ≡ Vacant
