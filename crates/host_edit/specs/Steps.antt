-- What each step needs, writes, tells and is refused for.
use Rattle.std.specs.Prelude.{◌≡◌, ℕ, List, Option, Some, Result, Ok, Err, OnOk, IfOk, IfErr, IsErrOf}
use Rattle.ost_types.specs.declared.meta.Meta.{Meta}
use Rattle.ost_types.specs.Path.{Path}
use Rattle.fs_trait.specs.declared.types.FsErr.{FsErr}
use Rattle.fs_trait.specs.declared.types.FsErr.TheVariants as fs
use Rattle.fs_trait.specs.declared.task.StepResult.{StepResult}
use Rattle.fs_trait.specs.declared.task.StepResult.TheVariants.{More, Done}
use Rattle.fs_trait.specs.View.{View}
use Rattle.fs_trait.specs.Image.{Told}
use Rattle.fs_trait.specs.Effect.{OfNone}
use Rattle.fs_trait.specs.Seen.{Seen, Vacant, Directory, Symlink, Leaf, shows, MayBe, NotDirectory}
use Rattle.fs_trait.specs.Change.{Moves, Writes}
use Rattle.staging.specs.Draft.{Draft}
use Rattle.staging.specs.Steps as staging
use Rattle.host_edit.specs.declared.change.Change.{Change}
use Rattle.host_edit.specs.declared.change.Change.TheVariants.{File, Folder, Nothing}
use Rattle.host_edit.specs.declared.change.Change.TheVariants as change
use Rattle.host_edit.specs.declared.phase.Phase.{Phase}
use Rattle.host_edit.specs.declared.phase.Phase.TheVariants.{Stage, Clear, Link, Look, Replace, MakeFolder, Unlink, RemoveFolder, Sync, Ended}
use Rattle.host_edit.specs.declared.refusal.EditRefusal.{EditRefusal}
use Rattle.host_edit.specs.Editing.{Editing, IsMade}
use Rattle.host_edit.specs.Refusals.{IsAllowed, IsRefused}
use Rattle.host_edit.specs.There.{HasParent, IsEmptyFolder, IsLeaf}

-- what the path shows once the change is made
abbrev pub ShowsNew : Change → Seen → Type 0
ShowsNew (File d) s = (n : ℕ) × (s ≡ Leaf n d.meta d.bytes)
ShowsNew (change.Link m target) s = s ≡ Symlink m target
ShowsNew (Folder m) s = s ≡ Directory m
ShowsNew Nothing s = s ≡ Vacant

-- ---- what a step may write

-- what is staged, as it is shown at the path
abbrev pub IsStagedLeaf : Change → View → Seen → Type 0
IsStagedLeaf (File d) v s = staging.IsWhole d v s
IsStagedLeaf (change.Link m target) v s = s ≡ Symlink m target
IsStagedLeaf c v s = ⊥

abbrev pub stage_writes : Change → View → Path → Seen → Type 0
stage_writes (File d) v p s = staging.WritesOf d v p s
stage_writes c v p s = ⊥

abbrev pub writes_in : Phase → Editing → View → Path → Seen → Type 0
writes_in Stage t v p s = stage_writes t.change v p s
writes_in Clear t v p s = (p ≡ t.stage) × (s ≡ Vacant)
writes_in Link t v p s = (p ≡ t.stage) × ShowsNew t.change s
writes_in Replace t v p s = Moves t.stage t.at (IsStagedLeaf t.change v) p s
writes_in MakeFolder t v p s = (p ≡ t.at) × ShowsNew t.change s
writes_in Unlink t v p s = (p ≡ t.at) × ShowsNew t.change s
writes_in RemoveFolder t v p s = (p ≡ t.at) × ShowsNew t.change s
writes_in ph t v p s = ⊥

abbrev pub WritesOf : Editing → View → Path → Seen → Type 0
WritesOf t v = writes_in t.phase t v

-- ---- what the next step needs

-- what is staged, if anything is: the whole file, synced and with one name, or the link
abbrev pub IsStaged : Change → Path → View → Type 0
IsStaged (File d) stage v = staging.Needs d v
IsStaged (change.Link m target) stage v = shows v.now stage ≡ Symlink m target
IsStaged c stage v = Unit {0}

-- The change is made, and a file's bytes are sure, but the folder isn't synced yet.
pub record IsSureFile (d : Draft) (at : Path) (v : View) : Type 0 where
  pub inode : ℕ
  pub here : shows v.now at ≡ Leaf inode d.meta d.bytes
  pub sure : (m : Meta) (b : List ℕ) → MayBe v at (Leaf inode m b) → (m ≡ d.meta) × (b ≡ d.bytes)

abbrev pub IsShown : Change → Path → View → Type 0
IsShown (File d) at v = IsSureFile d at v
IsShown c at v = ShowsNew c (shows v.now at)

abbrev pub needs_in : Phase → Editing → View → Type 0
needs_in Stage t v = IsStaged t.change t.stage v
needs_in Clear t v = NotDirectory (shows v.now t.stage) × HasParent v.now t.stage
needs_in Link t v = (shows v.now t.stage ≡ Vacant) × HasParent v.now t.stage
needs_in Look t v = IsStaged t.change t.stage v
needs_in Replace t v = IsStaged t.change t.stage v × NotDirectory (shows v.now t.at) × HasParent v.now t.at
needs_in MakeFolder t v = (shows v.now t.at ≡ Vacant) × HasParent v.now t.at
needs_in Unlink t v = IsLeaf (shows v.now t.at) × HasParent v.now t.at
needs_in RemoveFolder t v = IsEmptyFolder v.now t.at × HasParent v.now t.at
needs_in Sync t v = IsShown t.change t.at v × HasParent v.now t.at
needs_in Ended t v = (s : Seen) → MayBe v t.at s → ShowsNew t.change s

pub record Needs (t : Editing) (v : View) : Type 0 where
  pub made : IsMade t
  pub meets : needs_in t.phase t v

-- ---- what a step tells

-- the look, that the edit may be made, or why not
abbrev pub goes_on : Phase → Editing → View → Type 0
goes_on Look t v = IsAllowed v.now t.at t.path t.change
goes_on ph t v = Unit {0}

abbrev pub Tells : Editing → View → StepResult (Result (Unit {0}) EditRefusal) → Type 0
Tells t v More = goes_on t.phase t v
Tells t v (Done (Ok x)) = Unit {0}
Tells t v (Done (Err refusal)) = (t.phase ≡ Look) × IsRefused v.now t.at t.path t.change refusal

-- What a step says of a view that is told: what it wrote, what the next one has, what its answer tells, that it wasn't done only where
-- a call failed or wanted for memory, and that one which wanted for memory changed nothing.
pub record IsToldStep (old new : Editing) (v : View) (r : Result (StepResult (Result (Unit {0}) EditRefusal)) FsErr) (view : Option View) : Type 0 where
  pub writes : Told view (λ w. Writes (WritesOf old v) v w)
  pub after : OnOk r (Told view (Needs new))
  pub tells : IfOk r (Tells old v)
  pub fails : IfErr r OfNone
  pub unchanged : IsErrOf r fs.NoMemory → view ≡ Some v
