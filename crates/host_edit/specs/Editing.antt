-- An edit on its way, and which step comes next.
use Rattle.std.specs.Prelude.{◌≡◌, ◌≢◌, ◌⊎◌, ◌≤◌, ◌<◌, ◌+◌, ◌++◌, ℕ, Bool, true, false, [], Result, Ok, Err, IsErrOf, OnOk, if◌then◌else◌}
use Rattle.ost_types.specs.Mode.{IsFolderMode, IsLinkMode}
use Rattle.ost_types.specs.Path.{Name, Path, is_below, under}
use Rattle.fs_trait.specs.declared.types.FsErr.{FsErr}
use Rattle.fs_trait.specs.declared.types.FsErr.TheVariants as fs
use Rattle.fs_trait.specs.declared.task.StepResult.{StepResult}
use Rattle.fs_trait.specs.declared.task.StepResult.TheVariants.{More, Done}
use Rattle.fs_trait.specs.declared.task.Need.{Need}
use Rattle.fs_trait.specs.declared.task.Need.TheVariants as need
use Rattle.fs_trait.specs.Effect.{Next, OfEmptying, OfFinding, OfPlacing}
use Rattle.staging.specs.declared.phase.Phase.TheVariants as stage
use Rattle.staging.specs.Draft as draft
use Rattle.staging.specs.Draft.{Draft}
use Rattle.host_edit.specs.declared.change.Change.{Change}
use Rattle.host_edit.specs.declared.change.Change.TheVariants.{File, Folder, Nothing}
use Rattle.host_edit.specs.declared.change.Change.TheVariants as change
use Rattle.host_edit.specs.declared.edit.Edit.{Edit}
use Rattle.host_edit.specs.declared.edit.Edit.TheVariants.{Put, Remove}
use Rattle.host_edit.specs.declared.edit.Edit.TheVariants as edit
use Rattle.host_edit.specs.declared.edit.NewLeaf.{NewLeaf}
use Rattle.host_edit.specs.declared.edit.NewLeaf.TheVariants as leaf
use Rattle.host_edit.specs.declared.phase.Phase.{Phase}
use Rattle.host_edit.specs.declared.phase.Phase.TheVariants.{Stage, Clear, Link, Look, Replace, MakeFolder, Unlink, RemoveFolder, Sync, Ended}
use Rattle.host_edit.specs.declared.progress.Progress.{Progress}
use Rattle.host_edit.specs.declared.progress.Progress.TheVariants as progress
use Rattle.host_edit.specs.declared.refusal.EditRefusal.{EditRefusal}
use Rattle.host_edit.specs.Edit.{link_meta, path_of}

-- where it is staged, which path it changes, that as the edit has it, what is to stand there, and how far that is
pub record Editing : Type 0 where
  pub stage : Path
  pub at : Path
  pub path : Path
  pub change : Change
  pub phase : Phase

abbrev pub in_phase : Phase → Editing → Editing
in_phase ph t = record t { phase = ph }

-- what the next step does to the path
abbrev pub progress_in : Phase → Progress
progress_in Stage = progress.Preparing
progress_in Clear = progress.Preparing
progress_in Link = progress.Preparing
progress_in Look = progress.Looking
progress_in Replace = progress.Showing
progress_in MakeFolder = progress.Showing
progress_in Unlink = progress.Showing
progress_in RemoveFolder = progress.Showing
progress_in Sync = progress.Settling
progress_in Ended = progress.Ended

-- ---- how it begins

abbrev pub leaf_change : Path → NewLeaf → Change
leaf_change s (leaf.File m bytes) = File (record { stage = s; meta = m; bytes = bytes; phase = stage.Clear; written = 0 })
leaf_change s (leaf.Link uid gid xattrs target) = change.Link (link_meta uid gid xattrs) target

abbrev pub change_of : Path → Edit → Change
change_of s (Put p l) = leaf_change s l
change_of s (edit.MakeFolder p m) = Folder m
change_of s (Remove p) = Nothing

abbrev pub first_phase : Change → Phase
first_phase (File d) = Stage
first_phase (change.Link m target) = Clear
first_phase (Folder m) = Look
first_phase Nothing = Look

abbrev pub begun : Path → Path → Edit → Editing
begun s etc e = record { stage = s; at = etc ++ path_of e; path = path_of e; change = change_of s e; phase = first_phase (change_of s e) }

-- ---- what each such task keeps

-- where its paths lie: the staging path elsewhere, and not on the way to the other one
pub record IsApart (stage at : Path) : Type 0 where
  pub inside : (f : Path) × (x : Name) × (at ≡ under f x)
  pub staging : (g : Path) × (y : Name) × (stage ≡ under g y)
  pub aside : is_below stage at ≡ false

abbrev pub IsMadeChange : Path → Change → Type 0
IsMadeChange s (File d) = d.stage ≡ s
IsMadeChange s (change.Link m target) = IsLinkMode m.mode × (target ≢ [])
IsMadeChange s (Folder m) = IsFolderMode m.mode
IsMadeChange s Nothing = Unit {0}

-- which changes a phase is of; the path is looked at only once all of the file is staged
abbrev pub fits : Phase → Change → Type 0
fits Stage (File d) = d.phase ≢ stage.Ended
fits Clear (change.Link m target) = Unit {0}
fits Link (change.Link m target) = Unit {0}
fits Look (File d) = d.phase ≡ stage.Ended
fits Look c = Unit {0}
fits Replace (File d) = d.phase ≡ stage.Ended
fits Replace (change.Link m target) = Unit {0}
fits MakeFolder (Folder m) = Unit {0}
fits Unlink Nothing = Unit {0}
fits RemoveFolder Nothing = Unit {0}
fits Sync c = Unit {0}
fits Ended c = Unit {0}
fits ph c = ⊥

pub record IsMade (t : Editing) : Type 0 where
  pub apart : IsApart t.stage t.at
  pub change : IsMadeChange t.stage t.change
  pub fits : fits t.phase t.change

-- ---- the steps

-- the file after its next step
abbrev pub staged : Change → Change
staged (File d) = File (draft.next d)
staged c = c

-- whether that is its last one
abbrev pub is_last : Change → Bool
is_last (File d) = draft.is_last d.phase
is_last c = true

-- the look leads to a step that makes the change, or the edit is refused and the task as it was
abbrev pub looks : Editing → StepResult (Result (Unit {0}) EditRefusal) → Editing → Type 0
looks old More new = (progress_in new.phase ≡ progress.Showing) × (new ≡ in_phase new.phase old)
looks old (Done (Ok x)) new = ⊥
looks old (Done (Err refusal)) new = new ≡ old

-- Which step it was, and what changed in the task.
abbrev pub steps_in : Phase → Editing → StepResult (Result (Unit {0}) EditRefusal) → Editing → Type 0
steps_in Stage old turn new = (turn ≡ More) × (new ≡ record old { change = staged old.change; phase = if is_last old.change then Look else Stage })
steps_in Clear old turn new = (turn ≡ More) × (new ≡ in_phase Link old)
steps_in Link old turn new = (turn ≡ More) × (new ≡ in_phase Look old)
steps_in Look old turn new = looks old turn new
steps_in Sync old turn new = (turn ≡ Done (Ok tt)) × (new ≡ in_phase Ended old)
steps_in Ended old turn new = (turn ≡ Done (Ok tt)) × (new ≡ old)
steps_in ph old turn new = (turn ≡ More) × (new ≡ in_phase Sync old)

-- One that wasn't done leaves the task as it was.
abbrev pub IsStepped : Editing → Result (StepResult (Result (Unit {0}) EditRefusal)) FsErr → Editing → Type 0
IsStepped old (Ok turn) new = steps_in old.phase old turn new
IsStepped old (Err e) new = new ≡ old

-- what is said of a step behind which there are more
abbrev pub OnMore : {T E : Type 0} → Result (StepResult T) E → Type 0 → Type 0
OnMore (Ok More) P = P
OnMore r P = Unit {0}

-- no more steps than this are left to stage the file,
abbrev pub left_to_stage : Change → ℕ
left_to_stage (File d) = draft.left d
left_to_stage c = 0

-- and in all
abbrev pub left_in : Phase → Change → ℕ
left_in Stage c = left_to_stage c + 3
left_in Clear c = 5
left_in Link c = 4
left_in Look c = 3
left_in Sync c = 1
left_in Ended c = 0
left_in ph c = 2

abbrev pub left : Editing → ℕ
left t = left_in t.phase t.change

-- the lock under which a step stands
abbrev pub need_in : Phase → Need
need_in Stage = need.Nothing
need_in Clear = need.Nothing
need_in Link = need.Nothing
need_in Ended = need.Nothing
need_in ph = need.RefLock

-- how a step moves the clock
abbrev pub stage_takes : Change → ℕ → ℕ → Type 0
stage_takes (File d) before now = draft.Takes d.phase before now
stage_takes c before now = ⊥

abbrev pub takes_in : Phase → Change → ℕ → ℕ → Type 0
takes_in Stage c before now = stage_takes c before now
takes_in Clear c before now = Next before now ⊎ (now ≡ before)
takes_in Look c before now = now ≡ before
takes_in Ended c before now = now ≡ before
takes_in ph c before now = Next before now

abbrev pub Takes : Editing → ℕ → ℕ → Type 0
Takes t = takes_in t.phase t.change

-- the sync behind the change is owed
abbrev pub is_owed : Phase → Bool
is_owed Sync = true
is_owed ph = false

-- for how many owed steps a step leaves room
abbrev pub owed_after : Phase → ℕ
owed_after Replace = 1
owed_after MakeFolder = 1
owed_after Unlink = 1
owed_after RemoveFolder = 1
owed_after ph = 0

-- A step takes the room of at most one call. The sync that has room doesn't lack memory, and the step that makes the change leaves
-- room for it.
pub record KeepsRoom {T : Type 0} (ph : Phase) (before now : ℕ) (result : Result T FsErr) : Type 0 where
  pub at_most_one : before ≤ now + 1
  pub enough : is_owed ph ≡ true → 0 < before → IsErrOf result fs.NoMemory → ⊥
  pub ready : OnOk result (owed_after ph ≤ now)

-- which refusals of calls a step has at all, told or not
abbrev pub OfPhase : Phase → FsErr → Type 0
OfPhase Stage = OfPlacing
OfPhase Clear = OfFinding
OfPhase Link = OfPlacing
OfPhase Look = OfFinding
OfPhase Replace = OfPlacing
OfPhase MakeFolder = OfPlacing
OfPhase Unlink = OfFinding
OfPhase RemoveFolder = OfEmptying
OfPhase Sync = OfFinding
OfPhase Ended = λ e. ⊥
