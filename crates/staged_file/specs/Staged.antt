-- A file on its way to a path, and which step comes next.
use Rattle.std.specs.Prelude.{◌≡◌, ◌≤◌, ◌<◌, ◌+◌, nat_lt, ℕ, Bool, true, false, List, length, Option, Some, Result, Ok, Err, IsErrOf, OnOk, if◌then◌else◌}
use Rattle.ost_types.specs.declared.meta.Meta.{Meta}
use Rattle.ost_types.specs.Path.{Path}
use Rattle.fs_trait.specs.declared.types.FsErr.{FsErr}
use Rattle.fs_trait.specs.declared.types.FsErr.TheVariants.{NoMemory}
use Rattle.fs_trait.specs.declared.task.StepResult.{StepResult}
use Rattle.fs_trait.specs.declared.task.StepResult.TheVariants.{More, Done}
use Rattle.fs_trait.specs.declared.task.Need.{Need}
use Rattle.fs_trait.specs.declared.task.Need.TheVariants as need
use Rattle.fs_trait.specs.declared.types.Node.{Node}
use Rattle.fs_trait.specs.declared.types.Node.TheVariants.{Folder}
use Rattle.fs_trait.specs.Effect.{Next}
use Rattle.staging.specs.declared.phase.Phase as staging
use Rattle.staging.specs.declared.phase.Phase.TheVariants as stage
use Rattle.staging.specs.Draft as draft
use Rattle.staging.specs.Draft.{Draft}
use Rattle.staged_file.specs.declared.phase.Phase.{Phase}
use Rattle.staged_file.specs.declared.phase.Phase.TheVariants.{Clear, Create, Append, SyncFile, Look, Replace, SyncFolder, Ended}

-- the file's bytes and attributes, where it is staged and where it goes, the lock for that, and how far it is
pub record Staged : Type 0 where
  pub stage : Path
  pub folder : Path
  pub at : Path
  pub meta : Meta
  pub bytes : List ℕ
  pub lock : Need
  pub phase : Phase
  pub written : ℕ

-- whether a look found a folder
abbrev pub is_directory : Option Node → Bool
is_directory (Some (Folder m)) = true
is_directory x = false

-- how far the file is staged in each phase
abbrev pub stage_in : Phase → staging.Phase
stage_in Clear = stage.Clear
stage_in Create = stage.Create
stage_in Append = stage.Append
stage_in SyncFile = stage.SyncFile
stage_in ph = stage.Ended

-- the phase in which it is staged so far: the look at the target comes once the whole file is
abbrev pub phase_of : staging.Phase → Phase
phase_of stage.Clear = Clear
phase_of stage.Create = Create
phase_of stage.Append = Append
phase_of stage.SyncFile = SyncFile
phase_of stage.Ended = Look

-- whether the next step stages the file
abbrev pub is_staging : Phase → Bool
is_staging Clear = true
is_staging Create = true
is_staging Append = true
is_staging SyncFile = true
is_staging ph = false

-- the file as it is staged
abbrev pub draft_of : Staged → Draft
draft_of t = record { stage = t.stage; meta = t.meta; bytes = t.bytes; phase = stage_in t.phase; written = t.written }

abbrev pub piece_end : Staged → ℕ
piece_end t = draft.piece_end (draft_of t)

-- so many bytes are written
abbrev pub filled : ℕ → Staged → Staged
filled n t = record t { written = n; phase = if nat_lt n (length t.bytes) then Append else SyncFile }

-- the task after its next step
abbrev pub next_in : Phase → Staged → Staged
next_in Clear t = record t { phase = Create }
next_in Create t = filled 0 t
next_in Append t = filled (piece_end t) t
next_in SyncFile t = record t { phase = Look }
next_in Look t = record t { phase = Replace }
next_in Replace t = record t { phase = SyncFolder }
next_in SyncFolder t = record t { phase = Ended }
next_in Ended t = t

abbrev pub next : Staged → Staged
next t = next_in t.phase t

-- whether the task is done when that step is
abbrev pub is_last : Phase → Bool
is_last SyncFolder = true
is_last Ended = true
is_last ph = false

-- which step it was, and what changed in the task
abbrev pub IsStepped : {T : Type 0} → Staged → Result (StepResult T) FsErr → Staged → Type 0
IsStepped old (Ok More) new = (new ≡ next old) × (is_last old.phase ≡ false)
IsStepped old (Ok (Done x)) new = (new ≡ next old) × (is_last old.phase ≡ true)
IsStepped old (Err e) new = new ≡ old

-- no more steps than this are left: those that stage the file, each byte as one, and then the look, the rename and the folder's sync
abbrev pub left_in : Phase → Staged → ℕ
left_in Replace t = 2
left_in SyncFolder t = 1
left_in Ended t = 0
left_in ph t = draft.left_in (stage_in ph) (draft_of t) + 3

abbrev pub left : Staged → ℕ
left t = left_in t.phase t

-- the lock under which a step stands: none while the file is staged, and the task's own from the look at the target on
abbrev pub lock_in : Phase → Staged → Need
lock_in Clear t = need.Nothing
lock_in Create t = need.Nothing
lock_in Append t = need.Nothing
lock_in SyncFile t = need.Nothing
lock_in Ended t = need.Nothing
lock_in ph t = t.lock

-- how a step moves the clock
abbrev pub Takes : Phase → ℕ → ℕ → Type 0
Takes Replace before now = Next before now
Takes SyncFolder before now = Next before now
Takes ph before now = draft.Takes (stage_in ph) before now

-- the steps behind the one that shows the file are owed
abbrev pub is_owed : Phase → Bool
is_owed SyncFolder = true
is_owed ph = false

-- for how many owed steps a step leaves room
abbrev pub owed_after : Phase → ℕ
owed_after Replace = 1
owed_after ph = 0

-- A step takes the room of at most one call. An owed one that has room doesn't lack memory, and the one that shows the
-- file leaves room for those that are owed then.
pub record KeepsRoom {T : Type 0} (ph : Phase) (before now : ℕ) (result : Result T FsErr) : Type 0 where
  pub at_most_one : before ≤ now + 1
  pub enough : is_owed ph ≡ true → 0 < before → IsErrOf result NoMemory → ⊥
  pub ready : OnOk result (owed_after ph ≤ now)
