-- A file that is being staged, and which step comes next.
use Rattle.std.specs.Prelude.{◌≡◌, ◌⊎◌, ◌+◌, ◌-◌, nat_lt, ℕ, Bool, true, false, List, length, Result, Ok, Err, if◌then◌else◌}
use Rattle.ost_types.specs.declared.meta.Meta.{Meta}
use Rattle.ost_types.specs.Path.{Path}
use Rattle.fs_trait.specs.declared.types.FsErr.{FsErr}
use Rattle.fs_trait.specs.declared.task.StepResult.{StepResult}
use Rattle.fs_trait.specs.declared.task.StepResult.TheVariants.{More, Done}
use Rattle.fs_trait.specs.Effect.{Next}
use Rattle.staging.specs.declared.phase.Phase.{Phase}
use Rattle.staging.specs.declared.phase.Phase.TheVariants.{Clear, Create, Append, SyncFile, Ended}

-- where it is staged, its attributes and bytes, and how far it is
pub record Draft : Type 0 where
  pub stage : Path
  pub meta : Meta
  pub bytes : List ℕ
  pub phase : Phase
  pub written : ℕ

-- the most bytes that one step appends
abbrev pub piece : ℕ
piece = 1048576

abbrev pub piece_end : Draft → ℕ
piece_end t = if nat_lt piece (length t.bytes - t.written) then t.written + piece else length t.bytes

-- so many bytes are written
abbrev pub filled : ℕ → Draft → Draft
filled n t = record t { written = n; phase = if nat_lt n (length t.bytes) then Append else SyncFile }

-- the task after its next step
abbrev pub next_in : Phase → Draft → Draft
next_in Clear t = record t { phase = Create }
next_in Create t = filled 0 t
next_in Append t = filled (piece_end t) t
next_in SyncFile t = record t { phase = Ended }
next_in Ended t = t

abbrev pub next : Draft → Draft
next t = next_in t.phase t

-- whether the task is done when that step is
abbrev pub is_last : Phase → Bool
is_last SyncFile = true
is_last Ended = true
is_last ph = false

-- which step it was, and what changed in the task
abbrev pub IsStepped : {T : Type 0} → Draft → Result (StepResult T) FsErr → Draft → Type 0
IsStepped old (Ok More) new = (new ≡ next old) × (is_last old.phase ≡ false)
IsStepped old (Ok (Done x)) new = (new ≡ next old) × (is_last old.phase ≡ true)
IsStepped old (Err e) new = new ≡ old

-- no more steps than this are left: each byte counts as one
abbrev pub left_in : Phase → Draft → ℕ
left_in Clear t = 4 + length t.bytes
left_in Create t = 3 + length t.bytes
left_in Append t = 2 + (length t.bytes - t.written)
left_in SyncFile t = 1
left_in Ended t = 0

abbrev pub left : Draft → ℕ
left t = left_in t.phase t

-- how a step moves the clock
abbrev pub Takes : Phase → ℕ → ℕ → Type 0
Takes Clear before now = Next before now ⊎ (now ≡ before)
Takes Ended before now = now ≡ before
Takes ph before now = Next before now
