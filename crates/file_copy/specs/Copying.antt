-- A file that is being copied, and which step comes next.
use Rattle.std.specs.Prelude.{◌≡◌, ◌≤◌, ◌<◌, ◌+◌, ◌-◌, nat_lt, ℕ, false, true, List, Result, Ok, Err, if◌then◌else◌}
use Rattle.ost_types.specs.declared.meta.Meta.{Meta}
use Rattle.ost_types.specs.Path.{Path}
use Rattle.ost_types.specs.Mode.{IsFileMode}
use Rattle.fs_trait.specs.declared.types.FsErr.{FsErr}
use Rattle.fs_trait.specs.declared.task.StepResult.{StepResult}
use Rattle.fs_trait.specs.declared.task.StepResult.TheVariants.{More, Done}
use Rattle.fs_trait.specs.Count.{last}
use Rattle.staging.specs.declared.phase.Phase.{Phase}
use Rattle.staging.specs.declared.phase.Phase.TheVariants.{Clear, Create, Append, SyncFile, Ended}
use Rattle.staging.specs.Draft.{Draft, is_last}
use Rattle.file_copy.specs.Pieces.{piece_end}

-- whose bytes are copied, where the copy is staged, its attributes, and how far it is; the size is known once the file is made
pub record Copying : Type 0 where
  pub from : Path
  pub stage : Path
  pub meta : Meta
  pub phase : Phase
  pub size : ℕ
  pub written : ℕ

abbrev pub begun : Path → Path → Meta → Copying
begun from stage meta = record { from = from; stage = stage; meta = meta; phase = Clear; size = 0; written = 0 }

-- the same as a file that is staged with these bytes
abbrev pub draft : Copying → List ℕ → Draft
draft t bytes = record { stage = t.stage; meta = t.meta; bytes = bytes; phase = t.phase; written = t.written }

-- what each such task keeps
pub record IsMade (t : Copying) : Type 0 where
  pub mode : IsFileMode t.meta.mode
  pub small : t.size ≤ last
  pub within : t.written ≤ t.size
  pub some : t.phase ≡ Append → t.written < t.size

-- so many bytes are staged
abbrev pub filled : ℕ → Copying → Copying
filled n t = record t { written = n; phase = if nat_lt n t.size then Append else SyncFile }

-- Which step it was, and what changed in the task: the file that is made has a size, and a piece has at least one byte.
abbrev pub goes_in : Phase → Copying → Copying → Type 0
goes_in Clear t new = new ≡ record t { phase = Create }
goes_in Create t new = (n : ℕ) × (new ≡ filled 0 (record t { size = n }))
goes_in Append t new = (n : ℕ) × (t.written < n) × (n ≤ piece_end t.size t.written) × (new ≡ filled n t)
goes_in SyncFile t new = new ≡ record t { phase = Ended }
goes_in Ended t new = new ≡ t

abbrev pub IsStepped : {T : Type 0} → Copying → Result (StepResult T) FsErr → Copying → Type 0
IsStepped old (Ok More) new = goes_in old.phase old new × (is_last old.phase ≡ false)
IsStepped old (Ok (Done x)) new = goes_in old.phase old new × (is_last old.phase ≡ true)
IsStepped old (Err e) new = new ≡ old

-- no more steps than this are left: each byte counts as one, and a file whose size isn't known as the longest
abbrev pub left_in : Phase → Copying → ℕ
left_in Clear t = 4 + last
left_in Create t = 3 + last
left_in Append t = 2 + (t.size - t.written)
left_in SyncFile t = 1
left_in Ended t = 0

abbrev pub left : Copying → ℕ
left t = left_in t.phase t
