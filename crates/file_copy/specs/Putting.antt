-- A file that is put at a path with the bytes of another one, and which step comes next.
use Rattle.std.specs.Prelude.{◌≡◌, ◌⊎◌, ◌+◌, ℕ, Bool, false, true, Result, Ok, Err}
use Rattle.ost_types.specs.declared.meta.Meta.{Meta}
use Rattle.ost_types.specs.Path.{Path}
use Rattle.fs_trait.specs.declared.types.FsErr.{FsErr}
use Rattle.fs_trait.specs.declared.task.StepResult.{StepResult}
use Rattle.fs_trait.specs.declared.task.StepResult.TheVariants.{More, Done}
use Rattle.fs_trait.specs.View.{Disk}
use Rattle.fs_trait.specs.Effect.{Next}
use Rattle.staging.specs.Draft as staging
use Rattle.file_copy.specs.declared.putting.PutPhase.{PutPhase}
use Rattle.file_copy.specs.declared.putting.PutPhase.TheVariants.{Compare, Copy, Replace, Ended}
use Rattle.file_copy.specs.Comparing as compare
use Rattle.file_copy.specs.Comparing.{Comparing}
use Rattle.file_copy.specs.Copying as copy
use Rattle.file_copy.specs.Copying.{Copying}

-- where the copy goes, and how far its comparison and its copying are
pub record Putting : Type 0 where
  pub at : Path
  pub comparing : Comparing
  pub copying : Copying
  pub phase : PutPhase

abbrev pub begun : Path → Path → Path → Meta → Putting
begun from stage at meta = record { at = at; comparing = compare.begun at from; copying = copy.begun from stage meta; phase = Compare }

-- what each such task keeps
pub record IsMade (t : Putting) : Type 0 where
  pub target : t.comparing.one ≡ t.at
  pub source : t.comparing.other ≡ t.copying.from

-- what comes next once it is known whether what stands there has the bytes
abbrev pub after : Bool → PutPhase
after true = Ended
after false = Copy

abbrev pub turn_of : Bool → StepResult (Unit {0})
turn_of true = Done tt
turn_of false = More

-- Which step it was, and what changed in the task.
abbrev pub goes_in : PutPhase → Putting → StepResult (Unit {0}) → Putting → Type 0
goes_in Compare old More new = ((c : Comparing) × compare.IsStepped old.comparing (Ok More) c × (new ≡ record old { comparing = c }))
    ⊎ ((c : Comparing) × compare.IsStepped old.comparing (Ok (Done false)) c × (new ≡ record old { comparing = c; phase = Copy }))
goes_in Compare old (Done x) new = (c : Comparing) × compare.IsStepped old.comparing (Ok (Done true)) c × (new ≡ record old { comparing = c; phase = Ended })
goes_in Copy old More new = ((c : Copying) × copy.IsStepped {T = Unit {0}} old.copying (Ok More) c × (new ≡ record old { copying = c }))
    ⊎ ((c : Copying) × copy.IsStepped {T = Unit {0}} old.copying (Ok (Done tt)) c × (new ≡ record old { copying = c; phase = Replace }))
goes_in Copy old (Done x) new = ⊥
goes_in Replace old turn new = (turn ≡ Done tt) × (new ≡ record old { phase = Ended })
goes_in Ended old turn new = (turn ≡ Done tt) × (new ≡ old)

abbrev pub IsStepped : Putting → Result (StepResult (Unit {0})) FsErr → Putting → Type 0
IsStepped old (Ok turn) new = goes_in old.phase old turn new
IsStepped old (Err e) new = new ≡ old

-- what is copied goes over other bytes
abbrev pub Differs : Putting → Putting → Disk → Type 0
Differs old new d = old.phase ≡ Compare → new.phase ≡ Copy → compare.AreSame d old.at old.copying.from → ⊥

-- no more steps than this are left
abbrev pub left_in : PutPhase → Putting → ℕ
left_in Compare t = compare.left t.comparing + copy.left t.copying + 3
left_in Copy t = copy.left t.copying + 2
left_in Replace t = 1
left_in Ended t = 0

abbrev pub left : Putting → ℕ
left t = left_in t.phase t

abbrev pub OnMore : Result (StepResult (Unit {0})) FsErr → Type 0 → Type 0
OnMore (Ok More) P = P
OnMore r P = Unit {0}

-- how a step moves the clock
abbrev pub takes_in : PutPhase → Putting → ℕ → ℕ → Type 0
takes_in Compare t before now = now ≡ before
takes_in Copy t before now = staging.Takes t.copying.phase before now
takes_in Replace t before now = Next before now
takes_in Ended t before now = now ≡ before

abbrev pub Takes : Putting → ℕ → ℕ → Type 0
Takes t = takes_in t.phase t
