-- A symbolic link on its way to a path, and which step comes next.
use Rattle.std.specs.Prelude.{◌≡◌, ◌≢◌, ◌⊎◌, ◌≤◌, ◌+◌, ℕ, Bool, true, false, List, [], Result, Ok, Err, OnOk}
use Rattle.ost_types.specs.Path.{Name, Path, is_below, under}
use Rattle.fs_trait.specs.declared.types.FsErr.{FsErr}
use Rattle.fs_trait.specs.declared.task.StepResult.{StepResult}
use Rattle.fs_trait.specs.declared.task.StepResult.TheVariants.{More, Done}
use Rattle.fs_trait.specs.Effect.{Next}
use Rattle.checkout.specs.Remove as removal
use Rattle.folder_build.specs.declared.link.LinkPhase.{LinkPhase}
use Rattle.folder_build.specs.declared.link.LinkPhase.TheVariants.{Clear, Make, Replace, Ended}

-- where which link is staged and where it goes, and how far that is
pub record Linking : Type 0 where
  pub stage : Path
  pub at : Path
  pub target : List ℕ
  pub phase : LinkPhase

abbrev pub begun : Path → Path → List ℕ → Linking
begun stage at target = record { stage = stage; at = at; target = target; phase = Clear (removal.begun stage) }

-- where the task's paths lie: two names of which none is below the other
pub record IsPlaced (stage at : Path) : Type 0 where
  pub staging : (f : Path) × (x : Name) × (stage ≡ under f x)
  pub inside : (f : Path) × (x : Name) × (at ≡ under f x)
  pub aside : is_below stage at ≡ false
  pub apart : is_below at stage ≡ false

abbrev pub IsWithin : LinkPhase → Path → Type 0
IsWithin (Clear c) stage = c.at ≡ stage
IsWithin ph stage = Unit {0}

-- what each such task keeps
pub record IsMade (t : Linking) : Type 0 where
  pub placed : IsPlaced t.stage t.at
  pub target : t.target ≢ []
  pub within : IsWithin t.phase t.stage

abbrev pub IsClear : LinkPhase → Type 0
IsClear (Clear c) = Unit {0}
IsClear ph = ⊥

-- the step that shows the link
abbrev pub is_showing : LinkPhase → Bool
is_showing Replace = true
is_showing ph = false

-- Which step it was, and what changed in the task.
abbrev pub steps_in : LinkPhase → Linking → StepResult (Unit {0}) → Linking → Type 0
steps_in (Clear c) old More new = ((d : removal.Removing) × (new ≡ record old { phase = Clear d })) ⊎ (new ≡ record old { phase = Make })
steps_in (Clear c) old (Done x) new = ⊥
steps_in Make old turn new = (turn ≡ More) × (new ≡ record old { phase = Replace })
steps_in Replace old turn new = (turn ≡ Done tt) × (new ≡ record old { phase = Ended })
steps_in Ended old turn new = (turn ≡ Done tt) × (new ≡ old)

abbrev pub IsStepped : Linking → Result (StepResult (Unit {0})) FsErr → Linking → Type 0
IsStepped old (Ok turn) new = steps_in old.phase old turn new
IsStepped old (Err e) new = new ≡ old

-- no more steps than this are left
abbrev pub left_in : LinkPhase → ℕ
left_in (Clear c) = removal.left c + 3
left_in Make = 2
left_in Replace = 1
left_in Ended = 0

abbrev pub left : Linking → ℕ
left t = left_in t.phase

-- how a step moves the clock
abbrev pub Takes : LinkPhase → ℕ → ℕ → Type 0
Takes (Clear c) before now = Next before now ⊎ (now ≡ before)
Takes Make before now = Next before now
Takes Replace before now = Next before now
Takes Ended before now = now ≡ before

-- for how many later calls a step leaves room: the one that shows the link, for the sync behind it
abbrev pub owed_after : LinkPhase → ℕ
owed_after Replace = 1
owed_after ph = 0

-- A step takes the room of at most one call.
pub record KeepsRoom {T : Type 0} (ph : LinkPhase) (before now : ℕ) (result : Result T FsErr) : Type 0 where
  pub at_most_one : before ≤ now + 1
  pub ready : OnOk result (owed_after ph ≤ now)
