-- Two files that are being compared, and which step comes next.
use Rattle.std.specs.Prelude.{◌≡◌, ◌≢◌, ◌⊎◌, ◌==◌, ◌≤◌, ◌<◌, ◌+◌, ◌-◌, ◌↔◌, nat_lt, ℕ, Bool, true, false, IsTrue, List, length, take, Option, Some, None, Result, Ok, Err, if◌then◌else◌}
use Rattle.ost_types.specs.Path.{Path}
use Rattle.fs_trait.specs.declared.types.FsErr.{FsErr}
use Rattle.fs_trait.specs.declared.task.StepResult.{StepResult}
use Rattle.fs_trait.specs.declared.task.StepResult.TheVariants.{More, Done}
use Rattle.fs_trait.specs.Count.{last}
use Rattle.fs_trait.specs.View.{Disk}
use Rattle.fs_trait.specs.Image.{reads}
use Rattle.file_copy.specs.declared.comparing.ComparePhase.{ComparePhase}
use Rattle.file_copy.specs.declared.comparing.ComparePhase.TheVariants.{Look, Compare, Ended}
use Rattle.file_copy.specs.Pieces.{piece_end}

-- which files are compared, and how far that is
pub record Comparing : Type 0 where
  pub one : Path
  pub other : Path
  pub phase : ComparePhase

abbrev pub begun : Path → Path → Comparing
begun one other = record { one = one; other = other; phase = Look }

-- both paths show regular files, with the same bytes
abbrev pub AreSame : Disk → Path → Path → Type 0
AreSame d one other = (b : List ℕ) × (reads d one ≡ Some b) × (reads d other ≡ Some b)

abbrev pub Answers : Disk → Comparing → Bool → Type 0
Answers d t same = IsTrue same ↔ AreSame d t.one t.other

-- something is left to compare
abbrev pub IsWithin : ComparePhase → Type 0
IsWithin (Compare size at) = (at < size) × (size ≤ last)
IsWithin ph = Unit {0}

-- Both files have so many bytes, and the same ones up to a place.
pub record Agree (d : Disk) (one other : Path) (size at : ℕ) : Type 0 where
  pub first : List ℕ
  pub second : List ℕ
  pub of_one : reads d one ≡ Some first
  pub of_other : reads d other ≡ Some second
  pub as_long : length first ≡ size
  pub no_longer : length second ≡ size
  pub front : take at first ≡ take at second

-- what the next step needs
abbrev pub needs_in : ComparePhase → Comparing → Disk → Type 0
needs_in Look t d = Unit {0}
needs_in (Compare size at) t d = Agree d t.one t.other size at
needs_in (Ended same) t d = Answers d t same

abbrev pub Needs : Comparing → Disk → Type 0
Needs t d = needs_in t.phase t d

-- how many bytes both files have, where they have as many
abbrev pub common : Option ℕ → Option ℕ → Option ℕ
common (Some m) (Some n) = if m == n then Some m else None
common a b = None

-- what comes next where both have so many bytes, or not as many,
abbrev pub looked : Option ℕ → ComparePhase
looked None = Ended false
looked (Some n) = if n == 0 then Ended true else Compare n 0

-- and where so many of them are the same
abbrev pub reached : ℕ → ℕ → ComparePhase
reached size n = if nat_lt n size then Compare size n else Ended true

-- The pieces at a place are the same, or they aren't.
abbrev pub IsCompared : ℕ → ℕ → List ℕ → List ℕ → ComparePhase → Type 0
IsCompared size at first second ph = ((first ≡ second) × (ph ≡ reached size (at + length first))) ⊎ ((first ≢ second) × (ph ≡ Ended false))

-- Which step it was: a look; or a piece, which has at least one byte.
abbrev pub goes_in : ComparePhase → ComparePhase → Type 0
goes_in Look new = (o : Option ℕ) × (new ≡ looked o)
goes_in (Compare size at) new = (new ≡ Ended false) ⊎ ((n : ℕ) × (at < n) × (n ≤ piece_end size at) × (new ≡ reached size n))
goes_in (Ended same) new = new ≡ Ended same

-- a task that has its answer is done
abbrev pub turn_of : ComparePhase → StepResult Bool
turn_of (Ended same) = Done same
turn_of ph = More

abbrev pub IsStepped : Comparing → Result (StepResult Bool) FsErr → Comparing → Type 0
IsStepped old (Ok turn) new = goes_in old.phase new.phase × (new ≡ record old { phase = new.phase }) × (turn ≡ turn_of new.phase)
IsStepped old (Err e) new = new ≡ old

-- a whole piece was compared, where that isn't the end
abbrev pub IsWhole : ComparePhase → ComparePhase → Type 0
IsWhole (Compare size at) (Compare same n) = n ≡ piece_end size at
IsWhole old new = Unit {0}

-- the answer, once it is there
abbrev pub OnDone : Result (StepResult Bool) FsErr → (Bool → Type 0) → Type 0
OnDone (Ok (Done same)) P = P same
OnDone r P = Unit {0}

abbrev pub OnMore : Result (StepResult Bool) FsErr → Type 0 → Type 0
OnMore (Ok More) P = P
OnMore r P = Unit {0}

-- no more steps than this are left: each byte counts as one, and files whose sizes aren't known as the longest
abbrev pub left_in : ComparePhase → ℕ
left_in Look = 1 + last
left_in (Compare size at) = size - at
left_in (Ended same) = 0

abbrev pub left : Comparing → ℕ
left t = left_in t.phase
