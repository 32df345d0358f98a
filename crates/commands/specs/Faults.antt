-- Which of a script's answers tell of calls that failed, of a disk that something else than this program changed, and of a commit that isn't
-- there whole.
use Rattle.std.specs.Prelude.{◌≡◌, ℕ, List}
use Rattle.script.specs.declared.answer.Answer.{Answer}
use Rattle.script.specs.declared.answer.Answer.TheVariants as answer

-- a call failed
abbrev pub IsFailure : Answer → Type 0
IsFailure answer.DiskFault = Unit {0}
IsFailure (answer.Halted count) = Unit {0}
IsFailure a = ⊥

-- something else changed what stands at a path
abbrev pub IsOutside : Answer → Type 0
IsOutside (answer.Outside path) = Unit {0}
IsOutside a = ⊥

-- this commit isn't there, or has a mark
abbrev pub IsAbsence : List ℕ → Answer → Type 0
IsAbsence commit (answer.NoCommit sum) = sum ≡ commit
IsAbsence commit (answer.Partial sum) = sum ≡ commit
IsAbsence commit a = ⊥
