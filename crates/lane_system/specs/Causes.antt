-- That commands end for calls that failed only where calls failed.
use Rattle.std.specs.Prelude.{◌≡◌, ◌≤◌, ℕ, List, Option, Some}
use Rattle.fs_trait.specs.Count.{Rose}
use Rattle.rely_guarantee.specs.declared.kind.Halt.{Halt}
use Rattle.rely_guarantee.specs.declared.kind.Halt.TheVariants as halt
use Rattle.lane_system.specs.declared.lane.Lane.{Lane}
use Rattle.lane_system.specs.declared.lane.Reply.{Reply}
use Rattle.lane_system.specs.Lanes.{IsTo}
use Rattle.lane_system.specs.Replies.{IsFailure}
use Rattle.lane_system.specs.System.{System}

-- Since the count of failed calls was this: it rose if all commands were ended for a failed call, and if any reply tells of one.
pub record AreCausedIn {T W A : Type 0} (before now : ℕ) (halted : Option Halt) (lanes : List (Lane T W A)) : Type 0 where
  pub later : before ≤ now
  pub halts : halted ≡ Some halt.Failed → Rose before now
  pub each : (lane number : ℕ) (r : Reply A) → IsTo lanes lane number r → IsFailure r.answer → Rose before now

-- so of a system
abbrev pub AreCaused : {F T W A : Type 0} → (F → ℕ) → ℕ → System F T W A → Type 0
AreCaused faults before s = AreCausedIn before (faults s.base.fs) s.base.books.halted s.lanes
