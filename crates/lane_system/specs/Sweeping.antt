-- That what was removed is told by the history.
use Rattle.std.specs.Prelude.{◌≡◌, ℕ, List, [], Option}
use Rattle.fs_trait.specs.View.{View}
use Rattle.lane_system.specs.declared.lane.Lane.{Lane}
use Rattle.lane_system.specs.declared.lane.Reply.{Reply}
use Rattle.lane_system.specs.Lanes.{IsTo}
use Rattle.lane_system.specs.Ranks.{HasEnded}
use Rattle.lane_system.specs.Removals.{swept_in}
use Rattle.lane_system.specs.Replies.{IsCutOff, IsTold}
use Rattle.lane_system.specs.System.{System}

-- no command was cut short
abbrev pub AreWhole : {T W A : Type 0} → Type 0 → List (Lane T W A) → Type 0
AreWhole {T} {W} {A} told lanes = (lane number : ℕ) (r : Reply A) → IsTo lanes lane number r → ¬ (IsCutOff told r.answer)

-- once all commands have their replies, and none was cut short, no removal goes on that the history doesn't tell
abbrev pub IsAllTold : {F T W A : Type 0} → (F → Option View) → System F T W A → Type 0
IsAllTold view s = HasEnded s → AreWhole (IsTold view) s.lanes → swept_in s.base.books ≡ []
