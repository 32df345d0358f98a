-- What the reply that came last tells of what is there once no command is left.
use Rattle.std.specs.Prelude.{◌≤◌, ℕ, List}
use Rattle.ost_types.specs.declared.limits.Limits.{Limits}
use Rattle.fs_trait.specs.View.{View}
use Rattle.rely_guarantee.specs.declared.books.Entry.{Entry}
use Rattle.rely_guarantee.specs.State.{SystemState, opening_state}
use Rattle.command.specs.Meaning.{Meaning}
use Rattle.command.specs.Since.{begun_in, placed}
use Rattle.lane_system.specs.declared.lane.Lane.{Lane}
use Rattle.lane_system.specs.declared.lane.Reply.{Reply}
use Rattle.lane_system.specs.Lanes.{IsCommand, IsTo}
use Rattle.lane_system.specs.Ranks.{IsOver}
use Rattle.lane_system.specs.Replies.{IfAnswer}
use Rattle.lane_system.specs.States.{state_after}
use Rattle.lane_system.specs.System.{System}

-- no reply of these lanes came later
abbrev pub IsLast : {T W A : Type 0} → List (Lane T W A) → Reply A → Type 0
IsLast {T} {W} {A} lanes r = (lane number : ℕ) (q : Reply A) → IsTo lanes lane number q → q.order ≤ r.order

-- what that one shows behind its act is so in this view
abbrev pub LastRemainsIn : {T W A : Type 0} → Meaning W A → Limits → SystemState → List Entry → List (Lane T W A) → View → Type 0
LastRemainsIn {T} {W} {A} m limits begin entries lanes v = (lane number : ℕ) (r : Reply A) (c : W) → IsTo lanes lane number r → IsCommand lanes lane number c → IsLast lanes r
    → IfAnswer (λ a. m.remains (placed (begun_in limits (state_after begin entries r.start)) (state_after begin entries r.place)) v a c) r.answer

-- so of a system that has no command left
abbrev pub LastRemains : {F T W A : Type 0} → Meaning W A → System F T W A → View → Type 0
LastRemains m s v = IsOver s → LastRemainsIn m s.limits (opening_state s.base.books.start) s.base.books.history.items s.lanes v
