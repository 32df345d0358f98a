-- That what commands left outside of the store stays so.
use Rattle.std.specs.Prelude.{ℕ, List}
use Rattle.ost_types.specs.declared.limits.Limits.{Limits}
use Rattle.ost_types.specs.declared.object.ObjName.{ObjName}
use Rattle.fs_trait.specs.View.{View}
use Rattle.rely_guarantee.specs.declared.books.Entry.{Entry}
use Rattle.rely_guarantee.specs.Books.{Books, books_of}
use Rattle.rely_guarantee.specs.State.{SystemState, opening_state}
use Rattle.command.specs.Meaning.{Meaning}
use Rattle.command.specs.Since.{begun_in}
use Rattle.lane_system.specs.declared.lane.Lane.{Lane}
use Rattle.lane_system.specs.declared.lane.Reply.{Reply}
use Rattle.lane_system.specs.Lanes.{IsCommand, IsTo}
use Rattle.lane_system.specs.Removals.{gone_since, swept_in}
use Rattle.lane_system.specs.Replies.{IfAnswer}
use Rattle.lane_system.specs.States.{state_after}
use Rattle.lane_system.specs.System.{System}

-- each answer's command left what it says in this view, with these books, but for what was removed since the reply
abbrev pub AreStayingIn : {T W A : Type 0} → Meaning W A → Limits → SystemState → List Entry → List ObjName → List (Lane T W A) → View → Books → Type 0
AreStayingIn {T} {W} {A} m limits begin entries swept lanes v b = (lane number : ℕ) (r : Reply A) (c : W) → IsTo lanes lane number r → IsCommand lanes lane number c
    → IfAnswer (λ a. m.stays (begun_in limits (state_after begin entries r.start)) (gone_since entries swept r.place) a c v b) r.answer

-- so of a system
abbrev pub AreStaying : {F T W A : Type 0} → Meaning W A → System F T W A → View → Type 0
AreStaying m s v = AreStayingIn m s.limits (opening_state s.base.books.start) s.base.books.history.items (swept_in s.base.books) s.lanes v (books_of s.base.books)
