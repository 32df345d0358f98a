-- That what replies say of the disk was so when they were given.
use Rattle.std.specs.Prelude.{◌<◌, ◌≤◌, ◌+◌, ℕ, List, length, take, Option}
use Rattle.ost_types.specs.declared.limits.Limits.{Limits}
use Rattle.fs_trait.specs.View.{Disk, View}
use Rattle.rely_guarantee.specs.declared.books.Entry.{Entry}
use Rattle.rely_guarantee.specs.declared.books.Pending.{Pending}
use Rattle.rely_guarantee.specs.declared.event.Event.{Event}
use Rattle.rely_guarantee.specs.Headline.{Has}
use Rattle.rely_guarantee.specs.State.{after, stored, SystemState, opening_state}
use Rattle.durable_store.specs.Full.{IsFull}
use Rattle.command.specs.Meaning.{Meaning}
use Rattle.command.specs.Since.{begun_in, placed}
use Rattle.lane_system.specs.declared.lane.Lane.{Lane}
use Rattle.lane_system.specs.declared.lane.Reply.{Reply}
use Rattle.lane_system.specs.Lanes.{IsAt, IsCommand, IsTo}
use Rattle.lane_system.specs.Replies.{IfAnswer}
use Rattle.lane_system.specs.States.{state_after}
use Rattle.lane_system.specs.System.{System}

-- Reads see a sane disk with the refs after the first so many of these changes, or after one more, which was shown and didn't last yet.
pub record SeesRefs (begin : SystemState) (events : List Event) (place : ℕ) (d : Disk) : Type 0 where
  pub count : ℕ
  pub least : place ≤ count
  pub most : count ≤ place + 1
  pub within : count ≤ length events
  pub has : Has d (after (take count events) begin).refs

-- At a moment since the opening, when the changes at the reply's start lasted, or later, reads had this view; and in it what the reply
-- tells of the disk is so. It is one of the time when so many changes lasted, no fewer than at the reply's start and no more than at its
-- place: so reads had it before the reply was given.
pub record WasSeen {W A : Type 0} (m : Meaning W A) (was : ℕ → View → Type 0) (opened : ℕ) (limits : Limits) (begin : SystemState) (entries : List Entry) (pending : Option Pending) (r : Reply A) (c : W) : Type 0 where
  pub moment : ℕ
  pub shown : View
  pub since : opened ≤ moment
  pub begun : (k : ℕ) (e : Entry) → IsAt entries k e → k < r.start → e.moment ≤ moment
  pub had : was moment shown
  pub place : ℕ
  pub from : r.start ≤ place
  pub to : place ≤ r.place
  pub refs : SeesRefs begin (stored entries pending) place shown.now
  pub seen : IfAnswer (λ a. m.shows (placed (begun_in limits (state_after begin entries r.start)) (state_after begin entries place)) shown a c) r.answer
  pub full : IfAnswer (λ a. m.full a → IsFull limits shown.now) r.answer

-- so of each reply to a command of these lanes
abbrev pub RepliesHeldAtAPointIn : {T W A : Type 0} → Meaning W A → (ℕ → View → Type 0) → ℕ → Limits → SystemState → List Entry → Option Pending → List (Lane T W A) → Type 0
RepliesHeldAtAPointIn {T} {W} {A} m was opened limits begin entries pending lanes = (lane number : ℕ) (r : Reply A) (c : W) → IsTo lanes lane number r → IsCommand lanes lane number c → WasSeen m was opened limits begin entries pending r c

-- so of a system, since its opening
abbrev pub RepliesHeldAtAPoint : {F T W A : Type 0} → Meaning W A → (F → ℕ → View → Type 0) → System F T W A → Type 0
RepliesHeldAtAPoint m was s = RepliesHeldAtAPointIn m (was s.base.fs) s.base.books.opened s.limits (opening_state s.base.books.start) s.base.books.history.items s.base.books.pending s.lanes
