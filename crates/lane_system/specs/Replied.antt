-- The replies of all lanes with the history.
use Rattle.std.specs.Prelude.{◌≡◌, ◌⊎◌, ◌<◌, ◌≤◌, ◌+◌, ℕ, List, length, Option, Some, None}
use Rattle.ost_types.specs.declared.limits.Limits.{Limits}
use Rattle.rely_guarantee.specs.declared.books.Entry.{Entry}
use Rattle.rely_guarantee.specs.declared.books.Pending.{Pending}
use Rattle.rely_guarantee.specs.State.{SystemState}
use Rattle.command.specs.Meaning.{Meaning}
use Rattle.command.specs.Since.{begun_in}
use Rattle.lane_system.specs.declared.lane.Lane.{Lane}
use Rattle.lane_system.specs.declared.lane.Reply.{Reply}
use Rattle.lane_system.specs.declared.lane.Running.{Running}
use Rattle.lane_system.specs.Lanes.{IsAt, IsCommand, IsRunning, IsTo, Numbered}
use Rattle.lane_system.specs.Replies.{EndsToo, IsCutOff, IsReply, OfAnswer}
use Rattle.lane_system.specs.States.{state_after}

-- The change that is pending is that of a command which began, or which was cut short.
abbrev pub IsPendingOf : {T W A : Type 0} → Type 0 → Meaning W A → Limits → SystemState → List Entry → List (Lane T W A) → Pending → Type 0
IsPendingOf {T} {W} {A} told m limits begin entries lanes p = (c : W) × IsCommand lanes p.lane p.command c
    × (((r : Running T) × IsRunning lanes p.lane p.command r × m.changes (begun_in limits (state_after begin entries r.start)) c p.event)
    ⊎ ((r : Reply A) × IsTo lanes p.lane p.command r × IsCutOff told r.answer × m.changes (begun_in limits (state_after begin entries r.start)) c p.event))

-- the change was made by a command that was answered so, when it was the last one
abbrev pub WasMade : {T W A : Type 0} → Meaning W A → List (Lane T W A) → ℕ → Entry → Type 0
WasMade {T} {W} {A} m lanes k e = (r : Reply A) × IsTo lanes e.lane e.command r × (r.place ≡ k + 1) × (c : W) × IsCommand lanes e.lane e.command c × OfAnswer (λ a. m.makes a c) r.answer

-- Each reply is one to the command of its number, and begins where the one before it has its place, or later. Each change that
-- lasts was made by a command that was answered so, when the change was the last one, and by no other. Each command that runs began
-- where all replies of its lane had been given. Once a reply tells that all commands were ended, each later one
-- does.
pub record Replied {T W A : Type 0} (told : Type 0) (m : Meaning W A) (limits : Limits) (begin : SystemState) (entries : List Entry) (pending : Option Pending) (lanes : List (Lane T W A)) : Type 0 where
  pub each : (lane number : ℕ) (r : Reply A) → IsTo lanes lane number r → (c : W) × IsCommand lanes lane number c × IsReply told m limits begin entries lane number c r
  pub in_order : (lane number next : ℕ) (r q : Reply A) → IsTo lanes lane number r → IsTo lanes lane next q → number < next → r.place ≤ q.start
  pub made : (k : ℕ) (e : Entry) → IsAt entries k e → WasMade m lanes k e
  pub shown : (p : Pending) → pending ≡ Some p → IsPendingOf told m limits begin entries lanes p
  -- no command takes the lock on the list of deployments yet
  pub untaken : (lane number : ℕ) (r : Reply A) → IsTo lanes lane number r → r.taken ≡ None
  pub over : (lane number other another : ℕ) (r q : Reply A) → IsTo lanes lane number r → IsTo lanes other another q → r.order < q.order → EndsToo r.answer q.answer
  pub numbered : Numbered lanes
  pub starts : (lane number : ℕ) (r : Running T) → IsRunning lanes lane number r → r.start ≤ length entries
  pub begun : (lane number next : ℕ) (r : Running T) (q : Reply A) → IsRunning lanes lane number r → IsTo lanes lane next q → q.place ≤ r.start
