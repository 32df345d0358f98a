-- What is said of objects where none was removed: of all of them, with no exception.
use Rattle.std.specs.Prelude.{◌≡◌, ◌<◌, ◌≤◌, ℕ, List, [], Option, Some}
use Rattle.ost_types.specs.declared.limits.Limits.{Limits}
use Rattle.fs_trait.specs.Change.{Left}
use Rattle.fs_trait.specs.View.{Disk, View}
use Rattle.rely_guarantee.specs.declared.books.Entry.{Entry}
use Rattle.rely_guarantee.specs.declared.books.Pending.{Pending}
use Rattle.rely_guarantee.specs.Books.{Books}
use Rattle.rely_guarantee.specs.Lasting.{StaysFinished}
use Rattle.rely_guarantee.specs.State.{SystemState}
use Rattle.command.specs.ChangeLaws.{Founds, IsRightSince}
use Rattle.command.specs.Meaning.{Meaning}
use Rattle.command.specs.Since.{begun_in}
use Rattle.lane_system.specs.declared.lane.Lane.{Lane}
use Rattle.lane_system.specs.declared.lane.Reply.{Reply}
use Rattle.lane_system.specs.Founded.{Sets}
use Rattle.lane_system.specs.Lanes.{IsAt, IsCommand, IsTo}
use Rattle.lane_system.specs.Removals.{removed_by}
use Rattle.lane_system.specs.Replies.{IfAnswer, OfAnswer}
use Rattle.lane_system.specs.States.{state_after}

-- no change removed an object
abbrev pub AreUnpruned : List Entry → Type 0
AreUnpruned entries = (k : ℕ) (e : Entry) → IsAt entries k e → removed_by e ≡ []

-- What a change left in the store stands now, and on each disk that a crash left since the change lasts.
pub record IsChangeWhole {W A : Type 0} (m : Meaning W A) (was : ℕ → View → Type 0) (opening : View) (limits : Limits) (e : Entry) (c : W) (v : View) : Type 0 where
  pub start : SystemState
  pub makes : m.changes (begun_in limits start) c e.event
  pub now : m.keeps (begun_in limits start) opening [] c v
  pub since : (t : ℕ) (d : Disk) → e.moment ≤ t → Left was t d → m.keeps_on (begun_in limits start) opening [] c d

-- `AreKeptIn` so
pub record AllAreKept {T W A : Type 0} (m : Meaning W A) (was : ℕ → View → Type 0) (opening : View) (limits : Limits) (lanes : List (Lane T W A)) (entries : List Entry) (v : View) : Type 0 where
  pub right : IsRightSince opening v
  pub each : (k : ℕ) (e : Entry) (c : W) → IsAt entries k e → IsCommand lanes e.lane e.command c → IsChangeWhole m was opening limits e c v

-- `ArePresentIn` so
pub record AllArePresent {T W A : Type 0} (m : Meaning W A) (Finished : List ℕ → Type 0) (entries : List Entry) (lanes : List (Lane T W A)) : Type 0 where
  pub finished : (lane number : ℕ) (r : Reply A) (commit : List ℕ) → IsTo lanes lane number r → OfAnswer (λ a. m.lacks a commit) r.answer → ¬ (Finished commit)
  pub set : (lane number : ℕ) (r : Reply A) (commit : List ℕ) → IsTo lanes lane number r → OfAnswer (λ a. m.lacks a commit) r.answer → (k : ℕ) (e : Entry) → IsAt entries k e → k < r.place → ¬ (Sets commit e.event)

-- `RefsNameDurableCommitsIn` so
pub record AllRefsNameDurableCommits {T W A : Type 0} (m : Meaning W A) (opening : View) (entries : List Entry) (pending : Option Pending) (lanes : List (Lane T W A)) (v : View) : Type 0 where
  pub stays : (commit : List ℕ) → StaysFinished opening commit → StaysFinished v commit
  pub each : (k : ℕ) (e : Entry) → IsAt entries k e → Founds v e.event
  pub shown : (p : Pending) → pending ≡ Some p → Founds v p.event
  pub present : AllArePresent m (StaysFinished opening) entries lanes

-- `AreStayingIn` so
abbrev pub AllAreStaying : {T W A : Type 0} → Meaning W A → Limits → SystemState → List Entry → List (Lane T W A) → View → Books → Type 0
AllAreStaying {T} {W} {A} m limits begin entries lanes v b = (lane number : ℕ) (r : Reply A) (c : W) → IsTo lanes lane number r → IsCommand lanes lane number c
    → IfAnswer (λ a. m.stays (begun_in limits (state_after begin entries r.start)) [] a c v b) r.answer
