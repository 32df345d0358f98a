-- That what the changes made stays.
use Rattle.std.specs.Prelude.{◌≤◌, ◌+◌, ℕ, List}
use Rattle.ost_types.specs.declared.limits.Limits.{Limits}
use Rattle.ost_types.specs.declared.object.ObjName.{ObjName}
use Rattle.fs_trait.specs.Change.{Left}
use Rattle.fs_trait.specs.View.{Disk, View}
use Rattle.rely_guarantee.specs.declared.books.Entry.{Entry}
use Rattle.rely_guarantee.specs.State.{SystemState}
use Rattle.command.specs.ChangeLaws.{IsRightSince}
use Rattle.command.specs.Meaning.{Meaning}
use Rattle.command.specs.Since.{begun_in}
use Rattle.lane_system.specs.declared.lane.Lane.{Lane}
use Rattle.lane_system.specs.Lanes.{IsAt, IsCommand}
use Rattle.lane_system.specs.Removals.{gone_since, swept_in}
use Rattle.lane_system.specs.System.{System}

-- The change of this number is its command's, which began in some state; and what it leaves in the store stands now, and on each disk that a
-- crash left since the change lasts, but for what was removed since.
pub record IsChangeKept {W A : Type 0} (m : Meaning W A) (was : ℕ → View → Type 0) (opening : View) (limits : Limits) (entries : List Entry) (swept : List ObjName) (k : ℕ) (e : Entry) (c : W) (v : View) : Type 0 where
  pub start : SystemState
  pub makes : m.changes (begun_in limits start) c e.event
  pub now : m.keeps (begun_in limits start) opening (gone_since entries swept (k + 1)) c v
  pub since : (t : ℕ) (d : Disk) → e.moment ≤ t → Left was t d → m.keeps_on (begun_in limits start) opening (gone_since entries swept (k + 1)) c d

-- From a view at the opening on: what was right then is so now, and what each of these changes made is kept, but for what was removed
-- since: by later changes, and by a removal that isn't one of them yet.
pub record AreKeptIn {T W A : Type 0} (m : Meaning W A) (was : ℕ → View → Type 0) (opening : View) (limits : Limits) (lanes : List (Lane T W A)) (entries : List Entry) (swept : List ObjName) (v : View) : Type 0 where
  pub right : IsRightSince opening v
  pub each : (k : ℕ) (e : Entry) (c : W) → IsAt entries k e → IsCommand lanes e.lane e.command c → IsChangeKept m was opening limits entries swept k e c v

-- so of the changes of a system
abbrev pub AreKept : {F T W A : Type 0} → Meaning W A → (F → ℕ → View → Type 0) → View → System F T W A → View → Type 0
AreKept m was opening s v = AreKeptIn m (was s.base.fs) opening s.limits s.lanes s.base.books.history.items (swept_in s.base.books) v
