-- What every value of a system keeps.
use Rattle.std.specs.Prelude.{◌≡◌, ◌<◌, ◌≤◌, ℕ, List, [], Contains, length, vec_capacity, Option, Some, None}
use Rattle.ost_types.specs.declared.limits.Limits.{Limits}
use Rattle.fs_trait.specs.View.{View}
use Rattle.rely_guarantee.specs.declared.books.Base.{Base}
use Rattle.rely_guarantee.specs.declared.books.Books as rust
use Rattle.rely_guarantee.specs.declared.books.Entry.{Entry}
use Rattle.rely_guarantee.specs.declared.books.Pending.{Pending}
use Rattle.rely_guarantee.specs.declared.books.Share.{Share}
use Rattle.rely_guarantee.specs.declared.kind.Halt.TheVariants as halt
use Rattle.rely_guarantee.specs.Books.{books_of}
use Rattle.rely_guarantee.specs.Laws.{Kind, NotPending, Runs}
use Rattle.rely_guarantee.specs.State.{opening_state}
use Rattle.rely_guarantee.specs.SystemInvariant.{SystemInvariant}
use Rattle.ref_book.specs.declared.book.RefBook.{RefBook}
use Rattle.ref_book.specs.Tracks.{Tracks}
use Rattle.command.specs.Doing.{HasRoomFor}
use Rattle.command.specs.LockLaws.{AsksList}
use Rattle.command.specs.Meaning.{Meaning}
use Rattle.durable_store.specs.Free.{ObjectPathsFree}
use Rattle.durable_deployments.specs.Bounds.{AreBounded}
use Rattle.boot_read.specs.declared.row.BootRow.{BootRow}
use Rattle.command.specs.Staging.{StagingPathFree}
use Rattle.lane_system.specs.declared.lane.Lane.{Lane}
use Rattle.lane_system.specs.declared.lane.Reply.{Reply}
use Rattle.lane_system.specs.declared.lane.Running.{Running}
use Rattle.lane_system.specs.Booting.{MayBootNow}
use Rattle.lane_system.specs.Family.{Family, FsSpec}
use Rattle.lane_system.specs.Lanes.{IsAt, IsNext, IsRunning, IsTo, Numbered, count_of}
use Rattle.lane_system.specs.Pins.{AreInWork}
use Rattle.lane_system.specs.Replied.{IsPendingOf, WasMade}
use Rattle.lane_system.specs.Replies.{EndsBy, EndsToo, IsReply, IsTold}
use Rattle.lane_system.specs.States.{now_of, since_in}

-- A command that began: it is the lane's next one, its task is after what it is to do, and there is room for its ref. It began where all
-- replies of its lane had been given.
pub record Started {T W A : Type 0} (c : Family T W A) (limits : Limits) (refs : RefBook) (b : rust.Books) (l : Lane T W A) (r : Running T) : Type 0 where
  pub words : W
  pub next : IsNext l words
  pub early : r.start ≤ length b.history.items
  pub later : (number : ℕ) (q : Reply A) → IsAt l.replies.items number q → q.place ≤ r.start
  pub after : c.doing.pursues (since_in limits b r.start) words r.work
  pub room : HasRoomFor c.means refs (since_in limits b r.start) words

-- its task has its facts, and of a lane without one nothing is pending
abbrev pub RunsIn : {T W A : Type 0} → Family T W A → ℕ → Option View → rust.Books → Option (Running T) → Type 0
RunsIn c lane view b None = NotPending lane (books_of b)
RunsIn c lane view b (Some r) = Runs c.tasks.kind c.tasks.facts lane r.work view (books_of b)

-- A lane has at most 64 commands, each of which can be done within the bounds, and room for a reply to each.
pub record IsLane {T W A : Type 0} (m : Meaning W A) (limits : Limits) (l : Lane T W A) : Type 0 where
  pub fits : (number : ℕ) (words : W) → IsAt l.words.items number words → m.fit limits words
  pub short : length l.words.items ≤ 64
  pub within : length l.replies.items ≤ length l.words.items
  pub room : length l.words.items ≤ vec_capacity l.replies

-- What is so of a lane: of the command that runs while commands go on, of the one that began, and of its replies, which come in order.
pub record LaneKept {F T W A : Type 0} (f : FsSpec F) (c : Family T W A) (limits : Limits) (lane : ℕ) (refs : RefBook) (base : Base F) (l : Lane T W A) : Type 0 where
  pub is : IsLane c.means limits l
  pub runs : base.books.halted ≡ None → RunsIn c lane (f.view base.fs) base.books l.task
  pub started : (r : Running T) → l.task ≡ Some r → Started c limits refs base.books l r
  pub replies : (number : ℕ) (r : Reply A) → IsAt l.replies.items number r → (words : W) × IsAt l.words.items number words × IsReply (IsTold f.view) c.means limits (opening_state base.books.start) base.books.history.items lane number words r
  pub in_order : (number next : ℕ) (r q : Reply A) → IsAt l.replies.items number r → IsAt l.replies.items next q → number < next → r.place ≤ q.start
  pub halts : (number : ℕ) (r : Reply A) → IsAt l.replies.items number r → EndsBy base.books.halted (f.refused base.fs) (f.faults base.fs) r.answer

-- Whose the ref lock is, and whose the lock on the list of deployments: that of a lane whose command runs; who has the ref lock doesn't wait
-- for the other.
pub record Locked {T W A : Type 0} (kind : T → Kind) (b : rust.Books) (lanes : List (Lane T W A)) : Type 0 where
  pub turn : (lane : ℕ) → b.turn ≡ Some lane → (number : ℕ) × (r : Running T) × IsRunning lanes lane number r × ¬ (AsksList (kind r.work))
  pub sysroot : (lane : ℕ) → b.sysroot ≡ Some lane → (number : ℕ) × (r : Running T) × IsRunning lanes lane number r

-- The replies of all lanes with the history: each change that lasts was made by a command that was answered so, and the one that is
-- pending is that of a command, which runs while commands go on. Once all commands
-- were ended each reply says so.
pub record Accounted {T W A : Type 0} (told : Type 0) (m : Meaning W A) (limits : Limits) (b : rust.Books) (lanes : List (Lane T W A)) (given : ℕ) : Type 0 where
  pub made : (k : ℕ) (e : Entry) → IsAt b.history.items k e → WasMade m lanes k e
  pub shown : (p : Pending) → b.pending ≡ Some p → IsPendingOf told m limits (opening_state b.start) b.history.items lanes p
  pub going : (p : Pending) → b.pending ≡ Some p → b.halted ≡ None → (r : Running T) × IsRunning lanes p.lane p.command r
  -- no command's answer depends on which deployments are in use
  pub untaken : (lane number : ℕ) (r : Reply A) → IsTo lanes lane number r → r.taken ≡ None
  pub over : (lane number other another : ℕ) (r q : Reply A) → IsTo lanes lane number r → IsTo lanes other another q → r.order < q.order → EndsToo r.answer q.answer
  pub numbered : Numbered lanes
  pub count : given ≡ count_of lanes
  pub fewer : length b.history.items ≤ count_of lanes

-- whose the lock of those that remove objects is, its the ref lock is; between acts nobody holds that of those that store
pub record AreInOrder (b : rust.Books) : Type 0 where
  pub alone : (lane : ℕ) → b.exclusive ≡ Some lane → b.turn ≡ Some lane
  pub unshared : (x : Share) → ¬ (Contains b.shared.items x)

-- no folder stands where an actor stages
abbrev pub AreHomes : Option View → Type 0
AreHomes view = (actor : ℕ) (v : View) → actor < 16 → view ≡ Some v → StagingPathFree actor v

-- nor where an object would
abbrev pub AreFree : Option View → Type 0
AreFree view = (v : View) → view ≡ Some v → ObjectPathsFree v.now

-- What is so of the disk beside its state: no folder stands where an object would; what stands where deployments and what boots them may is
-- within the bounds of paths; and what the books tell to boot does.
pub record DiskKept (limits : Limits) (view : Option View) (b : rust.Books) : Type 0 where
  pub free : AreFree view
  pub bounded : (v : View) → view ≡ Some v → AreBounded v
  pub boots : (v : View) → view ≡ Some v → (opening : List BootRow) × MayBootNow limits opening b v

pub record Kept {F T W A : Type 0} (f : FsSpec F) (c : Family T W A) (limits : Limits) (base : Base F) (refs : RefBook) (lanes : List (Lane T W A)) (given : ℕ) : Type 0 where
  pub sound : SystemInvariant f.view f.clock f.spare f.was base
  pub tracks : Tracks refs (now_of base.books).refs
  pub few : length lanes ≤ 8
  pub homes : AreHomes (f.view base.fs)
  pub disk : DiskKept limits (f.view base.fs) base.books
  pub each : (lane : ℕ) (l : Lane T W A) → IsAt lanes lane l → LaneKept f c limits lane refs base l
  pub locked : base.books.halted ≡ None → Locked c.tasks.kind base.books lanes
  pub ordered : AreInOrder base.books
  pub pins : base.books.halted ≡ None → AreInWork (IsTold f.view) c.means limits base.books lanes
  pub accounted : Accounted (IsTold f.view) c.means limits base.books lanes given
  -- where the view is told no call is refused for what nothing here explains
  pub explained : base.books.halted ≡ Some halt.Strayed → ¬ (IsTold f.view)

-- no command has begun
pub record IsIdle {T W A : Type 0} (m : Meaning W A) (limits : Limits) (l : Lane T W A) : Type 0 where
  pub is : IsLane m limits l
  pub task : l.task ≡ None
  pub replies : l.replies.items ≡ []

abbrev pub AreIdle : {T W A : Type 0} → Meaning W A → Limits → List (Lane T W A) → Type 0
AreIdle {T} {W} {A} m limits lanes = (lane : ℕ) (l : Lane T W A) → IsAt lanes lane l → IsIdle m limits l
