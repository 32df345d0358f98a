-- Who holds what, and what was changed.
use Rattle.std.specs.Prelude.{◌≡◌, ◌≢◌, ◌⊎◌, ◌<◌, ◌≤◌, ℕ, IsTrue, IsSome, List, [], ◌++◌, All, Contains, Option, Some, nat_eq, if◌then◌else◌}
use Rattle.std.specs.Vec.{vec_len, vec_capacity}
use Rattle.boot_model.specs.declared.item.DepId.{DepId}
use Rattle.ost_types.specs.declared.object.ObjName.{ObjName}
use Rattle.ost_types.specs.Path.{Name}
use Rattle.rely_guarantee.specs.declared.books.Books as rust
use Rattle.rely_guarantee.specs.declared.books.Claim.{Claim}
use Rattle.rely_guarantee.specs.declared.books.Entry.{Entry}
use Rattle.rely_guarantee.specs.declared.books.Hold.{Hold}
use Rattle.rely_guarantee.specs.declared.books.Pending.{Pending}
use Rattle.rely_guarantee.specs.declared.books.Pin.{Pin}
use Rattle.rely_guarantee.specs.declared.books.Share.{Share}
use Rattle.rely_guarantee.specs.declared.books.Start.{Start}
use Rattle.rely_guarantee.specs.declared.books.Use.{Use}
use Rattle.rely_guarantee.specs.declared.books.Want.{Want}
use Rattle.rely_guarantee.specs.declared.kind.Halt.{Halt}
use Rattle.rely_guarantee.specs.declared.kind.Wants.{Wants}
use Rattle.rely_guarantee.specs.State.{after, events_of, opening_state, removed_by}

-- the books as plain data: all that the system knows beside the disk
pub record Books : Type 0 where
  pub shared : List Share
  pub exclusive : Option ℕ
  pub turn : Option ℕ
  pub sysroot : Option ℕ
  pub holds : List Hold
  pub wants : List Want
  pub pins : List Pin
  -- what the holder of Exclusive removes, in this order, and how many of these it has removed; none where nothing of it is shown
  pub doomed : List ObjName
  pub gone : ℕ
  pub claims : List Claim
  pub uses : List Use
  pub history : List Entry
  pub pending : Option Pending
  pub replies : ℕ
  pub owed : ℕ
  pub halted : Option Halt
  pub opened : ℕ
  pub start : Start

-- what the holder of Exclusive removes is what its change that is published says
abbrev pub doomed_of : Option ℕ → Option Pending → List ObjName
doomed_of (Some holder) (Some p) = if nat_eq holder p.lane then removed_by p.event else []
doomed_of exclusive pending = []

abbrev pub books_of : rust.Books → Books
books_of b = record {
  shared = b.shared.items;
  exclusive = b.exclusive;
  turn = b.turn;
  sysroot = b.sysroot;
  holds = b.holds.items;
  wants = b.wants.items;
  pins = b.pins.items;
  doomed = doomed_of b.exclusive b.pending;
  gone = b.gone;
  claims = b.claims.items;
  uses = b.uses.items;
  history = b.history.items;
  pending = b.pending;
  replies = b.replies;
  owed = b.owed;
  halted = b.halted;
  opened = b.opened;
  start = b.start;
}

-- the deployments that boot, after all changes that last
abbrev pub listed_in : Books → List DepId
listed_in b = (after (events_of b.history) (opening_state b.start)).deployments

-- nobody else holds it
abbrev pub Free : Option ℕ → ℕ → Type 0
Free lock who = (b : ℕ) → lock ≡ Some b → b ≡ who

-- no object is stored for another lane
abbrev pub NoOther : List Share → ℕ → Type 0
NoOther shares lane = All (λ x. x.lane ≡ lane) shares

-- The lane may have what it asks for: each lock is held off by those of others that exclude it.
pub record Frees (w : Wants) (lane : ℕ) (b : Books) : Type 0 where
  pub exclusive : IsTrue w.exclusive → Free b.exclusive lane × Free b.turn lane × NoOther b.shared lane
  pub turn : IsTrue w.turn → Free b.exclusive lane × Free b.turn lane
  pub shared : IsTrue w.shared → Free b.exclusive lane
  pub pin : IsSome w.pin → Free b.exclusive lane
  pub sysroot : IsTrue w.sysroot → Free b.sysroot lane
  pub hold : IsSome w.hold → Free b.turn lane

-- The lane has what it asked for.
pub record Granted (w : Wants) (actor lane : ℕ) (b : Books) : Type 0 where
  pub exclusive : IsTrue w.exclusive → b.exclusive ≡ Some lane
  pub turn : IsTrue w.turn → b.turn ≡ Some lane
  pub shared : IsTrue w.shared → Contains b.shared (record { actor = actor; lane = lane })
  pub pin : (o : ObjName) → w.pin ≡ Some o → Contains b.pins (record { lane = lane; object = o })
  pub sysroot : IsTrue w.sysroot → b.sysroot ≡ Some lane
  pub hold : (p : ℕ) → w.hold ≡ Some p → Contains b.holds (record { lane = lane; place = p })

-- there is room for all that a lane may ask for at once
pub record HasGrantRoom (b : rust.Books) : Type 0 where
  pub shared : vec_len b.shared < vec_capacity b.shared
  pub holds : vec_len b.holds < vec_capacity b.holds
  pub pins : vec_len b.pins < vec_capacity b.pins

-- The checkout of that name is the lane's alone.
pub record IsClaimed (name : Name) (lane : ℕ) (b : Books) : Type 0 where
  pub mine : Contains b.claims (record { lane = lane; name = name })
  pub alone : (c : Claim) → Contains b.claims c → c.name ≡ name → c.lane ≡ lane

-- The checkout of that name is nobody's.
abbrev pub Unclaimed : Name → Books → Type 0
Unclaimed name b = (c : Claim) → Contains b.claims c → c.name ≢ name

-- No two locks that exclude each other are held, and only who holds Exclusive removes objects.
pub record Agrees (b : Books) : Type 0 where
  pub turn : (x y : ℕ) → b.exclusive ≡ Some x → b.turn ≡ Some y → y ≡ x
  pub shared : (x : ℕ) → b.exclusive ≡ Some x → NoOther b.shared x
  pub doomed : (o : ObjName) → Contains b.doomed o → IsSome b.exclusive

-- What an act of this actor for this lane does to the books: all that others hold stays.
pub record Spared (actor lane : ℕ) (b b' : Books) : Type 0 where
  pub shared : (x : Share) → x.actor ≢ actor → x.lane ≢ lane → Contains b.shared x → Contains b'.shared x
  pub exclusive : (x : ℕ) → x ≢ lane → b.exclusive ≡ Some x → b'.exclusive ≡ Some x
  pub turn : (x : ℕ) → x ≢ lane → b.turn ≡ Some x → b'.turn ≡ Some x
  pub sysroot : (x : ℕ) → x ≢ lane → b.sysroot ≡ Some x → b'.sysroot ≡ Some x
  pub holds : (h : Hold) → h.lane ≢ lane → Contains b.holds h → Contains b'.holds h
  pub wants : (w : Want) → w.actor ≢ actor → w.lane ≢ lane → Contains b.wants w → Contains b'.wants w
  pub pins : (p : Pin) → p.lane ≢ lane → Contains b.pins p → Contains b'.pins p
  -- nothing is pinned while another lane may remove, and what that one removes stays as it is;
  pub pinned : (p : Pin) → Contains b'.pins p → Contains b.pins p ⊎ ((p.lane ≡ lane) × Free b.exclusive lane)
  pub doomed : (x : ℕ) → x ≢ lane → b.exclusive ≡ Some x → (b'.doomed ≡ b.doomed) × (b'.gone ≡ b.gone)
  -- nor does another list come to last
  pub listed : (x : ℕ) → x ≢ lane → b.exclusive ≡ Some x → listed_in b' ≡ listed_in b
  pub uses : (u : Use) → u.lane ≢ lane → Contains b.uses u → Contains b'.uses u
  -- the claims of others stay, and none comes
  pub claims : (c : Claim) → c.lane ≢ lane → Contains b.claims c → Contains b'.claims c
  pub claimers : (c : Claim) → c.lane ≢ lane → Contains b'.claims c → Contains b.claims c
  -- what is pending comes and goes with its owner
  pub pending : (p : Pending) → p.lane ≢ lane → b.pending ≡ Some p → b'.pending ≡ Some p
  pub shown : (p : Pending) → b'.pending ≡ Some p → (b.pending ≡ Some p) ⊎ (p.lane ≡ lane)
  -- the room of another's owed calls
  pub owed : (p : Pending) → p.lane ≢ lane → b.pending ≡ Some p → b'.owed ≡ b.owed
  -- the history and the replies only grow
  pub more : List Entry
  pub grows : b'.history ≡ b.history ++ more
  pub replies : b.replies ≤ b'.replies
  pub opened : b'.opened ≡ b.opened
  pub start : b'.start ≡ b.start

-- The lane goes on to have what it has, but for the lock of those that store, which is held for one act alone; and meanwhile nobody else
-- pins anything, or claims a checkout.
pub record Keeps (lane : ℕ) (b b' : Books) : Type 0 where
  pub exclusive : b.exclusive ≡ Some lane → b'.exclusive ≡ Some lane
  pub turn : b.turn ≡ Some lane → b'.turn ≡ Some lane
  pub sysroot : b.sysroot ≡ Some lane → b'.sysroot ≡ Some lane
  pub holds : (h : Hold) → h.lane ≡ lane → Contains b.holds h → Contains b'.holds h
  pub wants : (w : Want) → w.lane ≡ lane → Contains b.wants w → Contains b'.wants w
  pub pins : (p : Pin) → p.lane ≡ lane → Contains b.pins p → Contains b'.pins p
  pub pinned : (p : Pin) → p.lane ≢ lane → Contains b'.pins p → Contains b.pins p
  pub claims : (c : Claim) → Contains b.claims c → Contains b'.claims c
  pub others : (c : Claim) → c.lane ≢ lane → Contains b'.claims c → Contains b.claims c
  pub start : b'.start ≡ b.start
  pub listed : listed_in b' ≡ listed_in b
