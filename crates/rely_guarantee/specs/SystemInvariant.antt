-- What every value of the system keeps.
use Rattle.std.specs.Prelude.{◌≡◌, ◌≢◌, ◌⊎◌, ◌+◌, ◌<◌, ◌≤◌, ℕ, IsTrue, IsSome, List, ◌++◌, length, Contains, Option, Some, None}
use Rattle.std.specs.Vec.{vec_len, vec_capacity}
use Rattle.ost_types.specs.Path.{Path, is_below, under}
use Rattle.fs_trait.specs.Count.{last}
use Rattle.fs_trait.specs.View.{Disk, View}
use Rattle.fs_trait.specs.Seen.{Seen, Vacant, shows, MayBe}
use Rattle.fs_trait.specs.Change.{LeadsTo, Left}
use Rattle.repo_layout.specs.declared.folder.Folder.{Folder}
use Rattle.repo_layout.specs.BootPaths.{checkout_path}
use Rattle.repo_layout.specs.Paths.{folder_path, heads}
use Rattle.repo_layout.specs.Place.{place}
use Rattle.layout_rules.specs.Checks.{IsSane}
use Rattle.layout_rules.specs.InLayout.{IsBounded, IsSuited}
use Rattle.rely_guarantee.specs.declared.books.Base.{Base}
use Rattle.rely_guarantee.specs.declared.books.Claim.{Claim}
use Rattle.rely_guarantee.specs.declared.books.Entry.{Entry}
use Rattle.rely_guarantee.specs.declared.books.Pending.{Pending}
use Rattle.rely_guarantee.specs.declared.event.Event.{Event}
use Rattle.rely_guarantee.specs.State.{Topic, State, list_in, target, gives, after, IsRun, IsNamed, events_of, stored, acked, Ascends, SystemState, opening_state}
use Rattle.rely_guarantee.specs.Disks.{path_of, IsLeaf, Says, Logical, IsOther}
use Rattle.rely_guarantee.specs.Books.{Books, books_of, Agrees}

-- what is shown is the event's value
abbrev pub PublishedBy : Event → Topic → Seen → Type 0
PublishedBy e t s = (target e ≡ Some t) × Says t (gives e) s

-- what is shown is the pending event's value
abbrev pub Published : Option Pending → Topic → Seen → Type 0
Published None t s = ⊥
Published (Some p) t s = PublishedBy p.event t s

-- each crash leaves these folders, and the root
abbrev pub Leads : View → Path → Type 0
Leads v folder = (p : Path) (s : Seen) → MayBe v p s → LeadsTo folder p s

-- no leaf at a path of no kind below the folder of refs
abbrev pub NoStray : Path → Seen → Type 0
NoStray p s = IsTrue (is_below heads p) → IsOther (place p) → IsLeaf s → ⊥

-- All that a path of the state may show is the state's value, or the one that is shown. What has a value has folders above it
-- after each crash.
pub record Known (shown : Topic → Seen → Type 0) (value : State) (v : View) : Type 0 where
  pub each : (t : Topic) (s : Seen) → MayBe v (path_of t) s → Says t (value t) s ⊎ shown t s
  pub leads : (t : Topic) (f : Path) (x : List ℕ) → path_of t ≡ under f x → (value t ≡ None) ⊎ Leads v f

-- What is so of a view that is told.
pub record Stands (start : SystemState) (entries : List Entry) (pending : Option Pending) (v : View) : Type 0 where
  pub named : IsNamed start.refs
  pub run : IsRun (stored entries pending) start
  pub known : Known (Published pending) (after (events_of entries) start).refs v
  pub folders : (f : Folder) → Leads v (folder_path f)
  pub strays : (p : Path) (s : Seen) → MayBe v p s → NoStray p s
  pub kinds : (p : Path) (s : Seen) → MayBe v p s → IsSuited p s
  pub reached : (p : Path) (s : Seen) → MayBe v p s → IsBounded p s

-- The disk is sane, and its state is that after a prefix of the stored history that has all that was acknowledged by then.
pub record Fits (start : SystemState) (entries : List Entry) (all : List Event) (t : ℕ) (d : Disk) : Type 0 where
  pub past : List Event
  pub rest : List Event
  pub split : past ++ rest ≡ all
  pub has_acked : acked t entries ≤ length past
  pub shows : Logical d (after past start).refs
  pub sane : IsSane d

-- so it is of each disk that a crash left since the opening
pub record Crash (left : ℕ → Disk → Type 0) (opened : ℕ) (start : SystemState) (entries : List Entry) (pending : Option Pending) : Type 0 where
  pub each : (t : ℕ) (d : Disk) → opened ≤ t → left t d → Fits start entries (stored entries pending) t d

-- What is so of the books, whether or not the view is told: no two locks that exclude each other are held, what is pending
-- belongs to the holder of the ref lock, the moments of the history don't fall, there is room for each owed call and, while one
-- is owed, for one more entry, and what is removed can be counted.
pub record Ordered {F : Type 0} (clock spare : F → ℕ) (base : Base F) : Type 0 where
  pub agrees : Agrees (books_of base.books)
  pub owner : (p : Pending) → base.books.pending ≡ Some p → base.books.turn ≡ Some p.lane
  pub ascends : Ascends base.books.opened base.books.history.items (clock base.fs)
  pub idle : base.books.pending ≡ None → base.books.owed ≡ 0
  pub room : base.books.owed ≤ spare base.fs
  pub entry : 0 < base.books.owed → vec_len base.books.history < vec_capacity base.books.history
  pub counted : base.books.gone + base.books.owed ≤ last

-- a folder stands for each checkout that is claimed
abbrev pub AreThere : List Claim → View → Type 0
AreThere claims v = (c : Claim) → Contains claims c → shows v.now (checkout_path c.name) ≢ Vacant

-- another list of deployments is published by the lane alone that works on it
abbrev pub IsRelistedByHolder : Books → Type 0
IsRelistedByHolder b = (p : Pending) → b.pending ≡ Some p → IsSome (list_in p.event) → b.sysroot ≡ Some p.lane

-- What every value keeps.
pub record SystemInvariant {F : Type 0} (view : F → Option View) (clock spare : F → ℕ) (was : F → ℕ → View → Type 0) (base : Base F) : Type 0 where
  pub ordered : Ordered clock spare base
  pub stands : (v : View) → view base.fs ≡ Some v → Stands (opening_state base.books.start) base.books.history.items base.books.pending v
  pub crash : (v : View) → view base.fs ≡ Some v → Crash (Left (was base.fs)) base.books.opened (opening_state base.books.start) base.books.history.items base.books.pending
  pub claims : (v : View) → view base.fs ≡ Some v → AreThere base.books.claims.items v
  pub relists : (v : View) → view base.fs ≡ Some v → IsRelistedByHolder (books_of base.books)
