-- What every kind of task tells of its steps, and the laws that the one act of all tasks stands on.
use Rattle.std.specs.Prelude.{◌≡◌, ◌≢◌, ◌⊎◌, ◌≤◌, ◌<◌, ℕ, ◌+◌, suc, length, Contains, Option, Some, None, Result, IsErrOf, OnOk}
use Rattle.ost_types.specs.Path.{Name, Path}
use Rattle.fs_trait.specs.declared.task.StepResult.{StepResult}
use Rattle.fs_trait.specs.declared.task.StepResult.TheVariants as turn
use Rattle.fs_trait.specs.declared.types.FsErr.{FsErr}
use Rattle.fs_trait.specs.declared.types.FsErr.TheVariants as err
use Rattle.fs_trait.specs.View.{View}
use Rattle.fs_trait.specs.Seen.{Seen, Vacant, shows}
use Rattle.fs_trait.specs.Change.{Nothing}
use Rattle.repo_layout.specs.BootPaths.{checkout_path}
use Rattle.rely_guarantee.specs.declared.books.Claim as claim
use Rattle.rely_guarantee.specs.declared.books.Base.{Base}
use Rattle.rely_guarantee.specs.declared.books.Pending.{Pending}
use Rattle.rely_guarantee.specs.declared.event.Event.{Event}
use Rattle.rely_guarantee.specs.declared.kind.Outcome.{Outcome}
use Rattle.rely_guarantee.specs.declared.kind.Outcome.TheVariants as came
use Rattle.rely_guarantee.specs.declared.kind.StepKind.{StepKind}
use Rattle.rely_guarantee.specs.declared.kind.StepKind.TheVariants as step
use Rattle.rely_guarantee.specs.declared.kind.Wants.{Wants}
use Rattle.rely_guarantee.specs.Books.{Books, books_of, listed_in, Free, Granted, Agrees, Spared, Keeps, IsClaimed}
use Rattle.rely_guarantee.specs.Rely.{Guarantee, Interference}
use Rattle.rely_guarantee.specs.State.{acked, removed_by}
use Rattle.rely_guarantee.specs.SystemInvariant.{SystemInvariant}
use Rattle.rely_guarantee.specs.Change.{Still, Away, TakesNone, Dooms, Shows, Final}

-- what a step is to the whole system
pub data Kind : Type 0 where
  Quiet : Kind  -- it changes nothing that the state speaks of
  Store : Kind  -- so too, and another actor may take it
  Take : Wants → Kind  -- so too, once these locks are taken
  Claim : Name → Kind  -- it makes the folder of this checkout, which is the lane's from then on
  Publish : Event → Kind  -- it publishes this change
  Published : Event → ℕ → Kind  -- it comes between publishing and making durable; so many calls are owed, itself among them
  Remove : Event → ℕ → Kind  -- so too, and it takes the next object that is to be removed from its path
  MakeDurable : Event → Kind  -- it makes the change durable

abbrev pub step_of : Kind → StepKind
step_of Quiet = step.Quiet
step_of Store = step.Store
step_of (Take wants) = step.Take wants
step_of (Claim name) = step.Claim
step_of (Publish e) = step.Publish
step_of (Published e owed) = step.Published
step_of (Remove e owed) = step.Remove
step_of (MakeDurable e) = step.MakeDurable

-- how many calls are owed, this step's among them
abbrev pub owed_by : Kind → ℕ
owed_by (Published e owed) = owed
owed_by (Remove e owed) = owed
owed_by (MakeDurable e) = 1
owed_by k = 0

-- a lane takes its own steps, and others may take those that store
abbrev pub IsBy : Kind → ℕ → ℕ → Type 0
IsBy kind actor lane = (actor ≡ lane) ⊎ (kind ≡ Store)

-- nothing of the lane is pending
abbrev pub NotPending : ℕ → Books → Type 0
NotPending lane b = (p : Pending) → b.pending ≡ Some p → p.lane ≢ lane

-- The change is pending, its lane holds the ref lock, and room is kept for so many calls.
pub record IsPending (e : Event) (owed lane : ℕ) (b : Books) : Type 0 where
  pub command : ℕ
  pub turn : b.turn ≡ Some lane
  pub pending : b.pending ≡ Some (record { lane = lane; command = command; event = e })
  pub owes : owed ≤ b.owed

-- what the books have before a step of this kind is taken
abbrev pub Holds : Kind → ℕ → Books → Type 0
Holds Quiet lane b = NotPending lane b
Holds Store lane b = NotPending lane b
Holds (Take wants) lane b = NotPending lane b
Holds (Claim name) lane b = NotPending lane b
Holds (Publish e) lane b = NotPending lane b
Holds (Published e owed) lane b = IsPending e owed lane b × (0 < owed)
Holds (Remove e owed) lane b = IsPending e owed lane b × (0 < owed)
Holds (MakeDurable e) lane b = IsPending e 1 lane b

-- what nobody else may hold in such a step, and what the lane holds then
abbrev pub Stood : Kind → ℕ → ℕ → Books → Type 0
Stood Quiet actor lane b = Unit {0}
Stood Store actor lane b = Free b.exclusive lane
Stood (Take wants) actor lane b = Granted wants actor lane b
Stood (Claim name) actor lane b = Unit {0}
Stood (Publish e) actor lane b = Free b.turn lane × Free b.exclusive lane
Stood (Published e owed) actor lane b = Unit {0}
Stood (Remove e owed) actor lane b = Unit {0}
Stood (MakeDurable e) actor lane b = Unit {0}

-- the change is still shown, or to be settled now
abbrev pub Follows : Event → ℕ → Kind → Type 0
Follows e most (Published d owed) = (d ≡ e) × (owed ≤ most) × (0 < owed)
Follows e most (Remove d owed) = (d ≡ e) × (owed ≤ most) × (0 < owed)
Follows e most (MakeDurable d) = (d ≡ e) × (1 ≤ most)
Follows e most k = ⊥

-- nothing is shown
abbrev pub IsBefore : Kind → Type 0
IsBefore Quiet = Unit {0}
IsBefore Store = Unit {0}
IsBefore (Take wants) = Unit {0}
IsBefore (Claim name) = Unit {0}
IsBefore (Publish e) = Unit {0}
IsBefore (Published e owed) = ⊥
IsBefore (Remove e owed) = ⊥
IsBefore (MakeDurable e) = ⊥

-- which kind of step may follow; each step but the one that publishes the change may pay one owed call
abbrev pub Chain : Kind → Kind → Type 0
Chain Quiet next = IsBefore next
Chain Store next = IsBefore next
Chain (Take wants) next = IsBefore next
Chain (Claim name) next = IsBefore next
Chain (Publish e) next = Follows e (owed_by next) next
Chain (Published e owed) next = (most : ℕ) × (owed ≡ suc most) × Follows e most next
Chain (Remove e owed) next = (most : ℕ) × (owed ≡ suc most) × Follows e most next
Chain (MakeDurable e) next = ⊥

-- the step publishes a change, or makes it durable
abbrev pub IsPublish : Kind → Type 0
IsPublish (Publish e) = Unit {0}
IsPublish k = ⊥

abbrev pub IsMakeDurable : Kind → Type 0
IsMakeDurable (MakeDurable e) = Unit {0}
IsMakeDurable k = ⊥

abbrev pub IsPublished : Kind → Type 0
IsPublished (Published e owed) = Unit {0}
IsPublished k = ⊥

abbrev pub IsRemove : Kind → Type 0
IsRemove (Remove e owed) = Unit {0}
IsRemove k = ⊥

-- the step publishes a change or is owed by one
abbrev pub IsOwing : Kind → Type 0
IsOwing (Publish e) = Unit {0}
IsOwing (Published e owed) = Unit {0}
IsOwing (Remove e owed) = Unit {0}
IsOwing (MakeDurable e) = Unit {0}
IsOwing k = ⊥

abbrev pub IsStore : Kind → Type 0
IsStore Store = Unit {0}
IsStore k = ⊥

abbrev pub IsTake : Wants → Kind → Type 0
IsTake wants (Take w) = w ≡ wants
IsTake wants k = ⊥

-- it changes nothing that the state speaks of, and nothing of its lane is shown
abbrev pub IsQuiet : Kind → Type 0
IsQuiet Quiet = Unit {0}
IsQuiet Store = Unit {0}
IsQuiet (Take wants) = Unit {0}
IsQuiet (Claim name) = Unit {0}
IsQuiet k = ⊥

-- so too, and it makes no folder of a checkout
abbrev pub IsPlain : Kind → Type 0
IsPlain Quiet = Unit {0}
IsPlain Store = Unit {0}
IsPlain (Take wants) = Unit {0}
IsPlain k = ⊥

abbrev pub IsClaim : Kind → Type 0
IsClaim (Claim name) = Unit {0}
IsClaim k = ⊥

-- What the lane has of its own behind a step of this kind that goes on, by the books before it and behind it: the checkout that it
-- claims, and how far it is with what it removes.
abbrev pub Owned : Kind → ℕ → Books → Books → Type 0
Owned (Claim name) lane b b' = IsClaimed name lane b'
Owned (Publish e) lane b b' = (b'.doomed ≡ removed_by e) × (b'.gone ≡ 0)
Owned (Published e owed) lane b b' = (b'.doomed ≡ b.doomed) × (b'.gone ≡ b.gone)
Owned (Remove e owed) lane b b' = (b'.doomed ≡ b.doomed) × (b'.gone ≡ b.gone + 1)
Owned kind lane b b' = Unit {0}

-- A step takes the room of at most one call. One that is owed and has room doesn't lack memory, and the one that shows the
-- change leaves room for those that are owed then.
pub record KeepsRoom {T : Type 0} (kind next : Kind) (before now : ℕ) (result : Result T FsErr) : Type 0 where
  pub at_most_one : before ≤ now + 1
  pub enough : 0 < owed_by kind → 0 < before → IsErrOf result err.NoMemory → ⊥
  pub ready : IsPublish kind → OnOk result (owed_by next ≤ now)

abbrev pub Within : (Path → Seen → Type 0) → (Path → Seen → Type 0) → Type 0
Within W M = (p : Path) (s : Seen) → W p s → M p s

-- What a step of each kind owes, where W is what it may write and `Done` what it leaves if it is the last.
abbrev pub StepObligation : Kind → ℕ → ℕ → View → Books → (Path → Seen → Type 0) → (View → Type 0) → Type 0
StepObligation Quiet actor lane v b W Done = Within W (Guarantee b v lane lane) × Still W v
StepObligation Store actor lane v b W Done = Within W (Guarantee b v actor lane) × Still W v
StepObligation (Take wants) actor lane v b W Done = Within W (Guarantee b v lane lane) × Still W v
StepObligation (Claim name) actor lane v b W Done = Within W (Guarantee b v lane lane) × Still W v
StepObligation (Publish e) actor lane v b W Done = Within W (Guarantee b v lane lane) × Shows (listed_in b) W v e × Dooms lane b e
StepObligation (Published e owed) actor lane v b W Done = Within W (Guarantee b v lane lane) × Away W × TakesNone W v
StepObligation (Remove e owed) actor lane v b W Done = Within W (Guarantee b v lane lane) × Away W × (b.gone < length b.doomed)
StepObligation (MakeDurable e) actor lane v b W Done = Within W Nothing × ((w : View) → Done w → Final e w)

-- the step that publishes a change isn't the last one
abbrev pub IsLastly : Kind → Type 0
IsLastly Quiet = Unit {0}
IsLastly Store = Unit {0}
IsLastly (Take wants) = Unit {0}
IsLastly (Claim name) = Unit {0}
IsLastly (Publish e) = ⊥
IsLastly (Published e owed) = ⊥
IsLastly (Remove e owed) = ⊥
IsLastly (MakeDurable e) = Unit {0}

-- the laws of a kind of task
pub record Laws {T : Type 0} (kind : T → Kind) (needs : ℕ → T → View → Type 0) (writes : ℕ → T → View → Path → Seen → Type 0) (stepped : T → StepResult (Unit {0}) → T → Type 0) (leaves : T → StepResult (Unit {0}) → T → View → View → Type 0) (facts : ℕ → T → View → Books → Type 0) : Type 0 where
  -- the facts give what the step asks
  pub ready : (actor lane : ℕ) (t : T) (v : View) (b : Books) → IsBy (kind t) actor lane → facts lane t v b → needs actor t v
  -- they survive what others may do
  pub kept : (actor lane mine : ℕ) (t : T) (v w : View) (b b' : Books) → mine ≢ actor → mine ≢ lane → Interference actor lane v b w b' → Holds (kind t) mine b → facts mine t v b → facts mine t w b'
  -- and what the lane gains, where what is removed is as it was
  pub gains : (lane : ℕ) (t : T) (v : View) (b b' : Books) → Keeps lane b b' → (b'.doomed ≡ b.doomed) × (b'.gone ≡ b.gone) → facts lane t v b → facts lane t v b'
  pub duty : (actor lane : ℕ) (t new : T) (v : View) (b : Books) → Agrees b → IsBy (kind t) actor lane → Stood (kind t) actor lane b → facts lane t v b → StepObligation (kind t) actor lane v b (writes actor t v) (leaves t (turn.Done tt) new v)
  pub chain : (t new : T) → stepped t turn.More new → Chain (kind t) (kind new)
  pub last : (t new : T) → stepped t (turn.Done tt) new → IsLastly (kind t)
  -- the next step's facts
  pub next : (actor lane : ℕ) (t new : T) (v w : View) (b b' : Books) → Stood (kind t) actor lane b → facts lane t v b → leaves t turn.More new v w → Keeps lane b b' → Owned (kind t) lane b b' → facts lane new w b'
  -- where a checkout is claimed nothing stood, and its folder stands
  pub claims : (lane : ℕ) (t new : T) (v w : View) (b : Books) (name : Name) → kind t ≡ Claim name → stepped t turn.More new → facts lane t v b → leaves t turn.More new v w → (shows v.now (checkout_path name) ≡ Vacant) × (shows w.now (checkout_path name) ≢ Vacant)

-- A running task's own facts, where the view is told, and the books of its kind of step.
pub record Runs {T : Type 0} (kind : T → Kind) (of : ℕ → T → View → Books → Type 0) (lane : ℕ) (t : T) (view : Option View) (b : Books) : Type 0 where
  pub facts : (v : View) → view ≡ Some v → of lane t v b
  pub holds : Holds (kind t) lane b

-- Before an act, where `runs` are the facts of its lane's task.
pub record Ready {F : Type 0} (view : F → Option View) (clock spare : F → ℕ) (was : F → ℕ → View → Type 0) (runs : Option View → Books → Type 0) (base : Base F) : Type 0 where
  pub sound : SystemInvariant view clock spare was base
  pub live : base.books.halted ≡ None
  pub task : runs (view base.fs) (books_of base.books)

abbrev pub Tells : {F : Type 0} → (F → Option View) → (Option View → Books → Type 0) → Outcome → Base F → Type 0
Tells view runs came.Blocked new = runs (view new.fs) (books_of new.books)
Tells view runs came.More new = runs (view new.fs) (books_of new.books)
Tells view runs came.Done new = Unit {0}
Tells view runs (came.Refused e) new = Unit {0}
Tells view runs (came.Halted why) new = new.books.halted ≡ Some why

-- After it. What others may rely on stands where the view is told.
pub record Acts {F : Type 0} (view : F → Option View) (clock spare : F → ℕ) (was : F → ℕ → View → Type 0) (actor lane : ℕ) (outcome : Outcome) (runs : Option View → Books → Type 0) (old new : Base F) : Type 0 where
  pub sound : SystemInvariant view clock spare was new
  pub does : (v : View) → view old.fs ≡ Some v → (w : View) × (view new.fs ≡ Some w) × Interference actor lane v (books_of old.books) w (books_of new.books)
  pub books : Spared actor lane (books_of old.books) (books_of new.books)
  -- what had been acknowledged by a moment stays what it was
  pub past : (t : ℕ) → t ≤ clock old.fs → acked t new.books.history.items ≡ acked t old.books.history.items
  pub tells : Tells view runs outcome new

-- A command has ended: its lane may have given up what it holds, and nothing else is otherwise.
pub record Ends {F : Type 0} (actor lane : ℕ) (old new : Base F) : Type 0 where
  pub fs : new.fs ≡ old.fs
  pub history : new.books.history ≡ old.books.history
  pub pending : new.books.pending ≡ old.books.pending
  pub owed : new.books.owed ≡ old.books.owed
  pub opened : new.books.opened ≡ old.books.opened
  pub start : new.books.start ≡ old.books.start
  pub claims : (c : claim.Claim) → Contains new.books.claims.items c → Contains old.books.claims.items c
  pub gone : new.books.gone ≡ old.books.gone
  pub spared : Spared actor lane (books_of old.books) (books_of new.books)
  pub agrees : Agrees (books_of old.books) → Agrees (books_of new.books)

abbrev pub IsEnd : {F : Type 0} → Outcome → Base F → Type 0
IsEnd (came.Refused e) new = Unit {0}
IsEnd (came.Halted why) new = new.books.halted ≡ Some why
IsEnd outcome new = ⊥
