-- What the stored history says: the state at the beginning, and after each event.
use Rattle.std.specs.Prelude.{◌≡◌, ◌⊎◌, ◌↔◌, ◌+◌, ◌≤◌, ℕ, Bool, false, List, [], ◌∷◌, ◌++◌, length, map, nat_le, Contains, Option, Some, None, if◌then◌else◌}
use Rattle.ost_types.specs.declared.object.Kind.TheVariants.{Commit}
use Rattle.ost_types.specs.declared.object.ObjName.{ObjName}
use Rattle.ost_types.specs.Path.{same_name}
use Rattle.boot_model.specs.declared.item.DepId.{DepId}
use Rattle.repo_layout.specs.RefName.{IsRefName}
use Rattle.repo_layout.specs.RefFile.{IsSum}
use Rattle.repo_model.specs.Trees.{name_of}
use Rattle.rely_guarantee.specs.declared.books.Entry.{Entry}
use Rattle.rely_guarantee.specs.declared.books.Pending.{Pending}
use Rattle.rely_guarantee.specs.declared.books.Start.{Start}
use Rattle.rely_guarantee.specs.declared.event.Event.{Event}
use Rattle.rely_guarantee.specs.declared.event.Event.TheVariants.{SetRef, DropRef, Pruned, SetDeployments}
use Rattle.rely_guarantee.specs.Deployments.{ChangesList, deployments_limit}

-- what the state speaks of: a ref, by its name
pub data Topic : Type 0 where
  RefOf : List ℕ → Topic

-- what it says there: nothing, or for a ref the commit that it names
abbrev pub Said : Type 0
Said = Option (List ℕ)

abbrev pub State : Type 0
State = Topic → Said

abbrev pub same_topic : Topic → Topic → Bool
same_topic (RefOf a) (RefOf b) = same_name a b

-- The whole: the refs, and the deployments that boot, the one that boots first in front.
pub record SystemState : Type 0 where
  pub refs : State
  pub deployments : List DepId

-- the state that these refs are
abbrev pub first : List (List ℕ × List ℕ) → State
first [] t = None
first (r ∷ refs) t = if same_topic t (RefOf r.0) then Some r.1 else first refs t

-- what stood at the opening
abbrev pub opening_state : Start → SystemState
opening_state s = record { refs = first s.refs.items; deployments = s.deployments.items }

-- the commits that are named so
abbrev pub commits_of : Said → List (List ℕ)
commits_of None = []
commits_of (Some commit) = commit ∷ []

-- which ref an event changes, from what, and to what
abbrev pub target : Event → Option Topic
target (SetRef name seen commit) = Some (RefOf name)
target (DropRef name seen) = Some (RefOf name)
target (Pruned depth roots held removed) = None
target (SetDeployments change list) = None

abbrev pub before : Event → Said
before (SetRef name seen commit) = seen
before (DropRef name seen) = Some seen
before (Pruned depth roots held removed) = None
before (SetDeployments change list) = None

abbrev pub gives : Event → Said
gives (SetRef name seen commit) = Some commit
gives (DropRef name seen) = None
gives (Pruned depth roots held removed) = None
gives (SetDeployments change list) = None

-- the list that boots from then on, where it is another one
abbrev pub list_in : Event → Option (List DepId)
list_in (SetDeployments change list) = Some list.items
list_in e = None

-- the objects that it took away, in this order
abbrev pub removed_by : Event → List ObjName
removed_by (Pruned depth roots held removed) = removed
removed_by e = []

-- an event that can be at all
abbrev pub IsValid : Event → Type 0
IsValid (SetRef name seen commit) = IsRefName name × IsSum commit
IsValid (DropRef name seen) = IsRefName name
IsValid (Pruned depth roots held removed) = Unit {0}
IsValid (SetDeployments change list) = length list.items ≤ deployments_limit

-- whether it is this topic
abbrev pub is_topic : Option Topic → Topic → Bool
is_topic None t = false
is_topic (Some x) t = same_topic t x

-- the refs after an event, the deployments, and the state
abbrev pub next_refs : Event → State → State
next_refs e s t = if is_topic (target e) t then gives e else s t

abbrev pub next_list : Option (List DepId) → List DepId → List DepId
next_list None old = old
next_list (Some list) old = list

abbrev pub next : Event → SystemState → SystemState
next e s = record { refs = next_refs e s.refs; deployments = next_list (list_in e) s.deployments }

-- the commit is one that a ref names
abbrev pub IsRefCommit : State → ObjName → Type 0
IsRefCommit s o = (t : Topic) × (commit : List ℕ) × Contains (commits_of (s t)) commit × (o ≡ name_of Commit commit)

-- or one that is deployed
abbrev pub IsDeployedCommit : List DepId → ObjName → Type 0
IsDeployedCommit ids o = (id : DepId) × Contains ids id × (o ≡ name_of Commit id.commit)

-- the commit is one that the state names
abbrev pub IsCommitOf : SystemState → ObjName → Type 0
IsCommitOf s o = IsRefCommit s.refs o ⊎ IsDeployedCommit s.deployments o

-- a prune's roots are the commits that the state names
abbrev pub HasRoots : Event → SystemState → Type 0
HasRoots (Pruned depth roots held removed) s = (o : ObjName) → Contains roots o ↔ IsCommitOf s o
HasRoots e s = Unit {0}

-- another list comes from the one before it
abbrev pub HasList : Event → List DepId → Type 0
HasList (SetDeployments change list) old = ChangesList change old list.items
HasList e old = Unit {0}

-- the event may follow this state
pub record Applies (e : Event) (s : SystemState) : Type 0 where
  pub valid : IsValid e
  pub was : (t : Topic) → target e ≡ Some t → s.refs t ≡ before e
  pub roots : HasRoots e s
  pub list : HasList e s.deployments

-- the state after events
abbrev pub after : List Event → SystemState → SystemState
after [] s = s
after (e ∷ es) s = after es (next e s)

-- each may follow the state before it
abbrev pub IsRun : List Event → SystemState → Type 0
IsRun [] s = Unit {0}
IsRun (e ∷ es) s = Applies e s × IsRun es (next e s)

-- only names of refs have a value
abbrev pub IsNamed : State → Type 0
IsNamed s = (name commit : List ℕ) → s (RefOf name) ≡ Some commit → IsRefName name

abbrev pub event_of : Entry → Event
event_of e = e.event

abbrev pub events_of : List Entry → List Event
events_of entries = map event_of entries

abbrev pub pending_of : Option Pending → List Event
pending_of None = []
pending_of (Some p) = p.event ∷ []

-- the stored history: the changes that last, and the one that is shown and doesn't last yet
abbrev pub stored : List Entry → Option Pending → List Event
stored entries pending = events_of entries ++ pending_of pending

-- how many entries were acknowledged by that moment
abbrev pub acked : ℕ → List Entry → ℕ
acked t [] = 0
acked t (e ∷ es) = (if nat_le e.moment t then 1 else 0) + acked t es

-- the moments of the entries don't fall, from this one on to that one
abbrev pub Ascends : ℕ → List Entry → ℕ → Type 0
Ascends from [] to = from ≤ to
Ascends from (e ∷ es) to = (from ≤ e.moment) × Ascends e.moment es to
