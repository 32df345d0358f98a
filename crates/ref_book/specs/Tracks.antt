-- The refs of a state, by their names.
use Rattle.std.specs.Prelude.{◌≡◌, ◌≢◌, ◌↔◌, ℕ, List, map, Contains, Option, Some, None}
use Rattle.std.specs.BTreeMap.{get}
use Rattle.std.specs.Cmp.Lexicographic.{slice_cmp}
use Rattle.std.specs.List.Sorted.{IsStrictlySortedBy}
use Rattle.std.specs.Ordering.{nat_cmp}
use Rattle.rely_guarantee.specs.declared.event.Event.{Event}
use Rattle.rely_guarantee.specs.declared.event.Event.TheVariants.{SetRef, DropRef, Pruned, SetDeployments}
use Rattle.rely_guarantee.specs.State.{State, RefOf}
use Rattle.ref_book.specs.declared.book.RefBook.{RefBook}

-- what stands there, if there is room
abbrev pub said_at : RefBook → List ℕ → Option (Option (List ℕ))
said_at b name = get (slice_cmp nat_cmp) b.refs name

abbrev pub said : Option (Option (List ℕ)) → Option (List ℕ)
said None = None
said (Some o) = o

-- each ref names what the state says
abbrev pub Tracks : RefBook → State → Type 0
Tracks b s = (name : List ℕ) → said (said_at b name) ≡ s (RefOf name)

-- there is room for a ref of this name
abbrev pub HasRoom : RefBook → List ℕ → Type 0
HasRoom b name = said_at b name ≢ None

-- there is room for the ref that an event changes, if it changes one
abbrev pub HasEventRoom : RefBook → Event → Type 0
HasEventRoom b (SetRef name seen commit) = HasRoom b name
HasEventRoom b (DropRef name seen) = HasRoom b name
HasEventRoom b (Pruned depth roots held removed) = Unit {0}
HasEventRoom b (SetDeployments change list) = Unit {0}

-- the refs of a state, each once, ascending by their names
pub record Lists (rows : List (List ℕ × List ℕ)) (s : State) : Type 0 where
  pub ascending : IsStrictlySortedBy (slice_cmp nat_cmp) (map (λ r. r.0) rows)
  pub refs : (name commit : List ℕ) → Contains rows (name, commit) ↔ (s (RefOf name) ≡ Some commit)
