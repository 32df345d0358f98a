-- The task that reads a tree, as plain data, what it knows of a store, and what its steps do.
use Rattle.std.specs.Prelude.{◌≡◌, ◌≤◌, ◌<◌, ◌+◌, ◌*◌, ◌-◌, ℕ, Bool, true, false, List, [], ◌∷◌, ◌++◌, Contains, Result, Ok, Err, length, map}
use Rattle.std.specs.List.{AllByRecursion}
use Rattle.ost_types.specs.declared.limits.Limits.{Limits}
use Rattle.ost_types.specs.declared.memory.NoMemory.{NoMemory}
use Rattle.ost_types.specs.declared.node.NodeName.{NodeName}
use Rattle.ost_types.specs.declared.object.Kind.TheVariants as kind
use Rattle.ost_types.specs.Path.{Path, under}
use Rattle.ost_types.specs.PathMap.{Nodes, IsAscending, paths_of}
use Rattle.ost_forms.specs.Commit.{CommitParts}
use Rattle.ost_forms.specs.declared.dirtree.DirTree.{DirTree}
use Rattle.ost_forms.specs.DirTree.{Entries}
use Rattle.fs_trait.specs.declared.types.FsErr.{FsErr}
use Rattle.fs_trait.specs.declared.task.StepResult.{StepResult}
use Rattle.fs_trait.specs.declared.task.StepResult.TheVariants as turn
use Rattle.fs_trait.specs.Effect.{OfNone}
use Rattle.fs_trait.specs.View.{Disk}
use Rattle.repo_model.specs.Objects.{Store, Stores}
use Rattle.repo_model.specs.Trees.{HasCommit, name_of}
use Rattle.tree_read.specs.declared.fault.TreeFault.{TreeFault}
use Rattle.tree_read.specs.declared.fault.TreeFault.TheVariants as fault
use Rattle.tree_read.specs.declared.item.Named.{Named}
use Rattle.tree_read.specs.declared.item.Named.TheVariants.{Folder, Attributes}
use Rattle.tree_read.specs.declared.item.Item.{Item}
use Rattle.tree_read.specs.Children.{Child, IsChild, AreChildren, item_of}
use Rattle.tree_read.specs.Line.{InLine}
use Rattle.tree_read.specs.Walked.{Walked}
use Rattle.tree_read.specs.Looks.{IsAbsent, IsDamaged}
use Rattle.tree_read.specs.Remembered.{GainsTree, Memory, Recalls, entries_in, nothing}
use Rattle.tree_read.specs.Order.{AbsentIn, DamagedIn, IsOwner, IsShort}
use Rattle.tree_read.specs.Whole.{AtCommitIn}

pub record Reading : Type 0 where
  pub commit : List ℕ
  pub limits : Limits
  -- the commit was read
  pub begun : Bool
  -- what wasn't read yet, the next of it last
  pub pending : List Item
  pub found : Nodes
  pub remembered : Memory

-- before the commit was read
abbrev pub unread : List ℕ → Limits → Reading
unread commit limits = record { commit = commit; limits = limits; begun = false; pending = []; found = []; remembered = nothing }

-- What was found and what waits make up the tree that the store has, and what was found comes before all that waits. What is
-- remembered is what the store has.
pub record Knows (S : Store) (t : Reading) : Type 0 where
  pub parts : CommitParts
  pub has : HasCommit S t.commit parts
  pub walked : Walked S t.limits.content parts.tree parts.meta t.found t.pending
  pub owned : (i : Item) → Contains t.pending i → IsOwner S t.limits.content parts.tree parts.meta i.path (name_of kind.DirTree i.owner)
  pub line : InLine t.found t.pending
  pub ascending : IsAscending (paths_of t.found)
  pub short : AllByRecursion IsShort (paths_of t.found)
  pub few : length t.found ≤ t.limits.paths
  pub recalls : Recalls S t.limits.content parts.tree parts.meta t.remembered

abbrev pub IsSoFar : Store → Reading → Type 0
IsSoFar S t = t.begun ≡ true → Knows S t

-- Each answer of a step, by a store of what a disk has: it goes on, has read all, or tells the first object that is missing or damaged.
abbrev pub TellsIn : Store → Disk → Reading → Result (StepResult (Result (Unit {0}) TreeFault)) FsErr → Reading → Type 0
TellsIn S d old (Ok turn.More) new = Knows S new
TellsIn S d old (Ok (turn.Done (Ok x))) new = Knows S old × (old.pending ≡ [])
TellsIn S d old (Ok (turn.Done (Err (fault.Absent o)))) new =
    AtCommitIn S old.commit ((o ≡ name_of kind.Commit old.commit) × IsAbsent d o) (λ tree meta. AbsentIn S d old.limits tree meta o)
TellsIn S d old (Ok (turn.Done (Err (fault.Damaged o)))) new =
    AtCommitIn S old.commit ((o ≡ name_of kind.Commit old.commit) × IsDamaged d old.limits.content o) (λ tree meta. DamagedIn S d old.limits tree meta o)
TellsIn S d old (Ok (turn.Done (Err f))) new = ⊥
TellsIn S d old (Err e) new = OfNone e

-- and by that of its objects
abbrev pub StepTells : Disk → Reading → Result (StepResult (Result (Unit {0}) TreeFault)) FsErr → Reading → Type 0
StepTells d = TellsIn (Stores d) d

-- a folder whose entries were read has its attributes left
abbrev pub weight_of : Named → ℕ
weight_of (Attributes meta) = 0
weight_of x = 1

abbrev pub weight : List Item → ℕ
weight [] = 0
weight (i ∷ []) = weight_of i.named
weight (i ∷ j ∷ items) = weight (j ∷ items)

abbrev pub left_in : Bool → ℕ → ℕ → List Item → ℕ
left_in true paths count items = 2 * (paths - count) + weight items
left_in false paths count items = 2 * paths + 2

-- At most so many steps go on: two for each path that may still be found.
abbrev pub left_of : Reading → ℕ
left_of t = left_in t.begun t.limits.paths (length t.found) t.pending

-- What a step does to the task, told or not: only one that goes on changes it, and then fewer are left.
abbrev pub IsStepped : Reading → Result (StepResult (Result (Unit {0}) TreeFault)) FsErr → Reading → Type 0
IsStepped old (Ok turn.More) new = (new.commit ≡ old.commit) × (new.limits ≡ old.limits) × (left_of new < left_of old)
IsStepped old (Ok (turn.Done (Ok x))) new = new ≡ old
IsStepped old (Ok (turn.Done (Err (fault.Absent o)))) new = new ≡ old
IsStepped old (Ok (turn.Done (Err (fault.Damaged o)))) new = new ≡ old
IsStepped old (Ok (turn.Done (Err f))) new = ⊥
IsStepped old (Err e) new = new ≡ old

-- The next item is this one, and a path more may be found.
pub record IsNext (t : Reading) (named : Named) (owner : List ℕ) : Type 0 where
  pub items : List Item
  pub path : Path
  pub cut : t.pending ≡ items ++ record { path = path; named = named; owner = owner } ∷ []
  pub begun : t.begun ≡ true
  pub room : length t.found < t.limits.paths

-- the same with another memory
abbrev pub with_memory : Reading → Memory → Reading
with_memory t m = record t { remembered = m }

-- its path was found to show the node, and this is remembered now
abbrev pub Takes : Reading → NodeName → Memory → Reading → Type 0
Takes old n m new =
    (items : List Item) (next : Item) → old.pending ≡ items ++ next ∷ []
    → new ≡ record { commit = old.commit; limits = old.limits; begun = old.begun; pending = items; found = old.found ++ (next.path, n) ∷ []; remembered = m }

-- these items came in its place
abbrev pub Opens : Reading → List Item → Memory → Reading → Type 0
Opens old below m new =
    (items : List Item) (next : Item) → old.pending ≡ items ++ next ∷ []
    → new ≡ record { commit = old.commit; limits = old.limits; begun = old.begun; pending = items ++ below; found = old.found; remembered = m }

-- these items may come in its place
pub record Fits (t : Reading) (below : List Item) : Type 0 where
  pub items : List Item
  pub next : Item
  pub cut : t.pending ≡ items ++ next ∷ []
  pub line : InLine t.found (items ++ below)

-- the root, once the commit was read
abbrev pub begun_at : Reading → List ℕ → List ℕ → Reading
begun_at old tree meta = record { commit = old.commit; limits = old.limits; begun = true; pending = record { path = []; named = Folder tree meta; owner = tree } ∷ []; found = []; remembered = nothing }

-- The items are those of the entries of a folder at the path, and its attributes.
pub record Lists (at : Path) (owner tree meta : List ℕ) (e : Entries) (items : List Item) : Type 0 where
  pub children : List Child
  pub are : AreChildren e children
  pub short : AllByRecursion (λ i. IsShort i.path) (map (item_of at tree) children)
  pub items_are : items ≡ map (item_of at tree) children ++ record { path = at; named = Attributes meta; owner = owner } ∷ []

-- one of the entries has too long a path
pub record IsFar (at : Path) (e : Entries) : Type 0 where
  pub child : Child
  pub is : IsChild e child
  pub far : IsShort (under at child.name) → ⊥

abbrev pub AreShort : List Item → Bool → Type 0
AreShort items true = AllByRecursion (λ i. IsShort i.path) items
AreShort items false = (i : Item) × Contains items i × (IsShort i.path → ⊥)

-- the same, where the folder is the next item
abbrev pub ListsBelow : Reading → List ℕ → List ℕ → List ℕ → Entries → List Item → Type 0
ListsBelow t owner tree meta e below = (items : List Item) (next : Item) → t.pending ≡ items ++ next ∷ [] → Lists next.path owner tree meta e below

abbrev pub IsFarBelow : Reading → Entries → Type 0
IsFarBelow t e = (items : List Item) (next : Item) → t.pending ≡ items ++ next ∷ [] → IsFar next.path e

pub record OpensAt (old : Reading) (owner tree meta : List ℕ) (t : DirTree) (new : Reading) : Type 0 where
  pub below : List Item
  pub lists : ListsBelow old owner tree meta (entries_in t) below
  pub opens : Opens old below new.remembered new
  pub gains : GainsTree old.remembered new.remembered tree t

-- Each answer of opening the next item, a folder with these entries.
abbrev pub IsOpened : Reading → List ℕ → List ℕ → List ℕ → DirTree → Result (StepResult (Result (Unit {0}) TreeFault)) NoMemory → Reading → Type 0
IsOpened old owner tree meta t (Ok turn.More) new = OpensAt old owner tree meta t new
IsOpened old owner tree meta t (Ok (turn.Done (Err (fault.Damaged o)))) new = (new ≡ old) × (o ≡ name_of kind.DirTree tree) × IsFarBelow old (entries_in t)
IsOpened old owner tree meta t (Ok r) new = ⊥
IsOpened old owner tree meta t (Err none) new = new ≡ old
