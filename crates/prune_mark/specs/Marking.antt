-- The marking of what a prune keeps, as plain data, what it knows of a disk, and what its steps do.
use Rattle.std.specs.Prelude.{◌≡◌, ◌⊎◌, ◌↔◌, ◌<◌, ◌≤◌, ◌+◌, ◌-◌, ℕ, Bool, List, [], ◌∷◌, ◌++◌, length, slice_index_or, Contains, Result, Ok, Err}
use Rattle.ost_types.specs.declared.object.Kind.TheVariants as kind
use Rattle.ost_types.specs.declared.object.ObjName.{ObjName}
use Rattle.ost_forms.specs.DirTree.{Entries}
use Rattle.fs_trait.specs.declared.task.StepResult.{StepResult}
use Rattle.fs_trait.specs.declared.task.StepResult.TheVariants as turn
use Rattle.fs_trait.specs.Effect.{OfNone}
use Rattle.fs_trait.specs.View.{Disk}
use Rattle.repo_model.specs.Objects.{Stores}
use Rattle.repo_model.specs.Trees.{name_of}
use Rattle.reach.specs.Reach.{ObjNames, IsEntry, IsFolderOf, IsIn, Refers}
use Rattle.reach.specs.Lines.{Reachable}
use Rattle.reach.specs.Marking.{Distances, Nears}
use Rattle.tree_read.specs.Looks.{IsAbsent, IsDamaged}
use Rattle.store_check.specs.Listing.{AreAll}
use Rattle.prune_mark.specs.declared.fault.MarkFault.{MarkFault}
use Rattle.prune_mark.specs.declared.fault.MarkFault.TheVariants as fault
use Rattle.prune_mark.specs.declared.links.Links.{Links}
use Rattle.prune_mark.specs.declared.links.Near.{Near}
use Rattle.prune_mark.specs.Flags.{IsMarked, MarksParent, Spreads, count_down}

pub record State : Type 0 where
  -- all names of the store, and a flag beside each
  pub names : List ObjName
  pub flags : List Bool
  -- how many parents of a root are followed
  pub depth : ℕ
  -- the commits that were found; those from a place on weren't looked into yet
  pub found : List Near
  pub next : ℕ
  -- the entries of folders that were found and not looked into yet
  pub pending : List (List ℕ)

abbrev pub near_at : ℕ → List ℕ → Near
near_at distance commit = record { distance = distance; commit = commit }

-- the commits that were found, and of these the ones that wait; a commit that is damaged will be told, and counts as none until then
abbrev pub WasFound : Disk → List Near → Distances
WasFound d found k commit = Contains found (near_at k commit) × IsIn (Stores d) (name_of kind.Commit commit)

abbrev pub IsAfter : List Near → ℕ → Near → Type 0
IsAfter found next near = (i : ℕ) × (next ≤ i) × (i < length found) × (slice_index_or found i near ≡ near)

abbrev pub WaitsAt : Disk → List Near → ℕ → Distances
WaitsAt d found next k commit = IsAfter found next (near_at k commit) × IsIn (Stores d) (name_of kind.Commit commit)

-- it waits
abbrev pub Waits : State → ObjNames
Waits m o =
    ((k : ℕ) × (commit : List ℕ) × IsAfter m.found m.next (near_at k commit) × (o ≡ name_of kind.Commit commit))
    ⊎ ((tree : List ℕ) × Contains m.pending tree × (o ≡ name_of kind.DirTree tree))

-- Commits were found nearest first, and none further away than one beyond the next.
pub record InLine (found : List Near) (next : ℕ) : Type 0 where
  pub rises : (i j : ℕ) (d : Near) → i ≤ j → j < length found → (slice_index_or found i d).distance ≤ (slice_index_or found j d).distance
  pub near : (j : ℕ) (d : Near) → next < length found → j < length found → (slice_index_or found j d).distance ≤ (slice_index_or found next d).distance + 1

-- The names are those of the store. What is marked of it is reachable, the roots are, and what a marked object names is, too, unless
-- that object waits.
pub record Knows (d : Disk) (roots : List ObjName) (m : State) : Type 0 where
  pub names_are : AreAll d m.names
  pub nears : Nears (Stores d) (Contains roots) m.depth (WasFound d m.found) (WaitsAt d m.found m.next)
  pub line : InLine m.found m.next
  pub right : (o : ObjName) → IsMarked m.names m.flags o → IsIn (Stores d) o → Reachable (Stores d) (Contains roots) m.depth o
  pub begins : (o : ObjName) → Contains roots o → Contains m.names o → IsMarked m.names m.flags o
  pub onward : (o next : ObjName) → IsMarked m.names m.flags o → Refers (Stores d) o next → Contains m.names next → Waits m o ⊎ IsMarked m.names m.flags next
  pub found_marked : (k : ℕ) (commit : List ℕ) → Contains m.found (near_at k commit) → IsMarked m.names m.flags (name_of kind.Commit commit)
  pub marked_found : (commit : List ℕ) → IsMarked m.names m.flags (name_of kind.Commit commit) → (k : ℕ) × Contains m.found (near_at k commit)
  pub pending_marked : (tree : List ℕ) → Contains m.pending tree → IsMarked m.names m.flags (name_of kind.DirTree tree)

-- Exactly the reachable of the store are marked; and of all that stands, what a marked object names is, and each root, also where it is
-- damaged.
pub record MarksAll (d : Disk) (roots : List ObjName) (m : State) : Type 0 where
  pub exact : (o : ObjName) → IsIn (Stores d) o → IsMarked m.names m.flags o ↔ Reachable (Stores d) (Contains roots) m.depth o
  pub begins : (o : ObjName) → Contains roots o → Contains m.names o → IsMarked m.names m.flags o
  pub onward : (o next : ObjName) → IsMarked m.names m.flags o → Refers (Stores d) o next → Contains m.names next → IsMarked m.names m.flags next

-- Why it goes no further: an object that was listed is away or damaged, a call failed or memory was wanted.
abbrev pub Refuses : Disk → ℕ → List ObjName → MarkFault → Type 0
Refuses d content names (fault.Absent o) = Contains names o × IsAbsent d o
Refuses d content names (fault.Damaged o) = Contains names o × IsDamaged d content o
Refuses d content names (fault.Fs e) = OfNone e
Refuses d content names fault.NoMemory = Unit {0}

-- Each answer of a step.
abbrev pub StepTells : Disk → ℕ → List ObjName → State → Result (StepResult (Unit {0})) MarkFault → State → Type 0
StepTells d content roots old (Ok turn.More) new = Knows d roots new
StepTells d content roots old (Ok (turn.Done x)) new = MarksAll d roots new
StepTells d content roots old (Err f) new = Refuses d content old.names f

-- the names without a mark, and the objects that wait: at most so many steps go on
abbrev pub left_of : State → ℕ
left_of m = count_down m.flags + (length m.found - m.next) + length m.pending

-- What a step does, told or not: one that goes on leaves fewer steps, and no other changes anything.
abbrev pub IsStepped : State → Result (StepResult (Unit {0})) MarkFault → State → Type 0
IsStepped old (Ok turn.More) new = (new.names ≡ old.names) × (new.depth ≡ old.depth) × (left_of new < left_of old)
IsStepped old (Ok (turn.Done x)) new = new ≡ old
IsStepped old (Err f) new = new ≡ old

-- nothing was looked into
pub record IsFresh (names : List ObjName) (depth : ℕ) (m : State) : Type 0 where
  pub names_are : m.names ≡ names
  pub depth_is : m.depth ≡ depth
  pub few : left_of m ≤ length names

-- Each answer of a whole run.
abbrev pub RunTells : Disk → ℕ → List ObjName → List ObjName → ℕ → Result State MarkFault → Type 0
RunTells d content names roots depth (Ok m) = (m.names ≡ names) × (m.depth ≡ depth) × MarksAll d roots m
RunTells d content names roots depth (Err f) = Refuses d content names f

-- the commit at the next place was looked into
pub record OpensCommit (old : State) (near : Near) (links : Links) (new : State) : Type 0 where
  pub between : List Bool
  pub flags : List Bool
  pub found : List Near
  pub pending : List (List ℕ)
  pub folder : Spreads old.names (IsFolderOf links.tree links.meta) old.flags old.pending between pending
  pub parent : MarksParent old.names links.parent near.distance old.depth between old.found flags found
  pub new_is : new ≡ record { names = old.names; flags = flags; depth = old.depth; found = found; next = old.next + 1; pending = pending }

-- and the last entries that wait
pub record OpensTree (old : State) (e : Entries) (new : State) : Type 0 where
  pub flags : List Bool
  pub pending : List (List ℕ)
  pub spreads : (rest : List (List ℕ)) (tree : List ℕ) → old.pending ≡ rest ++ tree ∷ [] → Spreads old.names (IsEntry e) old.flags rest flags pending
  pub new_is : new ≡ record { names = old.names; flags = flags; depth = old.depth; found = old.found; next = old.next; pending = pending }
