-- How the reachable objects are found: commits by their distance from a root, then all that is named.
use Rattle.std.specs.Prelude.{◌≡◌, ◌⊎◌, ◌<◌, ◌≤◌, ◌+◌, ℕ, suc, List, Contains}
use Rattle.ost_types.specs.declared.object.Kind.TheVariants.{Commit}
use Rattle.ost_types.specs.declared.object.ObjName.{ObjName}
use Rattle.repo_model.specs.Objects.{Store}
use Rattle.repo_model.specs.Trees.{name_of}
use Rattle.reach.specs.Reach.{ObjNames, IsIn, Refers}
use Rattle.reach.specs.Lines.{Begins, Line, IsParent, Reachable}

-- commits, each with a distance
abbrev pub Distances : Type 1
Distances = ℕ → List ℕ → Type 0

-- those of a list
abbrev pub Listed : List (ℕ × List ℕ) → Distances
Listed pairs k commit = Contains pairs (k, commit)

-- Commits that were found, at which distance each was, and of these the ones that were not looked into yet.
pub record Nears (S : Store) (roots : ObjNames) (depth : ℕ) (found waiting : Distances) : Type 0 where
  pub right : (k : ℕ) (commit : List ℕ) → found k commit → Line S roots depth k commit
  pub near : (commit : List ℕ) → roots (name_of Commit commit) → IsIn S (name_of Commit commit) → found 0 commit
  pub onward : (k : ℕ) (commit parent : List ℕ) → found k commit → k < depth → IsParent S commit parent → waiting k commit ⊎ ((j : ℕ) × (j ≤ k + 1) × found j parent)

-- One commit that was found is looked into. Its parent, where it is there and not too far away, was found no further than one beyond it,
-- or is from then on, and what is new waits.
pub record LooksUp (S : Store) (depth k : ℕ) (commit : List ℕ) (found waiting found' waiting' : Distances) : Type 0 where
  pub was : found k commit
  pub stays : (j : ℕ) (c : List ℕ) → found j c → found' j c
  pub new : (j : ℕ) (c : List ℕ) → found' j c → found j c ⊎ ((j ≡ suc k) × (k < depth) × IsParent S commit c)
  pub all : (parent : List ℕ) → k < depth → IsParent S commit parent → (j : ℕ) × (j ≤ k + 1) × found' j parent
  pub later : (j : ℕ) (c : List ℕ) → found' j c → j < depth → found j c ⊎ waiting' j c
  pub waits : (j : ℕ) (c : List ℕ) → waiting j c → ((j ≡ k) × (c ≡ commit)) ⊎ waiting' j c

-- Names that are marked, and of these the ones that were not looked into yet.
pub record Marks (S : Store) (roots : ObjNames) (depth : ℕ) (marked waiting : ObjNames) : Type 0 where
  pub right : (o : ObjName) → marked o → Reachable S roots depth o
  pub begins : (o : ObjName) → Begins S roots depth o → IsIn S o → marked o
  pub onward : (o next : ObjName) → marked o → Refers S o next → IsIn S next → waiting o ⊎ marked next

-- One marked object is looked into: what it names and the store has is marked from then on, and what is new and names something waits.
pub record LooksInto (S : Store) (o : ObjName) (marked waiting marked' waiting' : ObjNames) : Type 0 where
  pub was : marked o
  pub stays : (x : ObjName) → marked x → marked' x
  pub new : (x : ObjName) → marked' x → marked x ⊎ Refers S o x
  pub all : (x : ObjName) → Refers S o x → IsIn S x → marked' x
  pub later : (x next : ObjName) → marked' x → Refers S x next → marked x ⊎ waiting' x
  pub waits : (x : ObjName) → waiting x → (x ≡ o) ⊎ waiting' x

-- what of the store isn't marked
pub record AreDoomed (S : Store) (marked doomed : ObjNames) : Type 0 where
  pub each : (o : ObjName) → doomed o → IsIn S o × (marked o → ⊥)
  pub all : (o : ObjName) → IsIn S o → marked o ⊎ doomed o
