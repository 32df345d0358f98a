-- A store before and after objects were removed from it.
use Rattle.std.specs.Prelude.{◌⊎◌, ℕ, List}
use Rattle.ost_types.specs.declared.object.ObjName.{ObjName}
use Rattle.repo_model.specs.Objects.{Store}
use Rattle.reach.specs.Reach.{ObjNames, IsIn}
use Rattle.reach.specs.Lines.{Reachable}

-- the objects of the store that have these names
abbrev pub Part : Store → ObjNames → Store
Part S keep name bytes = S name bytes × keep name

-- The store before is the store now with the removed objects, and these are there no more.
pub record IsSplit (before now : Store) (removed : ObjNames) : Type 0 where
  pub stays : (o : ObjName) (b : List ℕ) → now o b → before o b
  pub either : (o : ObjName) (b : List ℕ) → before o b → now o b ⊎ removed o
  pub was : (o : ObjName) → removed o → IsIn before o
  pub apart : (o : ObjName) → removed o → IsIn now o → ⊥

-- Exactly what wasn't reachable from the roots was removed.
pub record IsPruned (before now : Store) (roots : ObjNames) (depth : ℕ) (removed : ObjNames) : Type 0 where
  pub split : IsSplit before now removed
  pub only : (o : ObjName) → removed o → Reachable before roots depth o → ⊥
  pub all : (o : ObjName) → IsIn before o → Reachable before roots depth o ⊎ removed o
