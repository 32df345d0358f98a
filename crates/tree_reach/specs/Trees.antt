-- The objects of a tree that is committed, and of its commit, as stores. Two of them may have one name.
use Rattle.std.specs.Prelude.{◌≡◌, ◌⊎◌, ℕ, List, Contains, Ok}
use Rattle.ost_types.specs.declared.limits.Limits.{Limits}
use Rattle.ost_types.specs.declared.object.Kind.TheVariants.{Commit}
use Rattle.ost_forms.specs.declared.tree_item.TreeItem.{TreeItem}
use Rattle.ost_forms.specs.Commit.{CommitParts, ReadsCommit}
use Rattle.repo_model.specs.Objects.{Store}
use Rattle.repo_model.specs.Trees.{name_of}
use Rattle.tree_build.specs.Items.{AreItems, AreTyped, IsTree}
use Rattle.tree_build.specs.Makeable.{AreMakeable}
use Rattle.tree_build.specs.Objects.{Object, root_of, work}
use Rattle.reach.specs.Reach.{ObjNames, IsFolderOf}

-- The items are a tree within the bounds.
pub record IsMadeTree (limits : Limits) (items : List TreeItem) : Type 0 where
  pub ordered : AreItems items
  pub typed : AreTyped items
  pub tree : IsTree items
  pub makeable : AreMakeable limits items

-- one of the objects of the tree has this name
abbrev pub IsOfTree : List TreeItem → ObjNames
IsOfTree items name = (o : Object) × Contains (work items) o × (o.name ≡ name)

-- these objects with their bytes
abbrev pub TreeStore : List TreeItem → Store
TreeStore items name bytes = (o : Object) × Contains (work items) o × (o.name ≡ name) × (o.bytes ≡ bytes)

-- the two objects of the tree's root
abbrev pub IsRootOf : List TreeItem → ObjNames
IsRootOf items = IsFolderOf (root_of items).0 (root_of items).1

-- The bytes are a commit of the tree.
pub record IsCommitOf (items : List TreeItem) (bytes : List ℕ) : Type 0 where
  pub parts : CommitParts
  pub reads : ReadsCommit (λ x. x) bytes (Ok parts)
  pub tree : parts.tree ≡ (root_of items).0
  pub meta : parts.meta ≡ (root_of items).1

-- the objects of the tree, and these bytes as the commit
abbrev pub CommitStore : List TreeItem → List ℕ → List ℕ → Store
CommitStore items commit bytes name b = TreeStore items name b ⊎ ((name ≡ name_of Commit commit) × (b ≡ bytes))

-- those of them that a store has
abbrev pub Held : Store → List TreeItem → List ℕ → List ℕ → Store
Held S items commit bytes name b = CommitStore items commit bytes name b × S name b
