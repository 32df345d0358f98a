-- The commit of a tree, and what the tree shows.
use Rattle.std.specs.Prelude.{◌≡◌, ℕ, List, Contains, Option}
use Rattle.ost_types.specs.declared.limits.Limits.{Limits}
use Rattle.gv_core.specs.Tree as t
use Rattle.gv_core.specs.Tree.{no_trees}
use Rattle.ost_types.specs.declared.node.NodeName.{NodeName}
use Rattle.ost_types.specs.Path.{Path}
use Rattle.ost_forms.specs.declared.tree_item.TreeItem.{TreeItem}
use Rattle.ost_forms.specs.Commit.{CommitParts, commit_form, parts_from}
use Rattle.repo_model.specs.Objects.{Store, IsMap}
use Rattle.repo_model.specs.Trees.{HasCommit}
use Rattle.tree_build.specs.Items.{AreItems, AreTyped, IsTree}
use Rattle.tree_build.specs.Objects.{Object, bytes_of, node_by, root_of, work}
use Rattle.tree_build.specs.Makeable.{AreMakeable}

-- a commit of the tree with these names of its root, with empty metadata and no related objects
abbrev pub commit_parts : List ℕ → List ℕ → Option (List ℕ) → List ℕ → List ℕ → ℕ → CommitParts
commit_parts tree meta parent subject body time = parts_from (t.array no_trees) parent (t.array no_trees) subject body time tree meta

abbrev pub commit_bytes : CommitParts → List ℕ
commit_bytes parts = bytes_of (commit_form parts)

-- the tree of the items has this at the path
pub record ItemShows (items : List TreeItem) (p : Path) (n : NodeName) : Type 0 where
  pub item : TreeItem
  pub among : Contains items item
  pub at : item.path ≡ p
  pub node : n ≡ node_by item.meta item.body

-- A store that has one object at most of each name has each object of a tree within the bounds.
pub record HasTree (S : Store) (limits : Limits) (items : List TreeItem) : Type 0 where
  pub one : IsMap S
  pub ordered : AreItems items
  pub typed : AreTyped items
  pub tree : IsTree items
  pub makeable : AreMakeable limits items
  pub objects : (o : Object) → Contains (work items) o → S o.name o.bytes

-- it has a commit of the tree
pub record CommitsTree (S : Store) (items : List TreeItem) (commit : List ℕ) : Type 0 where
  pub parts : CommitParts
  pub here : HasCommit S commit parts
  pub tree : parts.tree ≡ (root_of items).0
  pub meta : parts.meta ≡ (root_of items).1
