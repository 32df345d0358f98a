-- A tree in the middle of being read.
use Rattle.std.specs.Prelude.{◌⊎◌, ℕ, List, Contains}
use Rattle.ost_types.specs.declared.node.NodeName.{NodeName}
use Rattle.ost_types.specs.declared.object.ObjName.{ObjName}
use Rattle.ost_types.specs.Path.{Path}
use Rattle.ost_types.specs.PathMap.{Nodes, paths_of}
use Rattle.repo_model.specs.Objects.{Store}
use Rattle.repo_model.specs.Trees.{Shows, Names}
use Rattle.tree_read.specs.declared.item.Item.{Item}
use Rattle.tree_read.specs.Items.{ItemShows, ItemNames}
use Rattle.tree_read.specs.Order.{IsKept}

module _ (S : Store) (content : ℕ) where
  -- some item shows the node there, or names the object
  pub record Left (items : List Item) (p : Path) (n : NodeName) : Type 0 where
    pub item : Item
    pub among : Contains items item
    pub shows : ItemShows S item p n

  pub record Waits (items : List Item) (p : Path) (o : ObjName) : Type 0 where
    pub item : Item
    pub among : Contains items item
    pub names : ItemNames S item p o

  -- some object that waits is named at the path
  pub record StillMet (items : List Item) (p : Path) : Type 0 where
    pub object : ObjName
    pub waits : Waits items p object

  -- These pairs and what the items show make up what the two objects show; what they name is kept, or waits. Each path at which
  -- they name something was found, or is still met.
  pub record Walked (tree meta : List ℕ) (found : Nodes) (items : List Item) : Type 0 where
    pub all : (p : Path) (n : NodeName) → Shows S tree meta p n → Contains found (p, n) ⊎ Left items p n
    pub sound : (p : Path) (n : NodeName) → Contains found (p, n) → Shows S tree meta p n
    pub lies : (p : Path) (n : NodeName) → Left items p n → Shows S tree meta p n
    pub kept : (p : Path) (o : ObjName) → Names S tree meta p o → IsKept S content p o ⊎ Waits items p o
    pub named : (p : Path) (o : ObjName) → Waits items p o → Names S tree meta p o
    pub met : (p : Path) (o : ObjName) → Names S tree meta p o → Contains (paths_of found) p ⊎ StillMet items p
