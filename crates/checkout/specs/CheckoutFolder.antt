-- A folder that is the map of a tree.
use Rattle.std.specs.Prelude.{◌≡◌, ◌++◌, ℕ, List, [], Option, Some, None}
use Rattle.ost_types.specs.declared.meta.Meta.{Meta}
use Rattle.ost_types.specs.declared.node.NodeName.{NodeName}
use Rattle.ost_types.specs.declared.node.NodeName.TheVariants.{Folder, Leaf}
use Rattle.ost_types.specs.declared.object.Kind.TheVariants.{File}
use Rattle.ost_types.specs.Path.{Name, Path, under}
use Rattle.ost_types.specs.PathMap.{Nodes, node_at}
use Rattle.fs_trait.specs.View.{Disk}
use Rattle.fs_trait.specs.Seen.{Seen, Vacant, Directory, Symlink, Leaf as SeenLeaf, shows}
use Rattle.repo_layout.specs.Paths.{object_path}

-- a regular file or a symbolic link
abbrev pub IsLeaf : Seen → Type 0
IsLeaf (SeenLeaf n m b) = Unit {0}
IsLeaf (Symlink m target) = Unit {0}
IsLeaf s = ⊥

-- where the object of a leaf stands
abbrev pub leaf_path : List ℕ → Path
leaf_path sum = object_path File sum

-- At this path of the folder stands what is in the map there: nothing; a folder with the attributes; or the leaf that stands at
-- the path of its object, so a regular file is one inode with it, and a symbolic link is equal to it.
abbrev pub Stands : Disk → Path → Path → Option NodeName → Type 0
Stands d into p None = shows d (into ++ p) ≡ Vacant
Stands d into p (Some (Folder m)) = shows d (into ++ p) ≡ Directory m
Stands d into p (Some (Leaf sum)) = IsLeaf (shows d (into ++ p)) × (shows d (into ++ p) ≡ shows d (leaf_path sum))

-- The folder is the map: so at each path.
abbrev pub IsCheckout : Disk → Path → Nodes → Type 0
IsCheckout d into tree = (p : Path) → Stands d into p (node_at tree p)

-- The map is a tree: a folder at the root, and at the folder of each path that it has.
pub record IsTreeMap (tree : Nodes) : Type 0 where
  pub root : (m : Meta) × (node_at tree [] ≡ Some (Folder m))
  pub inner : (f : Path) (x : Name) (n : NodeName) → node_at tree (under f x) ≡ Some n → (m : Meta) × (node_at tree f ≡ Some (Folder m))

-- the objects of all leaves of the map are there
abbrev pub HasLeaves : Disk → Nodes → Type 0
HasLeaves d tree = (p : Path) (sum : List ℕ) → node_at tree p ≡ Some (Leaf sum) → IsLeaf (shows d (leaf_path sum))
