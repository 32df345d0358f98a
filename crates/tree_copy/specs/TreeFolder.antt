-- A folder that is a copy of the map of a tree.
use Rattle.std.specs.Prelude.{◌≡◌, ◌≢◌, ◌++◌, ℕ, List, [], Option, Some, None}
use Rattle.ost_types.specs.declared.node.NodeName.{NodeName}
use Rattle.ost_types.specs.declared.node.NodeName.TheVariants.{Folder, Leaf}
use Rattle.ost_types.specs.Mode.{IsFileMode, IsLinkMode}
use Rattle.ost_types.specs.Path.{Path}
use Rattle.ost_types.specs.PathMap.{Nodes, node_at}
use Rattle.fs_trait.specs.declared.types.Value.TheVariants.{File}
use Rattle.fs_trait.specs.View.{Disk}
use Rattle.fs_trait.specs.Seen.{Seen, Vacant, Directory, Symlink, Leaf as SeenLeaf, shows}
use Rattle.checkout.specs.CheckoutFolder.{leaf_path}

-- a leaf that can be made anew: it has the mode of its kind, and a link a target
abbrev pub IsSource : Seen → Type 0
IsSource (SeenLeaf n m b) = IsFileMode m.mode
IsSource (Symlink m target) = IsLinkMode m.mode × (target ≢ [])
IsSource s = ⊥

-- the objects of all leaves of the map are there
abbrev pub HasSources : Disk → Nodes → Type 0
HasSources d tree = (p : Path) (sum : List ℕ) → node_at tree p ≡ Some (Leaf sum) → IsSource (shows d (leaf_path sum))

-- the inode stands nowhere but at this path
abbrev pub IsAlone : Disk → ℕ → Path → Type 0
IsAlone d k p = (q : Path) → d.at q ≡ File k → q ≡ p

-- At this path stands a copy of such a leaf: a link that is equal to it, or a file of its own, with its attributes and bytes.
abbrev pub IsCopyOf : Disk → Path → Seen → Type 0
IsCopyOf d p (Symlink m target) = shows d p ≡ Symlink m target
IsCopyOf d p (SeenLeaf n m b) = (k : ℕ) × (shows d p ≡ SeenLeaf k m b) × IsAlone d k p
IsCopyOf d p s = ⊥

-- At this path of the folder stands what is in the map there: nothing; a folder with the attributes; or a copy of the leaf that
-- stands at the path of its object.
abbrev pub Stands : Disk → Path → Path → Option NodeName → Type 0
Stands d into p None = shows d (into ++ p) ≡ Vacant
Stands d into p (Some (Folder m)) = shows d (into ++ p) ≡ Directory m
Stands d into p (Some (Leaf sum)) = IsCopyOf d (into ++ p) (shows d (leaf_path sum))

-- The folder is a copy of the map: so at each path.
abbrev pub IsCopy : Disk → Path → Nodes → Type 0
IsCopy d into tree = (p : Path) → Stands d into p (node_at tree p)
