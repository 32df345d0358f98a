-- What is known of a disk while the nodes of a tree are looked for in a folder.
use Rattle.std.specs.Prelude.{◌++◌, ℕ, take, Contains, Option, IfSome}
use Rattle.ost_types.specs.declared.node.NodeName.{NodeName}
use Rattle.ost_types.specs.Path.{Name, Path, under}
use Rattle.ost_types.specs.PathMap.{Nodes}
use Rattle.fs_trait.specs.View.{Disk}
use Rattle.repo_layout.specs.Place.{IsOutsideEtc}
use Rattle.checkout_compare.specs.Compare.{HasFar}
use Rattle.checkout_compare.specs.Order.{IsUpTo}
use Rattle.checkout_compare.specs.Looking.{IsAs, IsExtra}

-- The first k nodes of the tree stand there, but for those in `etc`, and no name in them has a path past the bounds; and this is the
-- least path directly in one of them that is none of the tree.
pub record IsSoFar (d : Disk) (into : Path) (tree : Nodes) (k : ℕ) (least : Option Path) : Type 0 where
  pub stands : (p : Path) (n : NodeName) → Contains (take k tree) (p, n) → IsOutsideEtc p → IsAs d (into ++ p) n
  pub near : (p : Path) (n : NodeName) → Contains (take k tree) (p, n) → IsOutsideEtc p → ¬ (HasFar d (into ++ p))
  pub there : IfSome least (IsExtra d into tree)
  pub up_to : (f : Path) (n : NodeName) (x : Name) → Contains (take k tree) (f, n) → IsExtra d into tree (under f x) → IsUpTo least (under f x)
