-- Whether a folder is the checkout of a tree but for its `etc`, and where it first isn't. A deployment's own `/etc` is there to be
-- changed (OSTree manual, "Deployments").
use Rattle.std.specs.Prelude.{◌≡◌, ◌≢◌, ◌⊎◌, ◌++◌, [], Option, Some, None, Result, Ok, Err}
use Rattle.std.specs.declared.cmp.Ordering.TheVariants.{Less}
use Rattle.ost_types.specs.declared.meta.Meta.{Meta}
use Rattle.ost_types.specs.declared.node.NodeName.{NodeName}
use Rattle.ost_types.specs.declared.node.NodeName.TheVariants as tree_node
use Rattle.ost_types.specs.Path.{Name, Path, IsPath, path_cmp, under}
use Rattle.ost_types.specs.PathMap.{Nodes, node_at}
use Rattle.fs_trait.specs.declared.types.FsErr.{FsErr}
use Rattle.fs_trait.specs.Effect.{OfNone}
use Rattle.fs_trait.specs.View.{Disk}
use Rattle.fs_trait.specs.Seen.{Seen, Vacant, Leaf, shows, IsDirectory}
use Rattle.repo_layout.specs.Place.{IsOutsideEtc}
use Rattle.checkout.specs.CheckoutFolder.{Stands, leaf_path}

-- a regular file with these attributes and no bytes
abbrev pub IsEmptyFile : Meta → Seen → Type 0
IsEmptyFile m (Leaf n a b) = (a ≡ m) × (b ≡ [])
IsEmptyFile m s = ⊥

-- Both are empty regular files with the same attributes.
pub record AreEmptyAlike (one other : Seen) : Type 0 where
  pub meta : Meta
  pub first : IsEmptyFile meta one
  pub second : IsEmptyFile meta other

-- What the tree has stands at this path of the folder (`Stands`). Where its leaf is an empty regular file, that may be a file of its
-- own with the attributes of the object: OSTree makes it so, to spare the object's count of links.
abbrev pub StandsAs : Disk → Path → Path → Option NodeName → Type 0
StandsAs d into p (Some (tree_node.Leaf sum)) = Stands d into p (Some (tree_node.Leaf sum)) ⊎ AreEmptyAlike (shows d (into ++ p)) (shows d (leaf_path sum))
StandsAs d into p o = Stands d into p o

-- A folder has a name whose path is past the bounds of paths.
pub record HasFar (d : Disk) (folder : Path) : Type 0 where
  pub is_folder : IsDirectory (shows d folder)
  pub name : Name
  pub there : shows d (under folder name) ≢ Vacant
  pub far : ¬ (IsPath (under folder name))

-- Something else stands at the path in the folder than the tree has there, or a folder with a name whose path is past the bounds.
pub record IsWrong (d : Disk) (into : Path) (tree : Nodes) (p : Path) : Type 0 where
  pub outside : IsOutsideEtc p
  pub wrong : ¬ (StandsAs d into p (node_at tree p)) ⊎ HasFar d (into ++ p)

-- Nothing is wrong, or this path is the first that is.
abbrev pub Tells : Disk → Path → Nodes → Option Path → Type 0
Tells d into tree None = (p : Path) → ¬ (IsWrong d into tree p)
Tells d into tree (Some p) = IsWrong d into tree p × ((q : Path) → path_cmp q p ≡ Less → ¬ (IsWrong d into tree q))

-- an error comes where a call failed or wanted for memory
abbrev pub Finds : Disk → Path → Nodes → Result (Option Path) FsErr → Type 0
Finds d into tree (Ok found) = Tells d into tree found
Finds d into tree (Err e) = OfNone e

-- The folder is the checkout of the tree outside its `etc`;
abbrev pub IsCheckoutOutsideEtc : Disk → Path → Nodes → Type 0
IsCheckoutOutsideEtc d into tree = (p : Path) → IsOutsideEtc p → Stands d into p (node_at tree p)

-- and the same where its empty files may be files of their own.
abbrev pub IsDeployedOutsideEtc : Disk → Path → Nodes → Type 0
IsDeployedOutsideEtc d into tree = (p : Path) → IsOutsideEtc p → StandsAs d into p (node_at tree p)
