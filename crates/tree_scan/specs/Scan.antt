-- What stands in a folder of a disk, as a map. A deployment's own `/etc` is read so (OSTree manual, "Deployments").
use Rattle.std.specs.Prelude.{◌≡◌, ◌++◌, ℕ, List, Option, Some, None}
use Rattle.sha2.specs.Sha256.{sha256}
use Rattle.ost_types.specs.declared.node.NodeName.{NodeName}
use Rattle.ost_types.specs.declared.node.NodeName.TheVariants.{Folder, Leaf}
use Rattle.ost_types.specs.declared.object.Kind.TheVariants.{File}
use Rattle.ost_types.specs.Path.{Path}
use Rattle.ost_types.specs.PathMap.{Nodes, node_at}
use Rattle.fs_trait.specs.View.{Disk}
use Rattle.fs_trait.specs.Seen.{Seen, Vacant, Directory, shows}
use Rattle.repo_model.specs.Objects.{object_in}
use Rattle.checkout.specs.CheckoutFolder.{IsLeaf}

-- A leaf whose object in a bare repository, its content stream, has this sum.
pub record HasSum (s : Seen) (sum : List ℕ) : Type 0 where
  pub leaf : IsLeaf s
  pub stream : List ℕ
  pub form : object_in File s ≡ Some stream
  pub is : sum ≡ sha256 stream

-- what a map has at a path that shows this: nothing, a folder with its attributes, or a leaf by its sum
abbrev pub Reads : Seen → Option NodeName → Type 0
Reads s None = s ≡ Vacant
Reads s (Some (Folder m)) = s ≡ Directory m
Reads s (Some (Leaf sum)) = HasSum s sum

-- The map is what stands at the path and below it.
abbrev pub IsScan : Disk → Path → Nodes → Type 0
IsScan d at map = (p : Path) → Reads (shows d (at ++ p)) (node_at map p)
