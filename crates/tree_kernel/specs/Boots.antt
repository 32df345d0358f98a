-- What a tree boots, where the objects of its leaves stand on a disk.
use Rattle.std.specs.Prelude.{◌≡◌, ◌⊎◌, ◌++◌, ◌∷◌, [], List, ℕ, codes, Option, Some, None, Result, Ok, Err}
use Rattle.ost_types.specs.declared.node.NodeName.{NodeName}
use Rattle.ost_types.specs.declared.node.NodeName.TheVariants.{Leaf}
use Rattle.ost_types.specs.declared.object.Kind.TheVariants.{File}
use Rattle.ost_types.specs.Path.{Name, Path}
use Rattle.ost_types.specs.PathMap.{Nodes, node_at}
use Rattle.fs_trait.specs.View.{Disk}
use Rattle.fs_trait.specs.Image.{reads}
use Rattle.repo_layout.specs.Paths.{object_path}
use Rattle.deploy_list.specs.Kernels.{Finds, kernel_path}
use Rattle.deploy_list.specs.declared.fault.KernelFault.{KernelFault}
use Rattle.deploy_list.specs.declared.fault.KernelFault.TheVariants.{NoKernel}
use Rattle.tree_kernel.specs.declared.find.TreeKernel.{TreeKernel}

-- the folder of the versions of kernels
abbrev pub modules_path : Path
modules_path = codes "usr" ∷ codes "lib" ∷ codes "modules" ∷ []

-- where a file of a version is
abbrev pub version_path : Name → Name → Path
version_path kver file = modules_path ++ kver ∷ file ∷ []

abbrev pub initramfs_path : Name → Path
initramfs_path kver = version_path kver (codes "initramfs.img")

-- the sum of a leaf
abbrev pub leaf_of : Option NodeName → Option (List ℕ)
leaf_of (Some (Leaf sum)) = Some sum
leaf_of other = None

-- The object of a file with this sum is a regular file on the disk, and no symbolic link.
abbrev pub IsRegular : Disk → List ℕ → Type 0
IsRegular d sum = (bytes : List ℕ) × (reads d (object_path File sum) ≡ Some bytes)

-- The regular file that a tree has at a path, a leaf whose object is one; or that it has none there.
abbrev pub IsFileAt : Disk → Nodes → Path → Option (List ℕ) → Type 0
IsFileAt d tree p (Some sum) = (node_at tree p ≡ Some (Leaf sum)) × IsRegular d sum
IsFileAt d tree p None = (sum : List ℕ) → node_at tree p ≡ Some (Leaf sum) → IsRegular d sum → ⊥

-- What a tree boots: its one kernel, where that is a regular file, with the initramfs beside it, where that is one; or the first
-- fault.
abbrev pub Boots : Disk → Nodes → Result TreeKernel KernelFault → Type 0
Boots d tree (Ok k) = Finds tree (Ok k.kver) × IsFileAt d tree (kernel_path k.kver) (Some k.kernel) × IsFileAt d tree (initramfs_path k.kver) k.initramfs
Boots d tree (Err NoKernel) = Finds tree (Err NoKernel) ⊎ ((kver : Name) × Finds tree (Ok kver) × IsFileAt d tree (kernel_path kver) None)
Boots d tree (Err fault) = Finds tree (Err fault)

-- No two answers hold of one tree on one disk.
abbrev pub BootsOnce : Type 0
BootsOnce = (d : Disk) (tree : Nodes) (a b : Result TreeKernel KernelFault) → Boots d tree a → Boots d tree b → a ≡ b
