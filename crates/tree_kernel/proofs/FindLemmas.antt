-- Which files a tree has, and that those of its kernel are there.
use Rattle.std.proofs.Common.{◌≡◌, ℕ, List, [], length, Option, Some, None, Ok, refl}
use Rattle.ost_types.specs.declared.node.NodeName.{NodeName}
use Rattle.ost_types.specs.declared.node.NodeName.TheVariants.{Folder, Leaf}
use Rattle.ost_types.specs.declared.object.Kind.TheVariants.{File}
use Rattle.ost_types.specs.Path.{Path}
use Rattle.ost_types.specs.PathMap.{Nodes, node_at}
use Rattle.fs_trait.specs.View.{Disk}
use Rattle.fs_trait.specs.Image.{reads}
use Rattle.repo_layout.specs.Paths.{object_path}
use Rattle.file_copy.specs.Pieces.{size_of}
use Rattle.tree_kernel.specs.declared.find.TreeKernel.{TreeKernel}
use Rattle.tree_kernel.specs.Boots.{Boots, IsFileAt, initramfs_path, leaf_of}
use Rattle.tree_kernel.specs.Sum.{HasFiles}

leaf_is : (n : Option NodeName) (file : List ℕ) → Some file ≡ leaf_of n → n ≡ Some (Leaf file)
leaf_is None file is = let e : Some file ≡ None = is in cc
leaf_is (Some (Folder m)) file is = let e : Some file ≡ None = is in cc
leaf_is (Some (Leaf sum)) file is = let e : Some file ≡ Some sum = is in cc

pub sized : (o : Option (List ℕ)) (n : ℕ) → Some n ≡ size_of o → (b : List ℕ) × (o ≡ Some b) × (n ≡ length b)
sized None n is = let e : Some n ≡ None = is in cc
sized (Some b) n is = (b, refl, let e : Some n ≡ Some (length b) = is in cc)

pub file_there : (d : Disk) (tree : Nodes) (p : Path) (file : List ℕ) (n : ℕ) → Some file ≡ leaf_of (node_at tree p) → Some n ≡ size_of (reads d (object_path File file)) → IsFileAt d tree p (Some file)
file_there d tree p file n leaf size = let s = sized (reads d (object_path File file)) n size in (leaf_is (node_at tree p) file leaf, (s.0, s.1))

-- The files of a kernel that was found are there.
pub has_files : (d : Disk) (tree : Nodes) (k : TreeKernel) → Boots d tree (Ok k) → HasFiles d k.kernel k.initramfs
has_files d tree k boots = by k.initramfs boots.2
  where
    by : (o : Option (List ℕ)) → IsFileAt d tree (initramfs_path k.kver) o → HasFiles d k.kernel o
    by None none = (boots.1.1.0, [], record { first_is = boots.1.1.1; second_is = refl })
    by (Some file) at = (boots.1.1.0, at.1.0, record { first_is = boots.1.1.1; second_is = at.1.1 })
