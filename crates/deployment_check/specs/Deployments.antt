-- When a deployment of the list is whole (OSTree manual, "Deployments").
use Rattle.std.specs.Prelude.{◌<◌, ◌^◌, ◌++◌, ℕ, List, Ok, codes}
use Rattle.ost_types.specs.declared.limits.Limits.{Limits}
use Rattle.ost_types.specs.Path.{Path, under}
use Rattle.ost_types.specs.PathMap.{Nodes, IsPathMap}
use Rattle.fs_trait.specs.Seen.{shows, IsDirectory}
use Rattle.fs_trait.specs.View.{Disk}
use Rattle.repo_layout.specs.OsName.{IsOsName}
use Rattle.repo_layout.specs.Paths.{deploy_path}
use Rattle.repo_layout.specs.Place.{IsOutsideEtc}
use Rattle.repo_layout.specs.RefFile.{IsSum}
use Rattle.repo_model.specs.Whole.{Complete}
use Rattle.tree_read.specs.Whole.{IsTree}
use Rattle.tree_walk.specs.Standing.{Standing}
use Rattle.boot_model.specs.declared.item.DepId.{DepId}
use Rattle.checkout_compare.specs.Compare.{HasFar, IsDeployedOutsideEtc}
use Rattle.tree_kernel.specs.Boots.{Boots}
use Rattle.tree_kernel.specs.declared.find.TreeKernel.{TreeKernel}
use Rattle.kernel_copy.specs.Copies.{AreCopied}
use Rattle.kernel_copy.specs.declared.files.KernelFiles.{KernelFiles}

-- a deployment's name, as its link tells it
pub record IsId (id : DepId) : Type 0 where
  pub stateroot : IsOsName id.os
  pub sum : IsSum id.commit
  pub small : id.serial < 2 ^ 32

-- where its files stand, and its own `etc` among them
abbrev pub home_of : DepId → Path
home_of id = deploy_path id.os id.commit id.serial

abbrev pub etc_of : DepId → Path
etc_of id = under (home_of id) (codes "etc")

-- The commit is whole within the limits, of files only that they stand, and the map is its tree.
pub record IsWholeTree (limits : Limits) (d : Disk) (commit : List ℕ) (tree : Nodes) : Type 0 where
  pub whole : Complete (Standing d) limits commit
  pub shown : IsTree (Standing d) commit tree
  pub map : IsPathMap tree

-- the files of which there are to be copies, in the folder that this sum names
abbrev pub files_of : TreeKernel → List ℕ → KernelFiles
files_of k bootcsum = record { kver = k.kver; bootcsum = bootcsum; kernel = k.kernel; initramfs = k.initramfs }

-- outside its `etc` no folder of the deployment has a name whose path is past the bounds of paths
abbrev pub IsWithin : Disk → DepId → Type 0
IsWithin d id = (p : Path) → IsOutsideEtc p → ¬ (HasFar d (home_of id ++ p))

-- The deployment is the checkout of its commit's tree, which boots a kernel, and has an `etc` of its own; all outside it is within the
-- bounds of paths; and the kernel's copies in the folder that this sum names are the kernel's. Nothing is asked of what stands in its `etc`.
pub record IsWholeDeployment (limits : Limits) (d : Disk) (id : DepId) (bootcsum : List ℕ) : Type 0 where
  pub tree : Nodes
  pub kernel : TreeKernel
  pub has : IsWholeTree limits d id.commit tree
  pub boots : Boots d tree (Ok kernel)
  pub checkout : IsDeployedOutsideEtc d (home_of id) tree
  pub within : IsWithin d id
  pub etc : IsDirectory (shows d (etc_of id))
  pub copies : AreCopied d id.os (files_of kernel bootcsum)
