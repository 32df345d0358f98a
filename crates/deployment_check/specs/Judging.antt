-- What is told of a deployment: that it is whole, or a rule that doesn't hold, where those before it do.
use Rattle.std.specs.Prelude.{◌≡◌, ◌⊎◌, ◌++◌, ℕ, List, Option, Some, None, Ok, Err}
use Rattle.ost_types.specs.declared.limits.Limits.{Limits}
use Rattle.ost_types.specs.Path.{Path}
use Rattle.ost_types.specs.PathMap.{Nodes}
use Rattle.fs_trait.specs.Seen.{shows, IsDirectory, NotDirectory}
use Rattle.fs_trait.specs.View.{Disk}
use Rattle.repo_model.specs.Objects.{Stores}
use Rattle.repo_model.specs.Whole.{Complete}
use Rattle.tree_walk.specs.Standing.{AreRight}
use Rattle.boot_model.specs.declared.item.DepId.{DepId}
use Rattle.checkout_compare.specs.Compare.{IsDeployedOutsideEtc, Tells}
use Rattle.deploy_list.specs.declared.fault.KernelFault.{KernelFault}
use Rattle.tree_kernel.specs.Boots.{Boots}
use Rattle.tree_kernel.specs.declared.find.TreeKernel.{TreeKernel}
use Rattle.kernel_copy.specs.Copies.{IsFirstOther}
use Rattle.deployment_check.specs.declared.judgement.Judgement.{Judgement}
use Rattle.deployment_check.specs.declared.judgement.Judgement.TheVariants.{Whole, NoDeployment, NotCheckout, WrongKind, KernelCopy}
use Rattle.deployment_check.specs.Deployments.{IsId, IsWholeDeployment, IsWholeTree, IsWithin, etc_of, files_of, home_of}

-- the commit isn't there whole within the limits
abbrev pub IsIncomplete : Limits → Disk → List ℕ → Type 0
IsIncomplete limits d commit = ¬ (Complete (Stores d) limits commit)

-- what is told of a commit: its tree, or that it isn't whole
abbrev pub Walks : Limits → Disk → List ℕ → Option Nodes → Type 0
Walks limits d commit None = IsIncomplete limits d commit
Walks limits d commit (Some tree) = IsWholeTree limits d commit tree

-- its tree is none that can be deployed
pub record HasFault (limits : Limits) (d : Disk) (commit : List ℕ) : Type 0 where
  pub tree : Nodes
  pub fault : KernelFault
  pub has : IsWholeTree limits d commit tree
  pub boots : Boots d tree (Err fault)

-- The first rule holds: this is the tree, and boots the kernel;
pub record CanDeploy (limits : Limits) (d : Disk) (commit : List ℕ) (tree : Nodes) (kernel : TreeKernel) : Type 0 where
  pub has : IsWholeTree limits d commit tree
  pub boots : Boots d tree (Ok kernel)

-- the first two: the files are its checkout, within the bounds of paths;
pub record IsDeployed (limits : Limits) (d : Disk) (id : DepId) (tree : Nodes) (kernel : TreeKernel) : Type 0 where
  pub can : CanDeploy limits d id.commit tree kernel
  pub checkout : IsDeployedOutsideEtc d (home_of id) tree
  pub within : IsWithin d id

-- the first three: there is an `etc`.
pub record HasEtc (limits : Limits) (d : Disk) (id : DepId) (tree : Nodes) (kernel : TreeKernel) : Type 0 where
  pub deployed : IsDeployed limits d id tree kernel
  pub etc : IsDirectory (shows d (etc_of id))

-- 1. the commit isn't whole, or its tree is none that can be deployed
abbrev pub IsNoDeployment : Limits → Disk → List ℕ → Type 0
IsNoDeployment limits d commit = IsIncomplete limits d commit ⊎ HasFault limits d commit

-- 2. the files aren't its checkout; the first path at which they aren't is told
pub record IsNotCheckout (limits : Limits) (d : Disk) (id : DepId) (path : Path) : Type 0 where
  pub tree : Nodes
  pub kernel : TreeKernel
  pub can : CanDeploy limits d id.commit tree kernel
  pub relative : Path
  pub first : Tells d (home_of id) tree (Some relative)
  pub path_is : path ≡ home_of id ++ relative

-- 3. the `etc` is no folder
pub record LacksEtc (limits : Limits) (d : Disk) (id : DepId) (path : Path) : Type 0 where
  pub tree : Nodes
  pub kernel : TreeKernel
  pub deployed : IsDeployed limits d id tree kernel
  pub none : NotDirectory (shows d (etc_of id))
  pub path_is : path ≡ etc_of id

-- 4. a copy isn't the kernel's; the first in the order of paths is told
pub record LacksCopy (limits : Limits) (d : Disk) (id : DepId) (bootcsum : List ℕ) (path : Path) : Type 0 where
  pub tree : Nodes
  pub kernel : TreeKernel
  pub has_etc : HasEtc limits d id tree kernel
  pub first : IsFirstOther d id.os (files_of kernel bootcsum) (Some path)

-- Each answer of the check.
abbrev pub Judges : Limits → Disk → DepId → List ℕ → Judgement → Type 0
Judges limits d id bootcsum Whole = IsWholeDeployment limits d id bootcsum
Judges limits d id bootcsum NoDeployment = IsNoDeployment limits d id.commit
Judges limits d id bootcsum (NotCheckout path) = IsNotCheckout limits d id path
Judges limits d id bootcsum (WrongKind path) = LacksEtc limits d id path
Judges limits d id bootcsum (KernelCopy path) = LacksCopy limits d id bootcsum path

-- Of one disk there is one answer, where each file of the store that stands is what its name says.
abbrev pub JudgedOnce : Type 0
JudgedOnce = (limits : Limits) (d : Disk) (id : DepId) (bootcsum : List ℕ) (a b : Judgement) → IsId id → AreRight limits.content d → Judges limits d id bootcsum a → Judges limits d id bootcsum b → a ≡ b
