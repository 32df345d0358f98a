-- What is told of the deployments of the list that a disk boots (OSTree manual, "Deployments").
use Rattle.std.specs.Prelude.{◌≡◌, ℕ, List, Contains}
use Rattle.std.specs.declared.cmp.Ordering.TheVariants.{Less}
use Rattle.ost_types.specs.declared.limits.Limits.{Limits}
use Rattle.ost_types.specs.Path.{Path, path_cmp}
use Rattle.fs_trait.specs.View.{Disk}
use Rattle.repo_layout.specs.BootPaths.{entry_path}
use Rattle.boot_model.specs.Listing.{Selects}
use Rattle.boot_read.specs.declared.row.BootRow.{BootRow}
use Rattle.boot_read.specs.Rows.{AreRowsOf}
use Rattle.deployment_check.specs.declared.judgement.Judgement.{Judgement}
use Rattle.deployment_check.specs.declared.judgement.Judgement.TheVariants as judgement
use Rattle.deployment_check.specs.Deployments.{IsWholeDeployment, home_of}
use Rattle.deployment_check.specs.Judging.{IsNoDeployment, Judges}
use Rattle.sys_open.specs.declared.fault.Why.{Why}
use Rattle.sys_open.specs.declared.fault.Why.TheVariants.{KernelCopy, NoDeployment, NotCheckout, WrongKind}

-- a row of the list that the disk boots
pub record BootedRow (d : Disk) : Type 0 where
  pub rows : List BootRow
  pub are : AreRowsOf d rows
  pub row : BootRow
  pub among : Contains rows row

-- The first entry by path whose commit can't be deployed, in the folder of the version that the disk selects.
pub record HasUnfit (limits : Limits) (d : Disk) (p : Path) (why : Why) : Type 0 where
  pub booted : BootedRow d
  pub loader : ℕ
  pub selects : Selects d loader
  pub path : p ≡ entry_path loader booted.row.file
  pub told : why ≡ NoDeployment
  pub wrong : IsNoDeployment limits d booted.row.id.commit
  pub least : (other : BootRow) → Contains booted.rows other → path_cmp (entry_path loader other.file) p ≡ Less → ¬ (IsNoDeployment limits d other.id.commit)

-- what is told of a deployment that was judged, at which path
abbrev pub IsToldOfJudgement : Judgement → Path → Why → Type 0
IsToldOfJudgement (judgement.NotCheckout at) p why = (p ≡ at) × (why ≡ NotCheckout)
IsToldOfJudgement (judgement.WrongKind at) p why = (p ≡ at) × (why ≡ WrongKind)
IsToldOfJudgement (judgement.KernelCopy at) p why = (p ≡ at) × (why ≡ KernelCopy)
IsToldOfJudgement other p why = ⊥

-- this is told of the row's deployment, which isn't whole, though its commit can be deployed
pub record IsBroken (limits : Limits) (d : Disk) (row : BootRow) (p : Path) (why : Why) : Type 0 where
  pub found : Judgement
  pub judged : Judges limits d row.id row.bootcsum found
  pub told : IsToldOfJudgement found p why

-- Each commit can be deployed, but a deployment isn't whole: the first by its folder.
pub record HasBroken (limits : Limits) (d : Disk) (p : Path) (why : Why) : Type 0 where
  pub booted : BootedRow d
  pub broken : IsBroken limits d booted.row p why
  pub fit : (other : BootRow) → Contains booted.rows other → ¬ (IsNoDeployment limits d other.id.commit)
  pub least : (other : BootRow) → Contains booted.rows other → path_cmp (home_of other.id) (home_of booted.row.id) ≡ Less → IsWholeDeployment limits d other.id other.bootcsum
