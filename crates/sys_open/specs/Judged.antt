-- What is wrong with deployments, as they are judged one after another.
use Rattle.std.specs.Prelude.{◌≡◌, ◌≢◌, ◌⊎◌, List, Contains, Option, Some, None}
use Rattle.std.specs.Cmp.Lexicographic.{slice_cmp}
use Rattle.std.specs.Ordering.{nat_cmp}
use Rattle.std.specs.declared.cmp.Ordering.{Ordering}
use Rattle.std.specs.declared.cmp.Ordering.TheVariants.{Less}
use Rattle.ost_types.specs.declared.limits.Limits.{Limits}
use Rattle.ost_types.specs.Path.{Name, Path, path_cmp}
use Rattle.fs_trait.specs.View.{Disk}
use Rattle.boot_read.specs.declared.row.BootRow.{BootRow}
use Rattle.deployment_check.specs.declared.judgement.Judgement.{Judgement}
use Rattle.deployment_check.specs.declared.judgement.Judgement.TheVariants as judgement
use Rattle.deployment_check.specs.Deployments.{IsWholeDeployment, home_of}
use Rattle.deployment_check.specs.Judging.{IsNoDeployment}
use Rattle.sys_open.specs.declared.fault.Why.{Why}
use Rattle.sys_open.specs.declared.fault.Why.TheVariants.{KernelCopy, NotCheckout, WrongKind}
use Rattle.sys_open.specs.declared.judged.Broken.{Broken}
use Rattle.sys_open.specs.declared.judged.Faults.{Faults}
use Rattle.sys_open.specs.Booted.{IsBroken}

-- Nothing is wrong with these rows; or this is, of one, and nothing with those before that one.
abbrev pub IsLeastOf : {V : Type 0} → (BootRow → V → Type 0) → (BootRow → V → Type 0) → (BootRow → Type 0) → List BootRow → Option V → Type 0
IsLeastOf Wrong Before Right rows None = (row : BootRow) → Contains rows row → Right row
IsLeastOf Wrong Before Right rows (Some v) = ((row : BootRow) × Contains rows row × Wrong row v) × ((row : BootRow) → Contains rows row → Before row v → Right row)

-- the commit can't be deployed, of the entry in this file
abbrev pub IsUnfitAs : Limits → Disk → BootRow → Name → Type 0
IsUnfitAs limits d row file = (file ≡ row.file) × IsNoDeployment limits d row.id.commit

abbrev pub ComesFirst : BootRow → Name → Type 0
ComesFirst row file = slice_cmp nat_cmp row.file file ≡ Less

abbrev pub IsFit : Limits → Disk → BootRow → Type 0
IsFit limits d row = ¬ (IsNoDeployment limits d row.id.commit)

-- this is told of the deployment, in its folder
abbrev pub IsBrokenAs : Limits → Disk → BootRow → Broken → Type 0
IsBrokenAs limits d row b = (b.home ≡ home_of row.id) × IsBroken limits d row b.at b.why

abbrev pub StandsFirst : BootRow → Broken → Type 0
StandsFirst row b = path_cmp (home_of row.id) b.home ≡ Less

abbrev pub IsUnbroken : Limits → Disk → BootRow → Type 0
IsUnbroken limits d row = IsWholeDeployment limits d row.id row.bootcsum ⊎ IsNoDeployment limits d row.id.commit

-- What is wrong with these rows: the least entry whose commit can't be deployed, and the least folder of a deployment that isn't whole.
pub record AreFaultsOf (limits : Limits) (d : Disk) (rows : List BootRow) (faults : Faults) : Type 0 where
  pub unfit : IsLeastOf (IsUnfitAs limits d) ComesFirst (IsFit limits d) rows faults.unfit
  pub broken : IsLeastOf (IsBrokenAs limits d) StandsFirst (IsUnbroken limits d) rows faults.broken

-- ---- one more

-- the lesser of two by a key, or the one that there is
abbrev pub IsLesserOf : {V K : Type 0} → (K → K → Ordering) → (V → K) → Option V → V → V → Type 0
IsLesserOf cmp key None next one = one ≡ next
IsLesserOf cmp key (Some before) next one = ((cmp (key next) (key before) ≡ Less) × (one ≡ next)) ⊎ ((cmp (key next) (key before) ≢ Less) × (one ≡ before))

-- the row's commit can't be deployed, too
pub record AddsUnfit (old : Faults) (row : BootRow) (new : Faults) : Type 0 where
  pub file : Name
  pub lesser : IsLesserOf (slice_cmp nat_cmp) (λ f. f) old.unfit row.file file
  pub is : new ≡ record old { unfit = Some file }

-- this is told of the row's deployment, too
pub record AddsBroken (old : Faults) (row : BootRow) (at : Path) (why : Why) (new : Faults) : Type 0 where
  pub broken : Broken
  pub lesser : IsLesserOf path_cmp (λ (b : Broken). b.home) old.broken (record { home = home_of row.id; at = at; why = why }) broken
  pub is : new ≡ record old { broken = Some broken }

abbrev pub Adds : Faults → BootRow → Judgement → Faults → Type 0
Adds old row judgement.Whole new = new ≡ old
Adds old row judgement.NoDeployment new = AddsUnfit old row new
Adds old row (judgement.NotCheckout at) new = AddsBroken old row at NotCheckout new
Adds old row (judgement.WrongKind at) new = AddsBroken old row at WrongKind new
Adds old row (judgement.KernelCopy at) new = AddsBroken old row at KernelCopy new
