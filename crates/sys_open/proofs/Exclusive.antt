-- No check of a good disk fails.
use Rattle.std.proofs.Common.{◌≡◌, ◌⊎◌, inl, inr, ⊎_elim, Ok, Err, sym, subst}
use Rattle.ost_types.specs.declared.limits.Limits.{Limits}
use Rattle.ost_types.specs.Path.{Path}
use Rattle.fs_trait.specs.View.{Disk}
use Rattle.boot_read.specs.declared.fault.ListFault.{ListFault}
use Rattle.boot_read.specs.declared.fault.ListFault.TheVariants as list
use Rattle.boot_read.specs.Faults as lists
use Rattle.boot_read.proofs.Answered.{answered_once}
use Rattle.tree_walk.specs.Standing.{AreRight}
use Rattle.deployment_check.specs.declared.judgement.Judgement.{Judgement}
use Rattle.deployment_check.specs.declared.judgement.Judgement.TheVariants as judgement
use Rattle.deployment_check.specs.Judging.{Judges}
use Rattle.deployment_check.proofs.Once.{one_judgement}
use Rattle.store_check.proofs.Excluded.{damaged_has, few_more, whole_lacks}
use Rattle.sys_open.specs.declared.fault.Why.{Why}
use Rattle.sys_open.specs.Booted.{BootedRow, HasBroken, HasUnfit, IsToldOfJudgement}
use Rattle.sys_open.specs.Damages.{BootsWhole, Check, Places, Config, RefFiles, Objects, Commits, BootList, Deployments, Staging, Fails, IsFault, IsGood, IsToldOfList, Passes}
use Rattle.sys_open.proofs.Booting.{right_objects}
use Rattle.sys_open.proofs.LeftOvers.{row_id}

-- what is told of the list is of the disk, and of no call
of_disk : (fault : ListFault) (p : Path) (why : Why) → IsToldOfList fault p why → lists.IsOfDisk (Err fault)
of_disk (list.BadLink at) p why told = tt
of_disk (list.TooMany at) p why told = tt
of_disk (list.BadEntry at found) p why told = tt
of_disk (list.NoDeployment at) p why told = tt
of_disk (list.Fs e) p why told = absurd told
of_disk list.NoMemory p why told = absurd told

-- the deployment of a row that boots is whole, or something is told of it
module _ (limits : Limits) (d : Disk) (right : AreRight limits.content d) where
  one_found : (booted : BootedRow d) → BootsWhole limits d → (found : Judgement) → Judges limits d booted.row.id booted.row.bootcsum found → judgement.Whole ≡ found
  one_found booted whole found judged =
      one_judgement limits d booted.row.id booted.row.bootcsum judgement.Whole found (row_id d booted.rows booted.row booted.among booted.are) right (whole booted.rows booted.are booted.row booted.among) judged

  deployments_fail : (p : Path) (why : Why) → BootsWhole limits d → HasUnfit limits d p why ⊎ HasBroken limits d p why → ⊥
  deployments_fail p why whole (inl unfit) =
      let n : judgement.Whole ≡ judgement.NoDeployment = one_found unfit.booted whole judgement.NoDeployment unfit.wrong in cc
  deployments_fail p why whole (inr broken) =
      let none : IsToldOfJudgement judgement.Whole p why = subst (λ j. IsToldOfJudgement j p why) (sym (one_found broken.booted whole broken.broken.found broken.broken.judged)) broken.broken.told in
      none

-- a check that passes doesn't fail too
pub passes_fails : (check : Check) (limits : Limits) (d : Disk) → AreRight limits.content d → (p : Path) (why : Why) → Passes check limits d → Fails check limits d p why → ⊥
passes_fails Places limits d right p why passes (told, least) = least.wrong (passes p)
passes_fails Config limits d right p why passes (told, path, none) = none passes
passes_fails RefFiles limits d right p why passes (told, least) = least.wrong (passes p)
passes_fails Objects limits d right p why passes fails = ⊎_elim
    (λ many. few_more d limits.objects passes.0 many.more)
    (λ bad. damaged_has d limits.content bad.name bad.fault bad.first.bad (passes.1 bad.name bad.first.there))
    fails
passes_fails Commits limits d right p why passes fails = ⊎_elim
    (λ first. whole_lacks d limits first.commit fails.object (passes.0 first.commit) first.sum first.finished first.lacks)
    (λ ref. ref.1.wrong (passes.1 ref.1.name ref.1.commit ref.1.names))
    fails.first
passes_fails BootList limits d right p why passes fails =
    let n : Ok passes.0 ≡ Err fails.fault = answered_once d (Ok passes.0) (Err fails.fault) tt (of_disk fails.fault p why fails.told) passes.1 fails.first in cc
passes_fails Deployments limits d right p why passes fails = deployments_fail limits d right p why passes fails
passes_fails Staging limits d right p why passes (told, least) = least.wrong (passes p)

pub fault_good : (limits : Limits) (d : Disk) (p : Path) (why : Why) → IsFault limits d p why → IsGood limits d → ⊥
fault_good limits d p why fault good = passes_fails fault.check limits d (right_objects limits d (good Objects)) p why (good fault.check) fault.fails
