-- What the task keeps.
use Rattle.std.proofs.Common.{◌≡◌, ◌<◌, ◌^◌, ℕ, List, sym, subst}
use Rattle.std.specs.Prelude.{All}
use Rattle.repo_layout.specs.OsName.{IsOsName}
use Rattle.repo_layout.specs.RefFile.{IsSum}
use Rattle.boot_model.specs.declared.item.DepId.{DepId}
use Rattle.boot_model.specs.Items.{IsItem}
use Rattle.deploy_clean.specs.Cleaning as clean
use Rattle.deploy_task.specs.declared.deploy.Deploy.{Deploy}
use Rattle.deploy_task.specs.declared.phase.Phase.{Phase}
use Rattle.deploy_task.specs.declared.phase.Phase.TheVariants.{Clean}
use Rattle.deploy_task.specs.Listed.{IsNumbered, ids_in}
use Rattle.deploy_task.specs.Deploying.{Deploying, IsMade, MayDeploy, in_phase, item_of, items_of, made_in}

-- the new deployment may stand in a list
pub item_stands : (plan : Deploy) (id : DepId) (kept : List ℕ) → MayDeploy plan → IsNumbered (items_of plan) plan.used.items plan.os plan.commit id kept
    → IsOsName plan.os → IsSum plan.commit → IsSum plan.kernel.bootcsum → IsItem (item_of plan id)
item_stands plan id kept may numbered os commit bootcsum = record {
  os = subst IsOsName (sym numbered.stateroot) os;
  commit = subst IsSum (sym numbered.of_commit) commit;
  bootcsum = bootcsum;
  kver = may.version;
  kargs = may.kargs;
}

pub made_first : (plan : Deploy) (id : DepId) (kept : List ℕ) (c : clean.Cleaning) → MayDeploy plan → IsNumbered (items_of plan) plan.used.items plan.os plan.commit id kept
    → IsOsName plan.os → IsSum plan.commit → IsSum plan.kernel.bootcsum → c.listed ≡ ids_in (items_of plan) → All (λ (i : DepId). i.serial < 2 ^ 32) c.listed
    → IsMade (record { plan = plan; id = id; kept = kept; phase = Clean c })
made_first plan id kept c may numbered os commit bootcsum listed small = record {
  may = may;
  serials = subst (All (λ (i : DepId). i.serial < 2 ^ 32)) listed small;
  numbered = numbered;
  item = item_stands plan id kept may numbered os commit bootcsum;
  part = listed;
}

-- so it does in another phase, whose part is of it
pub made_with : (t : Deploying) (ph : Phase) → IsMade t → made_in ph (in_phase ph t) → IsMade (in_phase ph t)
made_with t ph made part = record { may = made.may; serials = made.serials; numbered = made.numbered; item = made.item; part = part }
