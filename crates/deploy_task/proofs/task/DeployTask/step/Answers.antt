use Rattle.std.proofs.Common.{sym, ◌∙◌, ap}
use Rattle.deploy_task.specs.Deploying.{Deploying}
use Rattle.deploy_task.proofs.Telling.{told_ended, told_here}
use Rattle.deploy_task.proofs.task.DeployTask.step.Goals as goal

pub returns-in-Choose-clause-told : goal.returns-in-Choose-clause-told
returns-in-Choose-clause-told g c = λ v told. told_here _ _ v _ _ told (c.choose.ensures.told v (c.requires v told))

pub returns-in-BeginBuild-clause-told : goal.returns-in-BeginBuild-clause-told
returns-in-BeginBuild-clause-told g c = λ v told. told_here _ _ v _ _ told (c.begin_build.ensures.told v (c.requires v told))

pub returns-in-BeginSwap-clause-told : goal.returns-in-BeginSwap-clause-told
returns-in-BeginSwap-clause-told g c = λ v told. told_here _ _ v _ _ told (c.begin_swap.ensures.told v (c.requires v told))

pub returns-in-Ended-clause-told : goal.returns-in-Ended-clause-told
returns-in-Ended-clause-told g c = λ v told.
    told_ended _ (sym (ap (λ (t : Deploying). t.phase) c.self.view_is) ∙ c.in-Ended.is) v (c.requires v told) _ told
