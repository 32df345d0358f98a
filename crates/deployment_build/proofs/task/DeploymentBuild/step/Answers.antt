use Rattle.std.proofs.Common.{sym, ◌∙◌, ap}
use Rattle.deployment_build.specs.Work.{Building}
use Rattle.deployment_build.proofs.Telling.{told_ended}
use Rattle.deployment_build.proofs.task.DeploymentBuild.step.Goals as goal

pub returns-in-Ended-clause-told : goal.returns-in-Ended-clause-told
returns-in-Ended-clause-told g c = λ v told.
    told_ended _ (sym (ap (λ (t : Building). t.phase) c.self.view_is) ∙ c.in-Ended.is) v (c.requires v told) _ told
