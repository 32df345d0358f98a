use Rattle.std.proofs.Common.{sym, ◌∙◌, ap}
use Rattle.deploy_clean.specs.Cleaning.{Cleaning}
use Rattle.deploy_clean.proofs.Keeping.{clean_ended}
use Rattle.deploy_clean.proofs.Telling.{told_still}
use Rattle.deploy_clean.proofs.task.CleanTask.step.Goals as goal

pub returns-in-Ended-clause-told : goal.returns-in-Ended-clause-told
returns-in-Ended-clause-told g c = λ v told.
    let is = sym (ap (λ (t : Cleaning). t.phase) c.self.view_is) ∙ c.in-Ended.is in
    told_still _ _ v _ _ told (c.requires v told) (clean_ended _ v is (c.requires v told))
