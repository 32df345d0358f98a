use Rattle.std.proofs.Common.{sym, subst, ◌∙◌}
use Rattle.commit_build.specs.Steps.{Needs}
use Rattle.commit_build.proofs.WorkSteps.{begun}
use Rattle.commit_build.proofs.task.CommitTask.begin.Goals as goal

pub returns-in-Ok-clause-after : goal.returns-in-Ok-clause-after
returns-in-Ok-clause-after c = λ v needs.
    begun _ v (subst (λ t. Needs t v) (sym c.self.view_is) needs) c.in-Made.object (sym c.replace.ensures.value ∙ c.in-Made.is) c.in-Ok.put c.in-Ok.ensures
