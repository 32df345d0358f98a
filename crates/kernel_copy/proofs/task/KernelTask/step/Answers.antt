use Rattle.std.proofs.Common.{sym, ◌∙◌, ap}
use Rattle.kernel_copy.specs.Work.{KernelCopying}
use Rattle.kernel_copy.proofs.Telling.{told_ended}
use Rattle.kernel_copy.proofs.task.KernelTask.step.Goals as goal

pub returns-in-Ended-clause-told : goal.returns-in-Ended-clause-told
returns-in-Ended-clause-told g c = λ v told.
    told_ended _ (sym (ap (λ (t : KernelCopying). t.phase) c.self.view_is) ∙ c.in-Ended.is) v (c.requires v told) _ told
