use Rattle.std.proofs.Common.{Ok, Err, ◌∙◌, ap, subst}
use Rattle.fs_trait.specs.declared.task.StepResult.TheVariants.{Done}
use Rattle.tree_read.specs.Reading.{IsStepped}
use Rattle.read_command.proofs.Lists.{all_read, damaged_listed}
use Rattle.read_command.proofs.ls.Ls.step.Goals as goal

pub returns-in_ok-listed-in-Done-Ok-clause-told : goal.returns-in_ok-listed-in-Done-Ok-clause-told
returns-in_ok-listed-in-Done-Ok-clause-told g c = λ v is knows.
    let done = c.in-Done-Ok.is ∙ ap Done c.in-Done-Ok.field-0-is in
    let same = subst (λ r. IsStepped c.args.self.now.task (Ok r) c.step.new.self) done c.in_ok-step.ensures.stepped in
    all_read v.now c.args.self.now.task c.step.new.self c.in_ok-step.field-0 c.args.self.now.path _ done (c.in_ok-step.ensures.told v is knows) same c.in_ok-listed-in-Done-Ok.ensures

pub returns-in_ok-lacking-in-Done-Err-Damaged-clause-told : goal.returns-in_ok-lacking-in-Done-Err-Damaged-clause-told
returns-in_ok-lacking-in-Done-Err-Damaged-clause-told g c = λ v is knows.
    let here = c.in-Done-Err-Damaged in
    damaged_listed v.now c.args.self.now.task c.step.new.self c.in_ok-step.field-0 c.args.self.now.path here.name _ (here.is ∙ ap Done (here.field-0-is ∙ ap Err here.field-0-0-is)) (c.in_ok-step.ensures.told v is knows) c.in_ok-lacking-in-Done-Err-Damaged.ensures
