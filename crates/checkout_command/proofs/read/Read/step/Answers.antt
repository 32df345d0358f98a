use Rattle.std.proofs.Common.{Err, ◌∙◌, ap}
use Rattle.fs_trait.specs.declared.task.StepResult.TheVariants.{Done}
use Rattle.checkout_command.proofs.Reading.{absent_told, damaged_told}
use Rattle.checkout_command.proofs.read.Read.step.Goals as goal

pub returns-in_ok-lacks-in-Done-Err-Absent-clause-told : goal.returns-in_ok-lacks-in-Done-Err-Absent-clause-told
returns-in_ok-lacks-in-Done-Err-Absent-clause-told g c = λ v is knows.
    let here = c.in-Done-Err-Absent in
    absent_told v.now c.args.self.now (record { request = c.self.inside.request; task = c.self.inside.task }) c.in_ok-step.field-0 here.name c.in_ok-lacks-in-Done-Err-Absent.field-0 c.step.new.self c.self.view_is
    (here.is ∙ ap Done (here.field-0-is ∙ ap Err here.field-0-0-is)) (c.in_ok-step.ensures.told v is) knows c.in_ok-lacks-in-Done-Err-Absent.ensures

pub returns-in_ok-lacks-in-Done-Err-Damaged-clause-told : goal.returns-in_ok-lacks-in-Done-Err-Damaged-clause-told
returns-in_ok-lacks-in-Done-Err-Damaged-clause-told g c = λ v is knows.
    let here = c.in-Done-Err-Damaged in
    damaged_told v.now c.args.self.now (record { request = c.self.inside.request; task = c.self.inside.task }) c.in_ok-step.field-0 here.name c.in_ok-lacks-in-Done-Err-Damaged.field-0 c.step.new.self c.self.view_is
    (here.is ∙ ap Done (here.field-0-is ∙ ap Err here.field-0-0-is)) (c.in_ok-step.ensures.told v is) knows c.in_ok-lacks-in-Done-Err-Damaged.ensures
