use Rattle.std.proofs.Common.{refl, ◌∙◌, ap}
use Rattle.fs_trait.specs.declared.task.StepResult.TheVariants.{More, Done}
use Rattle.checkout_command.specs.declared.made.Made.TheVariants as made
use Rattle.checkout_command.proofs.Making.{told_makes, told_refused, told_writes}
use Rattle.checkout_command.proofs.make.Make.make.Goals as goal

pub returns-in_err-step-clause-writes : goal.returns-in_err-step-clause-writes
returns-in_err-step-clause-writes g c = λ v told. told_writes c.args.self.now v c.requires.going (c.requires.needs v told) _ (c.in_err-step.ensures.writes v told)

pub returns-in-More-clause-writes : goal.returns-in-More-clause-writes
returns-in-More-clause-writes g c = λ v told. told_writes c.args.self.now v c.requires.going (c.requires.needs v told) _ (c.in_ok-step.ensures.writes v told)

pub returns-in-More-clause-told : goal.returns-in-More-clause-told
returns-in-More-clause-told g c = λ v told.
    told_makes c.args.self.now v c.requires.going (c.requires.needs v told) _ c.step.new.self made.Part c.in_ok-step.field-0 More c.in-More.is refl
    c.in_ok-step.ensures.stepped (c.in_ok-step.ensures.tells v told) (c.in_ok-step.ensures.after v told) (c.in_ok-step.ensures.writes v told)

pub returns-in-Done-Ok-clause-writes : goal.returns-in-Done-Ok-clause-writes
returns-in-Done-Ok-clause-writes g c = λ v told. told_writes c.args.self.now v c.requires.going (c.requires.needs v told) _ (c.in_ok-step.ensures.writes v told)

pub returns-in-Done-Ok-clause-told : goal.returns-in-Done-Ok-clause-told
returns-in-Done-Ok-clause-told g c = λ v told.
    told_makes c.args.self.now v c.requires.going (c.requires.needs v told) _ c.step.new.self made.All c.in_ok-step.field-0 _ (c.in-Done-Ok.is ∙ ap Done c.in-Done-Ok.field-0-is) refl
    c.in_ok-step.ensures.stepped (c.in_ok-step.ensures.tells v told) (c.in_ok-step.ensures.after v told) (c.in_ok-step.ensures.writes v told)

pub returns-in_ok-path-in-Done-Err-clause-told : goal.returns-in_ok-path-in-Done-Err-clause-told
returns-in_ok-path-in-Done-Err-clause-told g c = λ v told.
    told_refused c.args.self.now v c.requires.going (c.requires.needs v told) _ c.step.new.self c.in-Done-Err.field-0-0 c.in_ok-step.field-0 (c.in-Done-Err.is ∙ ap Done c.in-Done-Err.field-0-is)
    c.in_ok-step.ensures.stepped (c.in_ok-step.ensures.tells v told) c.in_ok-path-in-Done-Err.field-0 c.in_ok-path-in-Done-Err.ensures.path
