use Rattle.std.proofs.Common.{Ok, refl, sym, ◌∙◌, ap, subst}
use Rattle.std.proofs.lemmas.Result.{err_from_is_err_and}
use Rattle.fs_trait.specs.declared.task.StepResult.TheVariants.{Done}
use Rattle.deploy_task.specs.Steps.{Needs}
use Rattle.deploy_task.proofs.Keeping.{walk_keeps}
use Rattle.deploy_task.proofs.Reading.{walk_so_far}
use Rattle.deploy_task.proofs.Telling.{stepped_as, told_as}
use Rattle.deploy_task.proofs.Walking.{walked_all, walked_err, walked_off, walked_on, walks_all, walks_off, walks_on}
use Rattle.deploy_task.proofs.task.DeployTask.walk_source.Goals as goal

pub invariant_of-self-in-More : goal.invariant_of-self-in-More
invariant_of-self-in-More g c = walk_keeps _ c.in-Source.walk c.in-Source.is c.self.invariant c.step.new.self c.step.result (c.in_ok-step.was ∙ ap Ok c.in-More.is) c.step.ensures.stepped

pub returns-in-More-clause-told : goal.returns-in-More-clause-told
returns-in-More-clause-told g c = λ v told.
    let needs = subst (λ t. Needs t v) (sym c.self.view_is) (c.requires.needs v told) in
    told_as _ _ _ _ c.self.view_is refl v _ _
    (walked_on _ c.in-Source.walk c.in-Source.is c.step.new.self c.step.result c.step.ensures.stepped v needs _ (c.step.ensures.quiet.view ∙ told) (c.step.ensures.told v told (walk_so_far _ c.in-Source.walk c.in-Source.is v needs)) (c.in_ok-step.was ∙ ap Ok c.in-More.is))

pub returns-in-More-clause-stepped : goal.returns-in-More-clause-stepped
returns-in-More-clause-stepped g c =
    stepped_as _ _ _ _ _ c.self.view_is refl (walks_on _ c.in-Source.walk c.in-Source.is c.step.new.self c.step.result c.step.ensures.stepped (c.in_ok-step.was ∙ ap Ok c.in-More.is))

pub returns-in-Done-Err-clause-told : goal.returns-in-Done-Err-clause-told
returns-in-Done-Err-clause-told g c = λ v told.
    let needs = subst (λ t. Needs t v) (sym c.self.view_is) (c.requires.needs v told) in
    told_as _ _ _ _ c.self.view_is refl v _ _
    (walked_off _ c.in-Source.walk c.in-Source.is c.step.new.self c.step.result c.step.ensures.stepped v needs _ (c.step.ensures.quiet.view ∙ told) (c.step.ensures.told v told (walk_so_far _ c.in-Source.walk c.in-Source.is v needs)) c.in-Done-Err.fault
    (c.in_ok-step.was ∙ ap Ok (c.in-Done-Err.is ∙ ap Done c.in-Done-Err.field-0-is)))

pub returns-in-Done-Err-clause-stepped : goal.returns-in-Done-Err-clause-stepped
returns-in-Done-Err-clause-stepped g c =
    stepped_as _ _ _ _ _ c.self.view_is refl
    (walks_off _ c.in-Source.walk c.in-Source.is c.step.new.self c.step.result c.step.ensures.stepped c.in-Done-Err.fault (c.in_ok-step.was ∙ ap Ok (c.in-Done-Err.is ∙ ap Done c.in-Done-Err.field-0-is)))

pub returns-in_err-step-clause-told : goal.returns-in_err-step-clause-told
returns-in_err-step-clause-told g c = λ v told.
    let needs = subst (λ t. Needs t v) (sym c.self.view_is) (c.requires.needs v told) in
    let error = err_from_is_err_and c.from_residual.result c.from_residual.ensures.1 in
    rw (error.1, error.2)
    (told_as _ _ _ _ c.self.view_is refl v _ _
    (walked_err _ c.in-Source.walk c.in-Source.is c.step.new.self c.step.result c.step.ensures.stepped v needs _ (c.step.ensures.quiet.view ∙ told) (c.step.ensures.told v told (walk_so_far _ c.in-Source.walk c.in-Source.is v needs)) _ c.in_err-step.was _))

pub returns-in_ok-begin_etc-in-Done-Ok-clause-told : goal.returns-in_ok-begin_etc-in-Done-Ok-clause-told
returns-in_ok-begin_etc-in-Done-Ok-clause-told g c = λ v told.
    let needs = subst (λ t. Needs t v) (sym c.self.view_is) (c.requires.needs v told) in
    told_as _ _ _ _ c.self.view_is refl v _ _
    (walked_all _ c.in-Source.walk c.in-Source.is c.step.new.self c.step.result c.step.ensures.stepped v needs _ (c.step.ensures.quiet.view ∙ told) (c.step.ensures.told v told (walk_so_far _ c.in-Source.walk c.in-Source.is v needs)) _
    (c.in_ok-step.was ∙ ap Ok (c.in-Done-Ok.is ∙ ap Done c.in-Done-Ok.field-0-is)) _ _ c.in_ok-begin_etc-in-Done-Ok.ensures)

pub returns-in_ok-begin_etc-in-Done-Ok-clause-stepped : goal.returns-in_ok-begin_etc-in-Done-Ok-clause-stepped
returns-in_ok-begin_etc-in-Done-Ok-clause-stepped g c =
    stepped_as _ _ _ _ _ c.self.view_is refl
    (walks_all _ c.in-Source.walk c.in-Source.is c.step.new.self c.step.result c.step.ensures.stepped _ (c.in_ok-step.was ∙ ap Ok (c.in-Done-Ok.is ∙ ap Done c.in-Done-Ok.field-0-is)) _ _ c.in_ok-begin_etc-in-Done-Ok.ensures)
