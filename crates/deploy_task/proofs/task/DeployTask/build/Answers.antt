use Rattle.std.proofs.Common.{Ok, refl, sym, ◌∙◌, ap, subst}
use Rattle.std.proofs.lemmas.Result.{err_from_is_err_and}
use Rattle.fs_trait.specs.declared.task.StepResult.TheVariants.{Done}
use Rattle.deploy_task.specs.Steps.{Needs}
use Rattle.deploy_task.proofs.BuildPart.{build_needs, built_done, built_failed, built_more, built_refused}
use Rattle.deploy_task.proofs.Telling.{told_as}
use Rattle.deploy_task.proofs.task.DeployTask.build.Goals as goal

pub step-requires : goal.step-requires
step-requires g c = λ v told. build_needs _ c.in-Build.build c.in-Build.is v (subst (λ t. Needs t v) (sym c.self.view_is) (c.requires.needs v told))

pub returns-in_err-step-clause-told : goal.returns-in_err-step-clause-told
returns-in_err-step-clause-told g c = λ v told.
    let needs = subst (λ t. Needs t v) (sym c.self.view_is) (c.requires.needs v told) in
    let error = err_from_is_err_and c.from_residual.result c.from_residual.ensures.1 in
    rw (error.1, error.2) (told_as _ _ _ _ c.self.view_is refl v _ _
    (built_failed _ c.in-Build.build c.in-Build.is v needs (g.met.F.Fs.tree c.args.fs.now v told) _ c.step.new.self c.step.result c.step.ensures.stepped (c.step.ensures.told v told) _ c.in_err-step.was _))

pub returns-in-More-clause-told : goal.returns-in-More-clause-told
returns-in-More-clause-told g c = λ v told.
    let needs = subst (λ t. Needs t v) (sym c.self.view_is) (c.requires.needs v told) in
    told_as _ _ _ _ c.self.view_is refl v _ _
    (built_more _ c.in-Build.build c.in-Build.is v needs (g.met.F.Fs.tree c.args.fs.now v told) _ c.step.new.self c.step.result c.step.ensures.stepped (c.step.ensures.told v told) (c.in_ok-step.was ∙ ap Ok c.in-More.is))

pub returns-in-Done-Err-clause-told : goal.returns-in-Done-Err-clause-told
returns-in-Done-Err-clause-told g c = λ v told.
    let needs = subst (λ t. Needs t v) (sym c.self.view_is) (c.requires.needs v told) in
    let is = c.in-Done-Err.is ∙ ap Done c.in-Done-Err.field-0-is in
    told_as _ _ _ _ c.self.view_is refl v _ _
    (built_refused _ c.in-Build.build c.in-Build.is v needs (g.met.F.Fs.tree c.args.fs.now v told) _ c.step.new.self c.step.result c.step.ensures.stepped (c.step.ensures.told v told) c.in-Done-Err.field-0-0 (c.in_ok-step.was ∙ ap Ok is))

pub returns-in-Done-Ok-clause-told : goal.returns-in-Done-Ok-clause-told
returns-in-Done-Ok-clause-told g c = λ v told.
    let needs = subst (λ t. Needs t v) (sym c.self.view_is) (c.requires.needs v told) in
    let is = c.in-Done-Ok.is ∙ ap Done c.in-Done-Ok.field-0-is in
    told_as _ _ _ _ c.self.view_is refl v _ _
    (built_done _ c.in-Build.build c.in-Build.is v needs (g.met.F.Fs.tree c.args.fs.now v told) _ c.step.new.self c.step.result c.step.ensures.stepped (c.step.ensures.told v told) c.in-Done-Ok.field-0-0 (c.in_ok-step.was ∙ ap Ok is)
    c.go_on.new.phase c.go_on.ensures)
