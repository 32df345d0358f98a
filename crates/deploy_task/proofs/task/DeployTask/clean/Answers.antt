use Rattle.std.proofs.Common.{Ok, refl, sym, ◌∙◌, ap, subst}
use Rattle.std.proofs.lemmas.Result.{err_from_is_err_and}
use Rattle.deploy_task.specs.declared.phase.Phase.{Phase}
use Rattle.deploy_task.specs.Deploying.{Deploying, in_phase}
use Rattle.deploy_task.specs.Steps.{Needs}
use Rattle.deploy_task.proofs.Clearing.{clean_done, clean_failed, clean_more, clean_needs}
use Rattle.deploy_task.proofs.Keeping.{clean_keeps}
use Rattle.deploy_task.proofs.Telling.{told_as}
use Rattle.deploy_task.proofs.task.DeployTask.clean.Goals as goal

pub step-requires : goal.step-requires
step-requires g c = λ v told.
    clean_needs _ c.in-Clean.clean c.in-Clean.is v (g.met.F.Fs.tree c.args.fs.now v told) (subst (λ t. Needs t v) (sym c.self.view_is) (c.requires.needs v told))

pub invariant_of-self-in-More : goal.invariant_of-self-in-More
invariant_of-self-in-More g c = clean_keeps _ c.in-Clean.clean c.in-Clean.is c.self.invariant c.step.new.self c.step.result (c.in_ok-step.was ∙ ap Ok c.in-More.is) c.step.ensures.stepped

pub returns-in-More-clause-told : goal.returns-in-More-clause-told
returns-in-More-clause-told g c = λ v told.
    let needs = subst (λ t. Needs t v) (sym c.self.view_is) (c.requires.needs v told) in
    told_as _ _ _ _ c.self.view_is refl v _ _
    (clean_more _ c.in-Clean.clean c.in-Clean.is v (g.met.F.Fs.tree c.args.fs.now v told) needs c.step.new.self c.step.result (c.in_ok-step.was ∙ ap Ok c.in-More.is) c.step.ensures.stepped _ (c.step.ensures.told v told))

pub returns-in-Done-clause-told : goal.returns-in-Done-clause-told
returns-in-Done-clause-told g c = λ v told.
    let t : Deploying = record { plan = c.self.inside.deploy; id = c.self.inside.id; kept = c.self.inside.kept.items; phase = c.self.inside.phase } in
    let needs = subst (λ x. Needs x v) (sym c.self.view_is) (c.requires.needs v told) in
    told_as t _ _ _ c.self.view_is (ap (λ (ph : Phase). in_phase ph t) (sym c.go_on.ensures)) v _ _
    (clean_done t c.in-Clean.clean c.in-Clean.is v (g.met.F.Fs.tree c.args.fs.now v told) needs c.step.new.self tt c.step.result (c.in_ok-step.was ∙ ap Ok c.in-Done.is) c.step.ensures.stepped _ (c.step.ensures.told v told))

pub returns-in_err-step-clause-told : goal.returns-in_err-step-clause-told
returns-in_err-step-clause-told g c = λ v told.
    let needs = subst (λ t. Needs t v) (sym c.self.view_is) (c.requires.needs v told) in
    let error = err_from_is_err_and c.from_residual.result c.from_residual.ensures.1 in
    rw (error.1, error.2)
    (told_as _ _ _ _ c.self.view_is refl v _ _
    (clean_failed _ c.in-Clean.clean c.in-Clean.is v (g.met.F.Fs.tree c.args.fs.now v told) needs c.step.new.self _ _ c.step.result c.in_err-step.was _ (c.step.ensures.told v told)))
