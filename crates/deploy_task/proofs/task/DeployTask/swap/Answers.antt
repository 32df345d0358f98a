use Rattle.std.proofs.Common.{Ok, refl, sym, ◌∙◌, ap, subst}
use Rattle.std.proofs.lemmas.Result.{err_from_is_err_and}
use Rattle.deploy_task.specs.Steps.{Needs}
use Rattle.deploy_task.proofs.SwapPart.{swap_failed, swap_needs, went_done, went_more}
use Rattle.deploy_task.proofs.Telling.{told_as}
use Rattle.deploy_task.proofs.task.DeployTask.swap.Goals as goal

pub step-requires : goal.step-requires
step-requires g c = λ v told. swap_needs _ c.in-Swap.swap c.in-Swap.is v (subst (λ t. Needs t v) (sym c.self.view_is) (c.requires.needs v told))

pub returns-in_err-step-clause-told : goal.returns-in_err-step-clause-told
returns-in_err-step-clause-told g c = λ v told.
    let needs = subst (λ t. Needs t v) (sym c.self.view_is) (c.requires.needs v told) in
    let error = err_from_is_err_and c.from_residual.result c.from_residual.ensures.1 in
    rw (error.1, error.2) (told_as _ _ _ _ c.self.view_is refl v _ _
    (swap_failed _ c.in-Swap.swap c.in-Swap.is v needs _ (g.met.F.Fs.tree c.args.fs.now v told) (λ w late. g.met.F.Fs.tree _ w late) (c.step.ensures.writes v told) _ (c.in_err-step.ensures.fails v told) (c.in_err-step.ensures.unchanged v told) _))

pub returns-in-More-clause-told : goal.returns-in-More-clause-told
returns-in-More-clause-told g c = λ v told.
    let needs = subst (λ t. Needs t v) (sym c.self.view_is) (c.requires.needs v told) in
    told_as _ _ _ _ c.self.view_is refl v _ _
    (went_more _ c.in-Swap.swap c.in-Swap.is v needs _ (g.met.F.Fs.tree c.args.fs.now v told) (λ w late. g.met.F.Fs.tree _ w late) (c.step.ensures.writes v told) c.step.new.self c.step.result c.step.ensures.stepped
    (c.in_ok-step.was ∙ ap Ok c.in-More.is) (c.in_ok-step.ensures.after v told))

pub returns-in-Done-clause-told : goal.returns-in-Done-clause-told
returns-in-Done-clause-told g c = λ v told.
    let needs = subst (λ t. Needs t v) (sym c.self.view_is) (c.requires.needs v told) in
    told_as _ _ _ _ c.self.view_is refl v _ _
    (went_done _ c.in-Swap.swap c.in-Swap.is v needs _ (g.met.F.Fs.tree c.args.fs.now v told) (λ w late. g.met.F.Fs.tree _ w late) (c.step.ensures.writes v told) c.step.new.self c.step.result c.step.ensures.stepped
    tt (c.in_ok-step.was ∙ ap Ok c.in-Done.is) (c.in_ok-step.ensures.after v told) c.go_on.new.phase c.go_on.ensures)
