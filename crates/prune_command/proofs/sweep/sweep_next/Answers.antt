use Rattle.std.proofs.lemmas.Result.{err_from_is_err_and}
use Rattle.prune_command.proofs.Sweeps.{does_err, does_ok}
use Rattle.prune_command.proofs.sweep.sweep_next.Goals as goal

pub returns-in_err-step-clause-effect : goal.returns-in_err-step-clause-effect
returns-in_err-step-clause-effect g c = λ v told.
    let error = err_from_is_err_and c.from_residual.result c.from_residual.ensures.1 in
    rw (error.1, error.2) (does_err _ _ c.args.sweep.now v _ _ (c.in_err-step.ensures.effect v told))

pub returns-in-More-clause-effect : goal.returns-in-More-clause-effect
returns-in-More-clause-effect g c = λ v told. does_ok c.args.sweep.now v _ _ _ (c.in_ok-step.ensures.effect v told)

pub returns-in-Done-clause-effect : goal.returns-in-Done-clause-effect
returns-in-Done-clause-effect g c = λ v told. does_ok c.args.sweep.now v _ _ _ (c.in_ok-step.ensures.effect v told)
