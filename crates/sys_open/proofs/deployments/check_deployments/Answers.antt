use Rattle.std.proofs.lemmas.Result.{err_from_is_err_and}
use Rattle.std.proofs.Common.{◌∙◌}
use Rattle.sys_open.specs.Damages.{Deployments}
use Rattle.sys_open.proofs.Booting.{interrupted_told}
use Rattle.sys_open.proofs.deployments.check_deployments.Goals as goal

pub returns-in_err-faults-clause-told : goal.returns-in_err-faults-clause-told
returns-in_err-faults-clause-told g c = λ v told right rows.
    let error = err_from_is_err_and c.from_residual.result c.from_residual.ensures.1 in
    rw (error.1, error.2) (interrupted_told (Unit {0}) Deployments c.args.limits.now v.now _ (c.in_err-faults.ensures.told v told right rows))

pub returns-clause-told : goal.returns-clause-told
returns-clause-told g c = λ v told right rows.
    c.tell.ensures.told v c.args.limits.now c.args.rows.now (c.judge_all.ensures.quiet.view ∙ told) rows (c.in_ok-faults.ensures.told v told right rows)
