use Rattle.std.proofs.Common.{Result, Ok, Err, IfErr, sym, subst}
use Rattle.boot_model.specs.Items.{IsKver}
use Rattle.deploy_list.specs.Kernels.{Finds}
use Rattle.deploy_list.proofs.Versions.{kver_found}
use Rattle.deploy_list.proofs.kernel.kver_of.Goals as goal

any_err : {T E X : Type 0} (r : Result T E) → X → IfErr r (λ _. X)
any_err (Ok x) so = tt
any_err (Err e) so = so

pub returns-in_err-copy-in-Ok-clause-memory : goal.returns-in_err-copy-in-Ok-clause-memory
returns-in_err-copy-in-Ok-clause-memory c = any_err c.from_residual.result (c.in-Ok.kver.now, subst (λ m. Finds m (Ok c.in-Ok.kver.now)) c.as_slice.ensures.value c.in-Ok.ensures)

pub returns-in_ok-copy-in-Ok-clause-version : goal.returns-in_ok-copy-in-Ok-clause-version
returns-in_ok-copy-in-Ok-clause-version c =
    subst IsKver (sym c.in_ok-copy-in-Ok.ensures) (kver_found c.args.tree.now c.in-Ok.kver.now (subst (λ m. Finds m (Ok c.in-Ok.kver.now)) c.as_slice.ensures.value c.in-Ok.ensures))
