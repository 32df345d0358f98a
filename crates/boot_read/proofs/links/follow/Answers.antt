use Rattle.std.proofs.lemmas.Result.{err_from_is_err_and}
use Rattle.repo_layout.specs.Fixed.{number}
use Rattle.boot_read.proofs.Following.{followed_is}
use Rattle.boot_read.proofs.links.follow.Goals as goal

pub returns-in_err-row-clause-told : goal.returns-in_err-row-clause-told
returns-in_err-row-clause-told g c = λ v told read.
    let error = err_from_is_err_and c.from_residual.result c.from_residual.ensures.1 in
    rw (error.1, error.2) (c.in_err-row.ensures.told v told read)

pub returns-clause-told : goal.returns-clause-told
returns-clause-told g c = λ v told read.
    (c.in_ok-name.ensures, followed_is v.now (number c.args.loader) (number c.args.sub) c.args.text.now.name c.in_ok-name.name c.in_ok-name.ensures c.args.text.now.entry read c.in_ok-row.row (c.in_ok-row.ensures.told v told read))
