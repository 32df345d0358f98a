use Rattle.std.proofs.Common.{◌∙◌}
use Rattle.std.proofs.lemmas.Result.{err_from_is_err_and}
use Rattle.store_check.proofs.Ends.{trees_end, refs_end}
use Rattle.store_check.proofs.commits.check_commits.Goals as goal

pub check_trees-requires : goal.check_trees-requires
check_trees-requires g c = c.requires

pub returns-in_err-check_trees-clause-told : goal.returns-in_err-check_trees-clause-told
returns-in_err-check_trees-clause-told g c = λ v told.
    let error = err_from_is_err_and c.from_residual.result c.from_residual.ensures.1 in
    rw (error.1, error.2) (trees_end v.now c.args.limits.now c.args.refs.now _ (c.in_err-check_trees.ensures.told v told))

pub returns-clause-told : goal.returns-clause-told
returns-clause-told g c = λ v told.
    refs_end v.now c.args.limits.now c.args.refs.now c.check_refs.result (c.in_ok-check_trees.ensures.told v told) (c.check_refs.ensures.told v (c.check_trees.ensures.quiet.view ∙ told))
