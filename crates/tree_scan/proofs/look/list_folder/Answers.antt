use Rattle.std.proofs.lemmas.Result.{err_from_is_err_and}
use Rattle.fs_trait.specs.Effect.{IsListing}
use Rattle.tree_scan.proofs.Looks.{list_fails}
use Rattle.tree_scan.proofs.look.list_folder.Goals as goal

pub returns-in_err-names-clause-told : goal.returns-in_err-names-clause-told
returns-in_err-names-clause-told g c = λ v limit told.
    let error = err_from_is_err_and c.from_residual.result c.from_residual.ensures.1 in
    rw (error.1, error.2) (list_fails v.now c.args.at.now c.args.meta (c.requires v told) (g.met.F.Fs.tree c.args.fs.now v told) (IsListing v.now c.args.at.now) _ (c.in_err-names.ensures.answer v told))
