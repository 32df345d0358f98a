use Rattle.std.proofs.Common.{◌≡◌, Err, ◌==◌, true, false, subst, length}
use Rattle.std.proofs.lemmas.Result.{err_from_is_err_and}
use Rattle.host_edit.proofs.Looking.{empty_there, full_there, list_fails, no_names, some_names}
use Rattle.host_edit.proofs.there.look_inside.Goals as goal

pub returns-in_err-names-clause-fails : goal.returns-in_err-names-clause-fails
returns-in_err-names-clause-fails g c = λ v told.
    let error = err_from_is_err_and c.from_residual.result c.from_residual.ensures.1 in
    rw (error.1, error.2) (list_fails v.now c.args.at.now (g.met.F.Fs.tree c.args.fs.now v told) (c.requires v told) (Err c.in_err-names.field-0.0) (c.in_err-names.ensures.answer v told))

pub returns-then-is_empty-clause-told : goal.returns-then-is_empty-clause-told
returns-then-is_empty-clause-told g c = λ v told.
    empty_there v.now c.args.at.now (g.met.F.Fs.tree c.args.fs.now v told) (c.requires v told) c.in_ok-names.names (c.in_ok-names.ensures.answer v told).1
    (no_names c.in_ok-names.names (subst (λ l. true ≡ (length l == 0)) c.as_slice.ensures c.if-is_empty.ensures))

pub returns-clause-told : goal.returns-clause-told
returns-clause-told g c = λ v told.
    full_there v.now c.args.at.now (g.met.F.Fs.tree c.args.fs.now v told) (c.requires v told) c.in_ok-names.names (c.in_ok-names.ensures.answer v told).1
    (some_names c.in_ok-names.names (subst (λ l. false ≡ (length l == 0)) c.as_slice.ensures c.if-is_empty.ensures))
