use Rattle.std.proofs.Common.{rules, ◌≡◌, true, sym, ◌∙◌, subst}
use Rattle.std.proofs.lemmas.Result.{err_from_is_err_and}
use Rattle.fs_trait.specs.Effect.{IsListing}
use Rattle.checkout_compare.specs.Looking.{AllFit, IsFirstNew}
use Rattle.checkout_compare.proofs.Listings.{fit_inside, inside_told}
use Rattle.checkout_compare.proofs.Values.{list_fails}
use Rattle.checkout_compare.proofs.look.look_inside.Goals as goal

pub returns-in_err-names-clause-told : goal.returns-in_err-names-clause-told
returns-in_err-names-clause-told g c = λ v into told is.
    let error = err_from_is_err_and c.from_residual.result c.from_residual.ensures.1 in
    rw (error.1, error.2) (list_fails v.now (g.met.F.Fs.tree c.args.fs.now v told) c.args.at.now (c.requires.there v told) (IsListing v.now c.args.at.now) _ (c.in_err-names.ensures.answer v told))

pub first_new-requires : goal.first_new-requires
first_new-requires g c =
    let fits : c.all_fit.result ≡ true = search rules in
    fit_inside c.requires.inside.0 c.args.path.now c.args.at.now c.requires.inside.1 c.as_slice-2.result.now c.all_fit.result
    (subst (λ l. AllFit c.args.at.now l c.all_fit.result) (c.as_slice.ensures ∙ sym c.as_slice-2.ensures) c.all_fit.ensures) fits

pub returns-clause-told : goal.returns-clause-told
returns-clause-told g c = λ v into told is.
    let fits : c.all_fit.result ≡ true = search rules in
    inside_told v.now into c.args.path.now c.args.at.now is c.in_ok-names.names (c.in_ok-names.ensures.answer v told).1 c.all_fit.result (subst (λ l. AllFit c.args.at.now l c.all_fit.result) c.as_slice.ensures c.all_fit.ensures) fits
    c.args.tree.now c.in_ok-new.new (subst (λ l. IsFirstNew c.args.tree.now c.args.path.now l c.in_ok-new.new) c.as_slice-2.ensures c.in_ok-new.ensures)
