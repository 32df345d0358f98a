use Rattle.std.proofs.Common.{sym, ◌∙◌, arith, subst}
use Rattle.std.proofs.lemmas.Result.{err_from_is_err_and}
use Rattle.fs_trait.specs.Effect.{IsListing}
use Rattle.fs_trait.proofs.Quiet.{IsQuiet-trans}
use Rattle.layout_rules.specs.Checks.{AsksIn}
use Rattle.sys_open.proofs.ManyWalks.{all_first, first_wrong, folder_free, more_first, vacant}
use Rattle.sys_open.proofs.inside.check_names.Goals as goal

pub returns-in_err-check_name-clause-told : goal.returns-in_err-check_name-clause-told
returns-in_err-check_name-clause-told g c = λ v told.
    let error = err_from_is_err_and c.from_residual-in_err-check_name.result c.from_residual-in_err-check_name.ensures.1 in
    let listing = subst (IsListing v.now c.args.folder.now) (sym c.as_slice-name-items.ensures) (c.in_ok-names.ensures.told v told) in
    let here = subst (AsksIn c.args.many v.now) (sym c.requires) (folder_free v.now c.args.many) in
    rw (error.1, error.2) (first_wrong (AsksIn c.args.many v.now) c.args.folder.now c.as_slice-name-items.result.now c.loop-name.name-index c.name-item.result c.loop-name-test.true c.name-item.is (Unit {0}) v.now (g.met.F.Fs.tree c.args.fs.now v told) (vacant v.now c.args.many) listing here (c.loop-name.invariant.2 v told) _ (c.in_err-check_name.ensures.told v (c.loop-name.invariant.0.view ∙ told)))

pub loop-name-preserved : goal.loop-name-preserved
loop-name-preserved g c =
    let inv = c.loop-name.invariant in
    let first = inv.1 in
    let later = c.check_name.ensures.reason.later in (
      IsQuiet-trans _ _ _ _ _ _ _ _ _ inv.0 c.check_name.ensures.quiet,
      omega (arith, first, later),
      λ v told. more_first (AsksIn c.args.many v.now) c.args.folder.now c.as_slice-name-items.result.now c.loop-name.name-index c.name-item.result c.loop-name-test.true c.name-item.is (c.in_ok-check_name.ensures.told v (inv.0.view ∙ told)) (inv.2 v told),
    )

pub returns-clause-told : goal.returns-clause-told
returns-clause-told g c = λ v told.
    let listing = subst (IsListing v.now c.args.folder.now) (sym c.as_slice-name-items.ensures) (c.in_ok-names.ensures.told v told) in
    let here = subst (AsksIn c.args.many v.now) (sym c.requires) (folder_free v.now c.args.many) in
    all_first (AsksIn c.args.many v.now) v.now (g.met.F.Fs.tree c.args.fs.now v told) (vacant v.now c.args.many) c.args.folder.now c.as_slice-name-items.result.now listing here c.loop-name.name-index (c.loop-name.invariant.2 v told) c.loop-name-test.false
