use Rattle.std.proofs.Common.{sym, ◌∙◌, arith, subst}
use Rattle.std.proofs.lemmas.Result.{err_from_is_err_and}
use Rattle.fs_trait.specs.Effect.{IsListing}
use Rattle.fs_trait.proofs.Quiet.{IsQuiet-trans}
use Rattle.layout_rules.specs.declared.many.Many.TheVariants.{Kernels}
use Rattle.layout_rules.specs.Checks.{AsksIn}
use Rattle.sys_open.proofs.ManyWalks.{all_first, first_wrong, kernel_err, kernel_here, more_first, vacant}
use Rattle.sys_open.proofs.inside.check_kernel.Goals as goal

pub returns-in_err-check_rule-clause-told : goal.returns-in_err-check_rule-clause-told
returns-in_err-check_rule-clause-told g c = λ v told.
    let error = err_from_is_err_and c.from_residual.result c.from_residual.ensures.1 in
    rw (error.1, error.2) (kernel_err v.now c.requires.0 c.requires.2 c.args.at.now c.requires.3 (Unit {0}) (Unit {0}) _ (c.in_err-check_rule.ensures.told v told))

pub returns-in_err-check_copy-clause-told : goal.returns-in_err-check_copy-clause-told
returns-in_err-check_copy-clause-told g c = λ v told.
    let error = err_from_is_err_and c.from_residual-in_err-check_copy.result c.from_residual-in_err-check_copy.ensures.1 in
    let listing = subst (IsListing v.now c.args.at.now) (sym c.as_slice-name-items.ensures) (c.in_ok-names.ensures.told v (c.check_rule.ensures.quiet.view ∙ told)) in
    let here = kernel_here v.now c.requires.0 c.requires.2 c.args.at.now c.requires.3 (c.in_ok-check_rule.ensures.told v told) in
    rw (error.1, error.2) (first_wrong (AsksIn Kernels v.now) c.args.at.now c.as_slice-name-items.result.now c.loop-name.name-index c.name-item.result c.loop-name-test.true c.name-item.is (Unit {0}) v.now (g.met.F.Fs.tree c.args.fs.now v told) (vacant v.now Kernels) listing here (c.loop-name.invariant.2 v told) _ (c.in_err-check_copy.ensures.told v (c.loop-name.invariant.0.view ∙ told)))

pub loop-name-preserved : goal.loop-name-preserved
loop-name-preserved g c =
    let inv = c.loop-name.invariant in
    let first = inv.1 in
    let later = c.check_copy.ensures.reason.later in (
      IsQuiet-trans _ _ _ _ _ _ _ _ _ inv.0 c.check_copy.ensures.quiet,
      omega (arith, first, later),
      λ v told. more_first (AsksIn Kernels v.now) c.args.at.now c.as_slice-name-items.result.now c.loop-name.name-index c.name-item.result c.loop-name-test.true c.name-item.is (c.in_ok-check_copy.ensures.told v (inv.0.view ∙ told)) (inv.2 v told),
    )

pub returns-clause-told : goal.returns-clause-told
returns-clause-told g c = λ v told.
    let listing = subst (IsListing v.now c.args.at.now) (sym c.as_slice-name-items.ensures) (c.in_ok-names.ensures.told v (c.check_rule.ensures.quiet.view ∙ told)) in
    let here = kernel_here v.now c.requires.0 c.requires.2 c.args.at.now c.requires.3 (c.in_ok-check_rule.ensures.told v told) in
    all_first (AsksIn Kernels v.now) v.now (g.met.F.Fs.tree c.args.fs.now v told) (vacant v.now Kernels) c.args.at.now c.as_slice-name-items.result.now listing here c.loop-name.name-index (c.loop-name.invariant.2 v told) c.loop-name-test.false
