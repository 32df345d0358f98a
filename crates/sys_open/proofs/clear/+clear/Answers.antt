use Rattle.std.proofs.Common.{◌≡◌, ◌∙◌, subst, arith}
use Rattle.std.proofs.lemmas.Result.{err_from_is_err_and}
use Rattle.std.specs.Global.{Vec}
use Rattle.ost_types.specs.Path.{Path}
use Rattle.ost_types.proofs.Paths.{is_below-self}
use Rattle.fs_trait.specs.View.{View}
use Rattle.fs_trait.specs.Seen.{Vacant, shows}
use Rattle.fs_trait.specs.Change.{Writes}
use Rattle.sys_open.specs.declared.fault.Why.TheVariants.{WrongKind}
use Rattle.layout_rules.specs.Checks.{IsReached}
use Rattle.sys_open.specs.Changes.{Clears, ClearsInside, IsEmptied}
use Rattle.sys_open.proofs.Clearings.{inside_below, looked_fails, clears_path, reached_still, emptied, more_cleared}
use Rattle.sys_open.proofs.Working.{one_view, works_then, works_weaker}
use Rattle.sys_open.proofs.clear.+clear.Goals as goal

pub clear_folder-returns-in_err-clear_inside-clause-works : goal.clear_folder-returns-in_err-clear_inside-clause-works
clear_folder-returns-in_err-clear_inside-clause-works g t c = λ v told.
    works_weaker (ClearsInside c.args.at.now) v _ _ _ _ _ (Clears c.args.at.now) (inside_below c.args.at.now) (c.clear_inside.ensures.works v told)

pub clear_folder-remove-requires : goal.clear_folder-remove-requires
clear_folder-remove-requires g t c = λ u now.
    let before = g.met.F.Fs.told c.clear_inside.new.fs c.args.fs.now u now in
    let e = c.in_ok-clear_inside.ensures.emptied before.0 before.1 in
    subst (λ (w : View). IsEmptied w.now c.args.at.now) (one_view _ e.0 u e.1 now) e.2

pub clear_folder-returns-clause-works : goal.clear_folder-returns-clause-works
clear_folder-returns-clause-works g t c = λ v told.
    let first = works_weaker (ClearsInside c.args.at.now) v _ _ _ _ _ (Clears c.args.at.now) (inside_below c.args.at.now) (c.clear_inside.ensures.works v told) in
    works_then (Clears c.args.at.now) (Clears c.args.at.now) v first.left.0 _ _ _ _ _ _ _ _ first.left.1 first (c.remove.ensures.works first.left.0 first.left.1) (λ p s h. h)

pub clear_inside-returns-in_err-inside-clause-fails : goal.clear_inside-returns-in_err-inside-clause-fails
clear_inside-returns-in_err-inside-clause-fails g t c = λ v told reached.
    let error = err_from_is_err_and c.from_residual.result c.from_residual.ensures.1 in
    rw (error.1, error.2) (looked_fails (Vec Path) (IsReached v.now c.args.at.now) WrongKind c.args.at.now _ (c.in_err-inside.ensures.told v told (c.requires.folder v told)) (reached c.args.at.now (is_below-self c.args.at.now)))

pub clear_inside-returns-in_err-clear-clause-works : goal.clear_inside-returns-in_err-clear-clause-works
clear_inside-returns-in_err-clear-clause-works g t c = λ v told.
    let listed = c.in_ok-inside.ensures.listed in
    let first = c.loop-path.invariant.1 v told in
    works_then (ClearsInside c.args.at.now) (Clears c.path-item.result) v first.left.0 _ _ _ _ _ _ _ _ first.left.1 first (c.clear.ensures.works first.left.0 first.left.1)
    (clears_path c.args.at.now c.as_slice-path-items.result.now listed.0 (c.as_slice-path-items.ensures.value ∙ listed.1) c.loop-path.path-index c.path-item.result c.loop-path-test.true c.path-item.is)

pub clear_inside-returns-in_err-clear-clause-fails : goal.clear_inside-returns-in_err-clear-clause-fails
clear_inside-returns-in_err-clear-clause-fails g t c = λ v told reached.
    let error = err_from_is_err_and c.from_residual-in_err-clear.result c.from_residual-in_err-clear.ensures.1 in
    let listed = c.in_ok-inside.ensures.listed in
    let first = c.loop-path.invariant.1 v told in
    let still = reached_still c.args.at.now c.as_slice-path-items.result.now listed.0 (c.as_slice-path-items.ensures.value ∙ listed.1) v first.left.0 first.left.2 reached c.loop-path.path-index c.path-item.result c.loop-path-test.true c.path-item.is in
    rw (error.1, error.2) (c.in_err-clear.ensures.fails first.left.0 first.left.1 still)

pub clear_inside-loop-path-preserved : goal.clear_inside-loop-path-preserved
clear_inside-loop-path-preserved g t c =
    let listed = c.in_ok-inside.ensures.listed in
    let lead = clears_path c.args.at.now c.as_slice-path-items.result.now listed.0 (c.as_slice-path-items.ensures.value ∙ listed.1) c.loop-path.path-index c.path-item.result c.loop-path-test.true c.path-item.is in
    let so_far = c.loop-path.invariant.0 in
    let later = c.clear.ensures.reason.later in (
      omega (arith, so_far, later),
      λ v told.
          let first = c.loop-path.invariant.1 v told in
          works_then (ClearsInside c.args.at.now) (Clears c.path-item.result) v first.left.0 _ _ _ _ _ _ _ _ first.left.1 first (c.clear.ensures.works first.left.0 first.left.1) lead,
      λ v told w now.
          let first = c.loop-path.invariant.1 v told in
          let u = first.left.0 in
          let works = c.clear.ensures.works u first.left.1 in
          let here = c.in_ok-clear.ensures.cleared u first.left.1 in
          more_cleared c.as_slice-path-items.result.now c.loop-path.path-index c.path-item.result u w c.loop-path-test.true c.path-item.is
          (subst (λ x. Writes (Clears c.path-item.result) u x) (one_view _ works.left.0 w works.left.1 now) works.left.2)
          (subst (λ (x : View). shows x.now c.path-item.result ≡ Vacant) (one_view _ here.0 w here.1 now) here.2)
          (c.loop-path.invariant.2 v told u first.left.1),
      omega (arith, c.loop-path.invariant.3, c.clear.ensures.later),
    )

pub clear_inside-returns-clause-emptied : goal.clear_inside-returns-clause-emptied
clear_inside-returns-clause-emptied g t c = λ v told.
    let listed = c.in_ok-inside.ensures.listed in
    let works = c.loop-path.invariant.1 v told in
    let u = works.left.0 in
    (u, works.left.1, emptied c.args.at.now c.as_slice-path-items.result.now listed.0 (c.as_slice-path-items.ensures.value ∙ listed.1) v u works.left.2 (listed.2 v told) (c.requires.folder v told) (c.requires.below_root v told) c.loop-path.path-index c.loop-path-test.false (c.loop-path.invariant.2 v told u works.left.1))
