use Rattle.std.proofs.Common.{◌≡◌, ◌∙◌, sym, subst, arith}
use Rattle.std.proofs.lemmas.Result.{err_from_is_err_and}
use Rattle.fs_trait.specs.View.{View}
use Rattle.fs_trait.specs.Seen.{Vacant, shows}
use Rattle.fs_trait.specs.Change.{Writes}
use Rattle.fs_trait.proofs.Quiet.{IsQuiet-refl}
use Rattle.sys_open.specs.Changes.{Clears, ClearsAll}
use Rattle.sys_open.proofs.Clearings.{more_cleared}
use Rattle.sys_open.proofs.SeveralPaths.{all_cleared, clears_one, one_reached}
use Rattle.sys_open.proofs.Working.{one_view, works_quiet, works_then}
use Rattle.sys_open.proofs.several.clear_all.Goals as goal

pub loop-path-init : goal.loop-path-init
loop-path-init g c = (
  omega arith,
  λ v told. works_quiet (ClearsAll c.args.paths.now) v _ _ _ _ _ _ told (IsQuiet-refl _ _ _),
  λ v told w now k less. absurd (omega (arith, less)),
  omega arith,
)

pub clear-requires : goal.clear-requires
clear-requires g c = λ u now e.
    let b = g.met.F.Fs.told c.loop-path.fs c.args.fs.now u now in
    c.requires b.0 b.1 c.loop-path.path-index c.path-item.result c.loop-path-test.true (sym c.path-item.is ∙ e)

pub returns-in_err-clear-clause-works : goal.returns-in_err-clear-clause-works
returns-in_err-clear-clause-works g c = λ v told.
    let first = c.loop-path.invariant.1 v told in
    works_then (ClearsAll c.args.paths.now) (Clears c.path-item.result) v first.left.0 _ _ _ _ _ _ _ _ first.left.1 first (c.clear.ensures.works first.left.0 first.left.1)
    (clears_one c.args.paths.now c.loop-path.path-index c.path-item.result c.loop-path-test.true c.path-item.is)

pub returns-in_err-clear-clause-fails : goal.returns-in_err-clear-clause-fails
returns-in_err-clear-clause-fails g c = λ v told reached.
    let error = err_from_is_err_and c.from_residual.result c.from_residual.ensures.1 in
    let first = c.loop-path.invariant.1 v told in
    rw (error.1, error.2) (c.in_err-clear.ensures.fails first.left.0 first.left.1 (one_reached c.args.paths.now v first.left.0 first.left.2 c.loop-path.path-index c.path-item.result c.loop-path-test.true c.path-item.is reached))

pub loop-path-preserved : goal.loop-path-preserved
loop-path-preserved g c =
    let so_far = c.loop-path.invariant.0 in
    let later = c.clear.ensures.reason.later in (
      omega (arith, so_far, later),
      λ v told.
          let first = c.loop-path.invariant.1 v told in
          works_then (ClearsAll c.args.paths.now) (Clears c.path-item.result) v first.left.0 _ _ _ _ _ _ _ _ first.left.1 first (c.clear.ensures.works first.left.0 first.left.1)
          (clears_one c.args.paths.now c.loop-path.path-index c.path-item.result c.loop-path-test.true c.path-item.is),
      λ v told w now.
          let first = c.loop-path.invariant.1 v told in
          let u = first.left.0 in
          let works = c.clear.ensures.works u first.left.1 in
          let here = c.in_ok-clear.ensures.cleared u first.left.1 in
          more_cleared c.args.paths.now c.loop-path.path-index c.path-item.result u w c.loop-path-test.true c.path-item.is
          (subst (λ x. Writes (Clears c.path-item.result) u x) (one_view _ works.left.0 w works.left.1 now) works.left.2)
          (subst (λ (x : View). shows x.now c.path-item.result ≡ Vacant) (one_view _ here.0 w here.1 now) here.2)
          (c.loop-path.invariant.2 v told u first.left.1),
      omega (arith, c.loop-path.invariant.3, c.clear.ensures.later),
    )

pub returns-clause-cleared : goal.returns-clause-cleared
returns-clause-cleared g c = λ v told.
    let works = c.loop-path.invariant.1 v told in
    let u = works.left.0 in
    (u, works.left.1, all_cleared u.now c.args.paths.now c.loop-path.path-index c.loop-path-test.false (c.loop-path.invariant.2 v told u works.left.1))
