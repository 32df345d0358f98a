use Rattle.std.proofs.Common.{◌∙◌, arith}
use Rattle.std.proofs.lemmas.Result.{err_from_is_err_and}
use Rattle.std.proofs.lemmas.List.{get_or_default}
use Rattle.fs_trait.proofs.Quiet.{IsQuiet-trans}
use Rattle.sys_open.proofs.SpotLemmas.{more_suit, kinds_suit, kinds_first}
use Rattle.sys_open.proofs.kinds.check_kinds.Goals as goal

pub loop-spot-preserved : goal.loop-spot-preserved
loop-spot-preserved g c =
    let inv = c.loop-spot.invariant in
    let first = inv.1 in
    let later = c.check_kind.ensures.reason.later in (
      IsQuiet-trans _ _ _ _ _ _ _ _ _ inv.0 c.check_kind.ensures.quiet,
      omega (arith, first, later),
      λ v told. more_suit v.now c.spots-spot-items.result.now c.loop-spot.spot-index _ c.loop-spot-test.true (get_or_default c.spots-spot-items.result.now c.loop-spot.spot-index _ _ c.loop-spot-test.true) (c.in_ok-check_kind.ensures.told v (inv.0.view ∙ told)) (inv.2 v told),
    )

pub returns-in_err-check_kind-clause-told : goal.returns-in_err-check_kind-clause-told
returns-in_err-check_kind-clause-told g c = λ v told.
    let error = err_from_is_err_and c.from_residual.result c.from_residual.ensures.1 in
    let inv = c.loop-spot.invariant in
    rw (error.1, error.2) (kinds_first (Unit {0}) v.now c.spots-spot-items.result.now c.loop-spot.spot-index _ c.spots-spot-items.ensures c.loop-spot-test.true (get_or_default c.spots-spot-items.result.now c.loop-spot.spot-index _ _ c.loop-spot-test.true) (inv.2 v told) _ (c.in_err-check_kind.ensures.told v (inv.0.view ∙ told)))

pub returns-clause-told : goal.returns-clause-told
returns-clause-told g c = λ v told.
    kinds_suit v.now c.spots-spot-items.result.now c.loop-spot.spot-index c.spots-spot-items.ensures c.loop-spot-test.false (c.loop-spot.invariant.2 v told)
