use Rattle.std.proofs.Common.{◌+◌, ◌<◌, ◌∙◌, sym, refl, ap, subst, length-take-le, length, arith}
use Rattle.std.proofs.lemmas.Result.{err_from_is_err_and}
use Rattle.ost_types.specs.Path.{AreNames}
use Rattle.ost_types.specs.Flat.{flat}
use Rattle.fs_memory.proofs.Walks.{walk_stops, walk_goes_on, walk_end, stop_at, stop_fits, stop_text, no_text, AreNames-take}
use Rattle.fs_memory.proofs.walk.walk.Goals as goal

pub loop-i-init : goal.loop-i-init
loop-i-init c = (omega arith, no_text, refl)

pub overflow_add-end-in-loop-i : goal.overflow_add-end-in-loop-i
overflow_add-end-in-loop-i c =
    let f = stop_fits _ _ _ c.loop-i.i c.loop-i.end c.index-names-i.result _ c.names-names.ensures.value (c.text-text.ensures.value ∙ ap flat c.requires) c.loop-i-test.true c.index-names-i.is c.as_slice.ensures.value c.loop-i.invariant.1 in
    let t = c.text-text.type_inv.0 in
    omega (arith, f, t)

pub slice_bounds-value_at-end : goal.slice_bounds-value_at-end
slice_bounds-value_at-end c =
    sym (length-take-le _ _ (stop_fits _ _ _ c.loop-i.i c.loop-i.end c.index-names-i.result _ c.names-names.ensures.value (c.text-text.ensures.value ∙ ap flat c.requires) c.loop-i-test.true c.index-names-i.is c.as_slice.ensures.value c.loop-i.invariant.1))

pub loop-i-preserved : goal.loop-i-preserved
loop-i-preserved c =
    let h = subst (λ q. c.loop-i.i + 1 < length q) c.names-names.ensures.value c.loop-i-test.true in
    let t = stop_text _ _ _ c.loop-i.i c.loop-i.end c.index-names-i.result _ c.names-names.ensures.value (c.text-text.ensures.value ∙ ap flat c.requires) c.loop-i-test.true c.index-names-i.is c.as_slice.ensures.value c.loop-i.invariant.1 in
    let names = AreNames-take c.args.path.now (c.loop-i.i + 1) (subst AreNames c.names-names.ensures.value c.names-names.ensures.path.names) in (
      omega (arith, h),
      stop_at _ _ _ c.loop-i.i c.loop-i.end c.index-names-i.result _ c.names-names.ensures.value (c.text-text.ensures.value ∙ ap flat c.requires) c.loop-i-test.true c.index-names-i.is c.as_slice.ensures.value c.loop-i.invariant.1,
      walk_goes_on _ _ c.loop-i.i h c.loop-i.invariant.2 _ (c.value_at.ensures _ names t) c.in_ok-folder.ensures.0,
    )

pub returns-in_err-folder : goal.returns-in_err-folder
returns-in_err-folder c =
    let h = subst (λ q. c.loop-i.i + 1 < length q) c.names-names.ensures.value c.loop-i-test.true in
    let t = stop_text _ _ _ c.loop-i.i c.loop-i.end c.index-names-i.result _ c.names-names.ensures.value (c.text-text.ensures.value ∙ ap flat c.requires) c.loop-i-test.true c.index-names-i.is c.as_slice.ensures.value c.loop-i.invariant.1 in
    let names = AreNames-take c.args.path.now (c.loop-i.i + 1) (subst AreNames c.names-names.ensures.value c.names-names.ensures.path.names) in
    let p = err_from_is_err_and c.from_residual.result c.from_residual.ensures.1 in
    rw (p.1, p.2) (walk_stops _ _ c.loop-i.i h c.loop-i.invariant.2 _ (c.value_at.ensures _ names t) _ c.in_err-folder.ensures)

pub returns : goal.returns
returns c = (c.loop-i.invariant.2 ∙ walk_end _ _ c.loop-i.i (let f = c.loop-i-test.false in let l = ap length c.names-names.ensures.value in omega (arith, f, l)), tt)
