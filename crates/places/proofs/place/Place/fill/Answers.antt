use Rattle.std.proofs.Common.{length, arith, ap}
use Rattle.places.proofs.Fills.{flat-next, fits, whole, back, read, nothing, both}
use Rattle.places.proofs.place.Place.fill.Goals as goal

pub loop-name-init : goal.loop-name-init
loop-name-init c = (nothing _ c.requires.empty, omega arith)

pub returns-in_err-extend_from_slice-clause-sure : goal.returns-in_err-extend_from_slice-clause-sure
returns-in_err-extend_from_slice-clause-sure c = λ big.
    let f = fits c.args.path.now c.loop-name.name-index c.name-item.result c.requires.path c.loop-name-test.true c.name-item.is in
    let l = ap length c.loop-name.invariant.0 in
    let o = c.loop-name.text.ok.0 in
    let k = c.loop-name.invariant.1 in
    let e = ap length c.as_slice.ensures.value in
    let full = c.in_err-extend_from_slice.ensures.full in
    absurd (omega (arith, big, f, l, o, k, e, full))

pub returns-in_err-push-clause-sure : goal.returns-in_err-push-clause-sure
returns-in_err-push-clause-sure c = λ big.
    let f = fits c.args.path.now c.loop-name.name-index c.name-item.result c.requires.path c.loop-name-test.true c.name-item.is in
    let l = ap length c.loop-name.invariant.0 in
    let o = c.loop-name.text.ok.0 in
    let k = c.loop-name.invariant.1 in
    let p = c.in_ok-extend_from_slice.ensures.len in
    let q = c.in_ok-extend_from_slice.ensures.capacity in
    let e = ap length c.as_slice.ensures.value in
    let full = c.in_err-push.ensures.full in
    absurd (omega (arith, big, f, l, o, k, p, q, e, full))

pub loop-name-preserved : goal.loop-name-preserved
loop-name-preserved c =
    let k = c.loop-name.invariant.1 in
    let q = c.in_ok-extend_from_slice.ensures.capacity in
    let r = c.in_ok-push.ensures.capacity in
    (rw (flat-next c.args.path.now c.loop-name.name-index c.name-item.result c.loop-name-test.true c.name-item.is, ← c.loop-name.invariant.0) (both c.loop-name.text.items c.extend_from_slice.new.self.items c.push.new.self.items c.as_slice.result.now c.name-item.result c.in_ok-extend_from_slice.ensures.items c.as_slice.ensures.value c.in_ok-push.ensures.items), omega (arith, k, q, r))

pub invariant_of-result : goal.invariant_of-result
invariant_of-result c = back _ c.args.path.now c.requires.path.names (whole _ c.args.path.now c.loop-name.name-index c.loop-name.invariant.0 c.loop-name.auto.name-index-end (let f = c.loop-name-test.false in omega (arith, f)))

pub returns-clause-ok : goal.returns-clause-ok
returns-clause-ok c = read _ c.args.path.now c.requires.path.names (whole _ c.args.path.now c.loop-name.name-index c.loop-name.invariant.0 c.loop-name.auto.name-index-end (let f = c.loop-name-test.false in omega (arith, f)))
