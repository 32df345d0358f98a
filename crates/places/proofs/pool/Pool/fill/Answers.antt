use Rattle.std.proofs.Common.{◌∷◌, [], length, arith, ap, subst, sym, length-append}
use Rattle.places.specs.Roomy.{AreRoomy}
use Rattle.places.proofs.Rooms.{AreRoomy-push}
use Rattle.places.proofs.pool.Pool.fill.Goals as goal

pub loop-self-preserved : goal.loop-self-preserved
loop-self-preserved c =
    let l = length-append c.loop-self.self-inside.buffers.items (c.in_ok-with_capacity.field-0 ∷ []) in
    let n = ap length c.in_ok-push.ensures.items in
    let i = c.loop-self.invariant.1 in
    let e = c.in_ok-with_capacity.ensures.capacity in
    (subst AreRoomy (sym c.in_ok-push.ensures.items) (AreRoomy-push c.loop-self.self-inside.buffers.items c.in_ok-with_capacity.field-0 c.loop-self.invariant.0 c.in_ok-with_capacity.ensures.items (omega (arith, e))), omega (arith, l, n, i))
