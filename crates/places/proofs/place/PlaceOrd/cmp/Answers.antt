use Rattle.std.proofs.Common.{◌∙◌}
use Rattle.places.proofs.Orders.{places_cmp}
use Rattle.places.proofs.place.PlaceOrd.cmp.Goals as goal

pub returns : goal.returns
returns c =
    let test = rw (c.as_slice.ensures.value, c.as_slice-2.ensures.value) at c.cmp.ensures in
    rw (← c.self.view_is, ← c.other.view_is) (test ∙ places_cmp _ _ c.self.invariant c.other.invariant)
