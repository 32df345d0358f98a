use Rattle.std.proofs.Common.{◌∙◌}
use Rattle.places.proofs.Orders.{places_eq}
use Rattle.places.proofs.place.PlacePartialEq.eq.Goals as goal

pub returns : goal.returns
returns c =
    let test = rw (c.as_slice.ensures.value, c.as_slice-2.ensures.value) at c.eq.ensures in
    rw (← c.self.view_is, ← c.other.view_is) (test ∙ places_eq _ _ c.self.invariant c.other.invariant)
