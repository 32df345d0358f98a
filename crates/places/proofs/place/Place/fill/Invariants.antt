use Rattle.std.proofs.Common.{◌≡◌, ◌≤◌, take}
use Rattle.std.specs.Vec.{vec_capacity}
use Rattle.ost_types.specs.Flat.{flat}
use Rattle.places.proofs.place.Place.fill.Given as goal

abbrev pub invariant-loop-name : goal.invariant-loop-name
invariant-loop-name l = (l.text.items ≡ flat (take l.name-index l.path)) × (vec_capacity l.fn.buffer ≤ vec_capacity l.text)
