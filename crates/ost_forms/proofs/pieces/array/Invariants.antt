use Rattle.std.proofs.Common.{◌≡◌, map, take}
use Rattle.ost_forms.proofs.pieces.array.Given as goal

abbrev pub invariant-loop-element : goal.invariant-loop-element
invariant-loop-element l = map (λ b. b.now) l.slices.items ≡ take l.element-index l.elements
