use Rattle.std.proofs.Common.{◌-◌, ◌+◌, length, map, drop}
use Rattle.ost_forms.proofs.OrderedNames.{SameApart}
use Rattle.ost_forms.proofs.names.are_apart.Given as goal

abbrev pub invariant-loop-i : goal.invariant-loop-i
invariant-loop-i l = SameApart (map (λ b. b.now) l.left) (map (λ b. b.now) l.right) (map (λ b. b.now) (drop l.i l.left)) (map (λ b. b.now) (drop l.j l.right))

abbrev pub decreases-loop-i : goal.decreases-loop-i
decreases-loop-i l = (length l.left - l.i) + (length l.right - l.j)
