use Rattle.std.proofs.Common.{◌≡◌, ◌<◌, ◌≤◌, max, length}
use Rattle.gv_core.specs.Measure.{widest}
use Rattle.gv_core.specs.Node.{kinds_of}
use Rattle.gv_core.proofs.kind.largest_alignment.Given as goal

abbrev pub invariant-loop-member : goal.invariant-loop-member
invariant-loop-member l = record { value : max l.align (widest (kinds_of l.left)) ≡ widest (kinds_of l.members); positive : 0 < l.align; small : l.align ≤ 8 }

abbrev pub decreases-loop-member : goal.decreases-loop-member
decreases-loop-member l = length l.left
