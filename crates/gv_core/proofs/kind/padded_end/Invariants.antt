use Rattle.std.proofs.Common.{length}
use Rattle.gv_core.specs.Measure.{fixed_end}
use Rattle.gv_core.specs.Node.{kinds_of}
use Rattle.gv_core.proofs.Nodes.{Ended}
use Rattle.gv_core.proofs.kind.padded_end.Given as goal

abbrev pub invariant-loop-member : goal.invariant-loop-member
invariant-loop-member l = Ended l.end l.left (fixed_end 0 (kinds_of l.members))

abbrev pub decreases-loop-member : goal.decreases-loop-member
decreases-loop-member l = length l.left
