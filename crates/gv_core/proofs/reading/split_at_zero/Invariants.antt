use Rattle.std.proofs.Common.{length}
use Rattle.gv_core.proofs.Zeros.{Splitting}
use Rattle.gv_core.proofs.reading.split_at_zero.Given as goal

abbrev pub invariant-loop-last : goal.invariant-loop-last
invariant-loop-last l = Splitting l.bytes l.left

abbrev pub decreases-loop-last : goal.decreases-loop-last
decreases-loop-last l = length l.left
