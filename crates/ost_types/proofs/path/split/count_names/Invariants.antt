use Rattle.std.proofs.Common.{length}
use Rattle.ost_types.proofs.Splitting.{IsCounted}
use Rattle.ost_types.proofs.path.split.count_names.Given as goal

abbrev pub invariant-loop-after : goal.invariant-loop-after
invariant-loop-after l = IsCounted l.bytes l.rest l.count

abbrev pub decreases-loop-after : goal.decreases-loop-after
decreases-loop-after l = length l.rest
