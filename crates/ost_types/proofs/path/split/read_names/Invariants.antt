use Rattle.std.proofs.Common.{length}
use Rattle.ost_types.proofs.Splitting.{IsRead}
use Rattle.ost_types.proofs.path.split.read_names.Given as goal

abbrev pub invariant-loop-after : goal.invariant-loop-after
invariant-loop-after l = IsRead l.bytes l.rest l.names.items

abbrev pub decreases-loop-after : goal.decreases-loop-after
decreases-loop-after l = length l.rest
