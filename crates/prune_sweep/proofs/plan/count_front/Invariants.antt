use Rattle.std.proofs.Common.{◌-◌, length}
use Rattle.prune_sweep.proofs.Fronts.{AreFirst}
use Rattle.prune_sweep.proofs.plan.count_front.Given as goal

-- so many that come first are commits
abbrev pub invariant-loop-count : goal.invariant-loop-count
invariant-loop-count l = AreFirst l.names l.count

abbrev pub decreases-loop-count : goal.decreases-loop-count
decreases-loop-count l = length l.names - l.count
