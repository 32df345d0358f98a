use Rattle.std.proofs.Common.{◌≡◌, length}
use Rattle.etc_merge.proofs.Looking.{IsLooking}
use Rattle.etc_merge.proofs.conflicts.conflict.Given as goal

abbrev pub invariant-loop-first : goal.invariant-loop-first
invariant-loop-first l = (l.entries ≡ l.current) × IsLooking l.base l.current l.new l.before l.left l.behind

abbrev pub decreases-loop-first : goal.decreases-loop-first
decreases-loop-first l = length l.left
