use Rattle.std.proofs.Common.{length}
use Rattle.etc_merge.proofs.Belows.{IsAhead}
use Rattle.etc_merge.proofs.kept.has_kept_below.Given as goal

abbrev pub invariant-loop-first : goal.invariant-loop-first
invariant-loop-first l = IsAhead l.base l.current l.path l.before l.left

abbrev pub decreases-loop-first : goal.decreases-loop-first
decreases-loop-first l = length l.left
