use Rattle.std.proofs.Common.{◌<◌, ◌-◌, length}
use Rattle.tree_build.proofs.Bads.{AreInner}
use Rattle.tree_build.proofs.paths.first_bad.Given as goal

abbrev pub invariant-loop-at : goal.invariant-loop-at
invariant-loop-at l = record { some : 0 < l.at; inner : AreInner l.items l.at }

abbrev pub decreases-loop-at : goal.decreases-loop-at
decreases-loop-at l = length l.items - l.at
