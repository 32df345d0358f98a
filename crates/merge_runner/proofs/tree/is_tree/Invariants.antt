use Rattle.std.proofs.Common.{◌≡◌, length}
use Rattle.merge_runner.proofs.Trees.{AreParented}
use Rattle.merge_runner.proofs.tree.is_tree.Given as goal

abbrev pub invariant-loop-first : goal.invariant-loop-first
invariant-loop-first l = AreParented l.entries l.left

abbrev pub decreases-loop-first : goal.decreases-loop-first
decreases-loop-first l = length l.left
