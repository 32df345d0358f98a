use Rattle.std.proofs.Common.{◌≡◌, length}
use Rattle.ost_types.specs.PathMap.{node_at}
use Rattle.merge_runner.proofs.tree.has_folder.Given as goal

abbrev pub invariant-loop-first : goal.invariant-loop-first
invariant-loop-first l = node_at l.entries l.names ≡ node_at l.left l.names

abbrev pub decreases-loop-first : goal.decreases-loop-first
decreases-loop-first l = length l.left
