use Rattle.std.proofs.Common.{◌+◌, length}
use Rattle.tree_read.proofs.Merged.{Took}
use Rattle.tree_read.proofs.children.children_of.Given as goal

abbrev pub invariant-loop-last : goal.invariant-loop-last
invariant-loop-last l = Took l.at l.owner (record { files = l.tree.files; folders = l.tree.folders }) l.files l.folders l.items.items

abbrev pub decreases-loop-last : goal.decreases-loop-last
decreases-loop-last l = length l.files + length l.folders
