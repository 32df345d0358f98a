use Rattle.host_files.proofs.leaf.are_equal.Given as goal

abbrev pub decreases-loop-left : goal.decreases-loop-left
decreases-loop-left g l = l.left
