use Rattle.std.proofs.Common.{◌≡◌, length}
use Rattle.deploy_task.proofs.same.are_same_nodes.Given as goal

-- the lists are the same where what is left of them is
abbrev pub invariant-loop-one : goal.invariant-loop-one
invariant-loop-one l = (l.left ≡ l.right → l.ones ≡ l.others) × (l.ones ≡ l.others → l.left ≡ l.right)

abbrev pub decreases-loop-one : goal.decreases-loop-one
decreases-loop-one l = length l.left
