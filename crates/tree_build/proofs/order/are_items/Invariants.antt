use Rattle.std.proofs.Common.{◌≤◌, length, drop}
use Rattle.tree_build.specs.Items.{AreItems}
use Rattle.tree_build.proofs.order.are_items.Given as goal

abbrev pub invariant-loop-at : goal.invariant-loop-at
invariant-loop-at l = record { within : l.at ≤ length l.items; behind : AreItems (drop l.at l.items) }

abbrev pub decreases-loop-at : goal.decreases-loop-at
decreases-loop-at l = l.at
