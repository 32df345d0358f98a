use Rattle.std.proofs.Common.{◌≡◌, ◌≤◌, ◌*◌, ◌-◌, length, drop}
use Rattle.tree_build.specs.Items.{AreTyped}
use Rattle.tree_build.specs.Objects.{work}
use Rattle.tree_build.proofs.build.count_objects.Given as goal

abbrev pub invariant-loop-at : goal.invariant-loop-at
invariant-loop-at l = record {
  within : l.at ≤ length l.items;
  count : l.count ≡ length (work (drop l.at l.items));
  small : l.count ≤ 2 * (length l.items - l.at);
  typed : AreTyped (drop l.at l.items);
}

abbrev pub decreases-loop-at : goal.decreases-loop-at
decreases-loop-at l = l.at
