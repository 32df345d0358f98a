use Rattle.std.proofs.Common.{◌≡◌, ◌+◌, ◌*◌, length, ltb}
use Rattle.gv_core.specs.Layout.{nest}
use Rattle.gv_core.specs.Gives.{views}
use Rattle.gv_core.proofs.measuring.+depth.Given as goal

abbrev pub invariant-all_nest_below-loop-item : goal.invariant-all_nest_below-loop-item
invariant-all_nest_below-loop-item l = ltb (nest (views l.left)) l.depth ≡ ltb (nest (views l.items)) l.depth

abbrev pub decreases-all_nest_below-loop-item : goal.decreases-all_nest_below-loop-item
decreases-all_nest_below-loop-item l = length l.left

abbrev pub decreases-nests_within : goal.decreases-nests_within
decreases-nests_within l = 2 * l.depth + 1

abbrev pub decreases-nests_below : goal.decreases-nests_below
decreases-nests_below l = 2 * l.depth

abbrev pub decreases-all_nest_below : goal.decreases-all_nest_below
decreases-all_nest_below l = 2 * l.depth
