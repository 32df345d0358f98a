use Rattle.std.proofs.Common.{◌≤◌, ◌+◌, ◌*◌, length}
use Rattle.gv_core.specs.Tree.{view}
use Rattle.gv_core.specs.Layout.{nests, nest}
use Rattle.gv_core.specs.Gives.{views}
use Rattle.forms_runner.proofs.show.+show.Given as goal

abbrev pub invariant-show_all-loop-value : goal.invariant-show_all-loop-value
invariant-show_all-loop-value l = nest (views l.left) ≤ nest (views l.values)

abbrev pub decreases-show_all-loop-value : goal.decreases-show_all-loop-value
decreases-show_all-loop-value l = length l.left

abbrev pub decreases-show : goal.decreases-show
decreases-show l = 2 * nests (view l.value.now)

abbrev pub decreases-show_all : goal.decreases-show_all
decreases-show_all l = 2 * nest (views l.values.now) + 1
