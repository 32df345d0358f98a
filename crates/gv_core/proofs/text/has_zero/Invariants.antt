use Rattle.std.proofs.Common.{◌≡◌, length}
use Rattle.gv_core.specs.Text.{no_zero}
use Rattle.gv_core.proofs.text.has_zero.Given as goal

abbrev pub invariant-loop-left : goal.invariant-loop-left
invariant-loop-left l = no_zero l.left ≡ no_zero l.text

abbrev pub decreases-loop-left : goal.decreases-loop-left
decreases-loop-left l = length l.left
