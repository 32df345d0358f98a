use Rattle.std.proofs.Common.{length}
use Rattle.gv_core.proofs.Stacks.{Reading}
use Rattle.gv_core.proofs.type_string.read_kind.Given as goal

abbrev pub invariant-loop-letter : goal.invariant-loop-letter
invariant-loop-letter l = Reading l.text l.left l.stack.items

abbrev pub decreases-loop-letter : goal.decreases-loop-letter
decreases-loop-letter l = length l.left
