use Rattle.std.proofs.Common.{◌≡◌, ◌++◌, length}
use Rattle.gv_core.specs.Layout.{table_back}
use Rattle.gv_core.proofs.writing.put_table_back.Given as goal

abbrev pub invariant-loop-end : goal.invariant-loop-end
invariant-loop-end l = l.out.items ++ table_back l.width l.left ≡ l.initial.out.items ++ table_back l.width l.ends

abbrev pub decreases-loop-end : goal.decreases-loop-end
decreases-loop-end l = length l.left
