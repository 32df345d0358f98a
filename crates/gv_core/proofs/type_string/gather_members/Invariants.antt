use Rattle.std.proofs.Common.{List}
use Rattle.gv_core.specs.Kind.{Item as Open}
use Rattle.gv_core.specs.Stack.{Stacked}
use Rattle.gv_core.proofs.Stacks.{Gathering}
use Rattle.gv_core.proofs.type_string.gather_members.Given as goal

abbrev pub invariant-loop-item : goal.invariant-loop-item
invariant-loop-item l = (st : List Open) → Stacked l.initial.stack.items st → Gathering l.members.items l.deepest l.stack.items st

abbrev pub decreases-loop-item : goal.decreases-loop-item
decreases-loop-item l = goal.left-loop-item l
