use Rattle.std.proofs.Common.{◌≡◌, drop}
use Rattle.fs_memory.specs.Recorded.{planned}
use Rattle.fs_memory.proofs.plan.plan_of.Given as goal

abbrev pub invariant-loop-entry : goal.invariant-loop-entry
invariant-loop-entry l = planned l.plan l.call ≡ planned (drop l.entry-index l.plan) l.call
