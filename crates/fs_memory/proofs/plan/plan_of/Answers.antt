use Rattle.std.proofs.Common.{◌∙◌, sym, arith}
use Rattle.fs_memory.proofs.Plans.{planned_here, planned_later, planned_none}
use Rattle.fs_memory.proofs.plan.plan_of.Goals as goal

pub returns-then-entry-call : goal.returns-then-entry-call
returns-then-entry-call c = sym (c.loop-entry.invariant ∙ planned_here _ _ c.loop-entry.entry-index _ c.loop-entry-test.true c.if-entry-call.true)

pub loop-entry-preserved : goal.loop-entry-preserved
loop-entry-preserved c = c.loop-entry.invariant ∙ planned_later _ _ c.loop-entry.entry-index _ c.loop-entry-test.true c.if-entry-call.false

pub returns : goal.returns
returns c = sym (c.loop-entry.invariant ∙ planned_none _ _ c.loop-entry.entry-index (let f = c.loop-entry-test.false in omega (arith, f)))
