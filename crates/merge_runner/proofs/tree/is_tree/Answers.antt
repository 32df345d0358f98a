use Rattle.merge_runner.proofs.Trees.{parented_more}
use Rattle.merge_runner.proofs.tree.is_tree.Goals as goal

pub loop-first-preserved : goal.loop-first-preserved
loop-first-preserved c =
    parented_more c.as_slice-entries.result.now c.loop-first.left.now c.in-Some.first.now c.in-Some.rest.now c.loop-first.invariant c.in-Some.ensures.cases.0 (c.has_parent.ensures c.if-not-has_parent.false)
