use Rattle.task_steps.proofs.SmallTree.{small}
use Rattle.task_steps.proofs.trees.small_tree.Goals as goal

pub returns-clause-placed : goal.returns-clause-placed
returns-clause-placed c =
    small c.args.into.now c.push-2.new.self c.new-tree.result c.push.new.self c.root-root.result c.in_ok-file.file _ _ _ c.new-tree.ensures c.in_ok-push.ensures.ok c.in_ok-push-2.ensures.ok c.root-root.ensures c.in_ok-file.ensures
    (c.can_join.ensures.0 c.if-not-can_join.false) (c.can_join-2.ensures.0 c.if-not-can_join-2.false)
