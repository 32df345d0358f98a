use Rattle.task_steps.proofs.SmallEdits.{may_edit}
use Rattle.task_steps.proofs.edits.step_edit.Goals as goal

pub new-requires : goal.new-requires
new-requires g c = may_edit c.in_ok-stage.stage c.in_ok-etc.etc c.root-root.result c.args.edit c.root-root.ensures c.in_ok-stage.ensures c.in_ok-etc.ensures c.requires.fit c.requires.path
