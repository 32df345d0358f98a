use Rattle.tree_walk.proofs.Standings.{looks_stand}
use Rattle.tree_walk.proofs.task.PresenceAtFile.look.Goals as goal

pub returns-clause-told : goal.returns-clause-told
returns-clause-told g c = λ v is. looks_stand v.now c.args.limits.now.content c.args.file.now c.look_at_leaf.ensures.sum c.look_at_leaf.result (c.look_at_leaf.ensures.told v is)
