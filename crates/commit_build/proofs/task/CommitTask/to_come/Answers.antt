use Rattle.std.proofs.Common.{arith}
use Rattle.commit_build.proofs.Fewness.{work_few}
use Rattle.commit_build.proofs.task.CommitTask.to_come.Goals as goal

pub returns-clause-few : goal.returns-clause-few
returns-clause-few c = omega (arith, work_few c.self.inside.build.items, c.self.invariant.1.makeable.few, c.left.ensures.value)
