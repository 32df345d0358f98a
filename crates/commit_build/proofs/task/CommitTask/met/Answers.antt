use Rattle.std.proofs.Common.{subst}
use Rattle.commit_build.specs.Committing.{IsMade}
use Rattle.commit_build.proofs.task.CommitTask.met.Goals as goal

pub returns-clause-made : goal.returns-clause-made
returns-clause-made c = subst IsMade c.self.view_is c.self.invariant.1
