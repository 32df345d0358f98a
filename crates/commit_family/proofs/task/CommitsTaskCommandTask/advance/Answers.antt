use Rattle.std.proofs.Common.{rules}
use Rattle.commit_family.proofs.Beginning.{ok_with}
use Rattle.commit_family.proofs.task.CommitsTaskCommandTask.advance.Goals as goal

pub returns-clause-stepped : goal.returns-clause-stepped
returns-clause-stepped g c = ok_with _ _ (search rules) (search rules)
