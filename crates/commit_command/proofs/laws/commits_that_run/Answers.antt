use Rattle.commit_command.proofs.Behind.{behind_stays}
use Rattle.commit_command.proofs.Holding.{held_of}
use Rattle.commit_command.proofs.laws.commits_that_run.Goals as goal

pub returns-clause-held : goal.returns-clause-held
returns-clause-held c = held_of

pub returns-clause-stays : goal.returns-clause-stays
returns-clause-stays c = behind_stays
