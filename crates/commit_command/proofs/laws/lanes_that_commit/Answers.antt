use Rattle.commit_command.proofs.Starts.{own_of, begins_of}
use Rattle.commit_command.proofs.laws.lanes_that_commit.Goals as goal

pub returns-clause-own : goal.returns-clause-own
returns-clause-own c = own_of

pub returns-clause-begins : goal.returns-clause-begins
returns-clause-begins c = begins_of
