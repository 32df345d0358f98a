use Rattle.read_command.proofs.Ends.{begins_of}
use Rattle.read_command.proofs.laws.lanes_that_read.Goals as goal

pub returns-clause-begins : goal.returns-clause-begins
returns-clause-begins c = begins_of
