use Rattle.checkout_command.proofs.Ends.{begins_of}
use Rattle.checkout_command.proofs.Writing.{own_of}
use Rattle.checkout_command.proofs.laws.lanes_that_check_out.Goals as goal

pub returns-clause-begins : goal.returns-clause-begins
returns-clause-begins c = begins_of

pub returns-clause-own : goal.returns-clause-own
returns-clause-own c = own_of
