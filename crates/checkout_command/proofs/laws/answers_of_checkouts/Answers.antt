use Rattle.checkout_command.proofs.Ends.{finished_of, says_of}
use Rattle.checkout_command.proofs.laws.answers_of_checkouts.Goals as goal

pub returns-clause-says : goal.returns-clause-says
returns-clause-says c = says_of

pub returns-clause-finished : goal.returns-clause-finished
returns-clause-finished c = finished_of
