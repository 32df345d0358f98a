use Rattle.ref_command.proofs.Ends.{says_of}
use Rattle.ref_command.proofs.laws.answers_of_commands.Goals as goal

pub returns : goal.returns
returns c = says_of
