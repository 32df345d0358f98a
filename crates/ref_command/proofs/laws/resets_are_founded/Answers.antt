use Rattle.ref_command.proofs.Resets.{reset_founded, command_places}
use Rattle.ref_command.proofs.laws.resets_are_founded.Goals as goal

pub returns-clause-founded : goal.returns-clause-founded
returns-clause-founded c = reset_founded

pub returns-clause-places : goal.returns-clause-places
returns-clause-places c = command_places
