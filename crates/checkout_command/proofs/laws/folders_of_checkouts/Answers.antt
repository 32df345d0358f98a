use Rattle.checkout_command.proofs.Writing.{makes_folder}
use Rattle.checkout_command.proofs.laws.folders_of_checkouts.Goals as goal

pub returns : goal.returns
returns c = makes_folder
