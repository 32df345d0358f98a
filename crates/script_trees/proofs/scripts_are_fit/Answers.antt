use Rattle.script_trees.proofs.States.{scripts_fit}
use Rattle.script_trees.proofs.scripts_are_fit.Goals as goal

pub returns : goal.returns
returns c = scripts_fit
