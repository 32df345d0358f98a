use Rattle.commit_command.proofs.Ends.{falls_of}
use Rattle.commit_command.proofs.laws.steps_of_a_commit_fall.Goals as goal

pub returns : goal.returns
returns c = falls_of
