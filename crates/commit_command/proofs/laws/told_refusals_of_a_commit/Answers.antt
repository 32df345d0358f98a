use Rattle.commit_command.proofs.Refusals.{refused_of}
use Rattle.commit_command.proofs.laws.told_refusals_of_a_commit.Goals as goal

pub returns : goal.returns
returns c = refused_of
