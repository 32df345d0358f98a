use Rattle.commit_command.proofs.Ends.{says_of, answered}
use Rattle.commit_command.proofs.laws.answers_of_a_commit.Goals as goal

pub returns-clause-told : goal.returns-clause-told
returns-clause-told c = says_of

pub returns-clause-always : goal.returns-clause-always
returns-clause-always c = answered
