use Rattle.commit_command.proofs.Ends.{counted, same_kind, same_left, same_answer}
use Rattle.commit_command.proofs.laws.facts_without_the_count.Goals as goal

pub returns-clause-facts : goal.returns-clause-facts
returns-clause-facts c = counted

pub returns-clause-kinds : goal.returns-clause-kinds
returns-clause-kinds c = same_kind

pub returns-clause-left : goal.returns-clause-left
returns-clause-left c = same_left

pub returns-clause-answers : goal.returns-clause-answers
returns-clause-answers c = same_answer
