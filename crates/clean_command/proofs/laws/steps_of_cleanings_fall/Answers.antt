use Rattle.clean_command.proofs.Ends.{answer_of, falls_of, learn_left}
use Rattle.clean_command.proofs.laws.steps_of_cleanings_fall.Goals as goal

pub returns-clause-falls : goal.returns-clause-falls
returns-clause-falls c = λ t new step. falls_of t new step

pub returns-clause-learns : goal.returns-clause-learns
returns-clause-learns c = λ refs ids pins t new learns. learn_left ids t new learns

pub returns-clause-answers : goal.returns-clause-answers
returns-clause-answers c = λ t new step. answer_of t new step
