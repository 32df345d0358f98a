use Rattle.commands.proofs.Telling.{absence_of, failure_of}
use Rattle.commands.proofs.laws.answers_tell_alike.Goals as goal

pub returns-clause-failures : goal.returns-clause-failures
returns-clause-failures c = failure_of

pub returns-clause-absences : goal.returns-clause-absences
returns-clause-absences c = absence_of
