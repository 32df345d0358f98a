use Rattle.ref_command.proofs.Ends.{falls_always, falls_of}
use Rattle.ref_command.proofs.laws.steps_fall.Goals as goal

pub returns-clause-always : goal.returns-clause-always
returns-clause-always c = falls_always

pub returns-clause-told : goal.returns-clause-told
returns-clause-told c = falls_of
