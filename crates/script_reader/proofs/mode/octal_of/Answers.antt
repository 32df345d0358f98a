use Rattle.script_reader.proofs.Values.{no_front}
use Rattle.script_reader.proofs.mode.octal_of.Goals as goal

pub returns-else-has_front-clause-value : goal.returns-else-has_front-clause-value
returns-else-has_front-clause-value c = no_front _ (c.has_front.ensures.no c.if-has_front.false)
