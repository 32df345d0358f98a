use Rattle.schedule.proofs.Numbers.{parsed_text, no_decimal, other_front}
use Rattle.schedule.proofs.number.number_of.Goals as goal

pub returns-then-has_other_front-clause-value : goal.returns-then-has_other_front-clause-value
returns-then-has_other_front-clause-value c = other_front _ (c.has_other_front.ensures.yes c.if-has_other_front.true)

pub returns-in-Ok-clause-value : goal.returns-in-Ok-clause-value
returns-in-Ok-clause-value c = parsed_text _ _ _ _ _ c.in-Ok.ensures.cases.0 c.ok.ensures.value (c.has_other_front.ensures.no c.if-has_other_front.false) c.parse.ensures.value.0

pub returns-in-Err-clause-value : goal.returns-in-Err-clause-value
returns-in-Err-clause-value c = no_decimal _ c.in-Err.ensures.cases.0
