use Rattle.boot_words.proofs.Numbers.{parsed_text, no_decimal, other_front}
use Rattle.boot_words.proofs.number.read_number.Goals as goal

pub returns-then-has_other_front : goal.returns-then-has_other_front
returns-then-has_other_front c = other_front _ (c.has_other_front.ensures.yes c.if-has_other_front.true)

pub returns-in-Ok : goal.returns-in-Ok
returns-in-Ok c = parsed_text _ _ _ _ c.in-Ok.ensures.cases.0 c.ok.ensures.value (c.has_other_front.ensures.no c.if-has_other_front.false) c.parse.ensures.value.0

pub returns-in-Err : goal.returns-in-Err
returns-in-Err c = no_decimal _ c.in-Err.ensures.cases.0
