use Rattle.script.proofs.FieldValues.{text_read, no_text, field_gives}
use Rattle.script_reader.specs.Values.{IsOctal}
use Rattle.script_reader.proofs.mode.read_mode.Goals as goal

pub returns-in-Some-clause-value : goal.returns-in-Some-clause-value
returns-in-Some-clause-value c = field_gives IsOctal _ _ _ (text_read _ _ _ _ c.in_ok-digits.ensures c.in-Some.is c.as_slice.ensures) c.octal_of.ensures.value

pub returns-in-None-clause-value : goal.returns-in-None-clause-value
returns-in-None-clause-value c = no_text IsOctal _ _ c.in_ok-digits.ensures c.in-None.is
