use Rattle.script.proofs.FieldValues.{text_read, no_text, field_gives}
use Rattle.script_reader.specs.Values.{IsFillBody}
use Rattle.script_reader.proofs.content.read_fill.Goals as goal

pub returns-in-Some : goal.returns-in-Some
returns-in-Some c = field_gives IsFillBody _ _ _ (text_read _ _ _ _ c.in_ok-text.ensures c.in-Some.is c.as_slice.ensures) c.fill_of.ensures

pub returns-in-None : goal.returns-in-None
returns-in-None c = no_text IsFillBody _ _ c.in_ok-text.ensures c.in-None.is
