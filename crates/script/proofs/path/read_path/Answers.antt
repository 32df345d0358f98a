use Rattle.std.proofs.lemmas.Result.{IfOk-weaker}
use Rattle.script.specs.Field.{IsPathText}
use Rattle.script.proofs.FieldValues.{text_read, no_text, field_gives}
use Rattle.script.proofs.path.read_path.Goals as goal

pub returns-in-Some : goal.returns-in-Some
returns-in-Some c = IfOk-weaker _ _ _ (λ o. field_gives IsPathText _ _ o (text_read _ _ _ _ c.in_ok-text.ensures c.in-Some.is c.as_slice.ensures)) c.parse_path.ensures

pub returns-in-None : goal.returns-in-None
returns-in-None c = no_text IsPathText _ _ c.in_ok-text.ensures c.in-None.is
