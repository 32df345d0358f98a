use Rattle.std.proofs.lemmas.List.{nil_from_length}
use Rattle.script_reader.proofs.Scripts.{lines_none, lines_some}
use Rattle.script_reader.proofs.read.split_line.Goals as goal

pub returns-in-Some-clause-lines : goal.returns-in-Some-clause-lines
returns-in-Some-clause-lines c = lines_some _ _ _ _ _ c.split_newline.ensures.whole c.in-Some.ensures.cases.0 c.split_newline.ensures.rest c.split_newline.ensures.line

pub returns-in-None-clause-lines : goal.returns-in-None-clause-lines
returns-in-None-clause-lines c = lines_none _ _ _ c.split_newline.ensures.whole (nil_from_length _ c.in-None.ensures.cases) c.split_newline.ensures.line
