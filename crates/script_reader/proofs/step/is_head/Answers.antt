use Rattle.script_reader.proofs.Scripts.{head_yes, head_no}
use Rattle.script_reader.proofs.step.is_head.Goals as goal

pub returns-then-is_word-clause-yes : goal.returns-then-is_word-clause-yes
returns-then-is_word-clause-yes c = head_yes c.args.keyword.now c.args.number.now c.args.count c.has_number.result (c.is_word.ensures.yes c.if-is_word.true) c.has_number.ensures.yes

pub returns-then-is_word-clause-no : goal.returns-then-is_word-clause-no
returns-then-is_word-clause-no c = head_no c.args.keyword.now c.args.number.now c.args.count c.has_number.result c.has_number.ensures.no

pub returns-else-is_word-clause-no : goal.returns-else-is_word-clause-no
returns-else-is_word-clause-no c = λ e is. c.is_word.ensures.no c.if-is_word.false is.0
