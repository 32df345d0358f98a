use Rattle.bls_entry.proofs.Settings.{cut_line, setting_there, no_key_there, no_value_there, empty_is, some_is}
use Rattle.bls_entry.proofs.setting.read_setting.Goals as goal
use Rattle.bls_entry.proofs.setting.read_setting.Goals.{then-is_empty-via-then-is_empty, then-is_empty-via-else-is_empty+then-is_empty-2}

pub returns-then-is_empty : goal.returns-then-is_empty
returns-then-is_empty c = elim c.then-is_empty.branch [
  | then-is_empty-via-then-is_empty w ↦ no_key_there c.args.line.now c.split_at_blank.result.0.now c.split_at_blank.result.1.now c.split_blanks.result.0.now c.split_blanks.result.1.now
      c.split_at_blank.ensures.whole c.split_blanks.ensures.whole c.split_at_blank.ensures.word c.split_at_blank.ensures.rest c.split_blanks.ensures.blanks c.split_blanks.ensures.rest
      (empty_is c.split_at_blank.result.0.now c.is_empty.result c.is_empty.ensures w.if-is_empty.true)
  | then-is_empty-via-else-is_empty+then-is_empty-2 w ↦ no_value_there c.args.line.now c.split_at_blank.result.0.now c.split_at_blank.result.1.now c.split_blanks.result.0.now c.split_blanks.result.1.now
      c.split_at_blank.ensures.whole c.split_blanks.ensures.whole c.split_at_blank.ensures.word c.split_at_blank.ensures.rest c.split_blanks.ensures.blanks c.split_blanks.ensures.rest
      (empty_is c.split_blanks.result.1.now w.is_empty-else-is_empty.result w.is_empty-else-is_empty.ensures w.if-is_empty-2.true)
]

pub returns : goal.returns
returns c = (
  c.split_blanks.result.0.now,
  setting_there c.args.line.now c.split_at_blank.result.0.now c.split_at_blank.result.1.now c.split_blanks.result.0.now c.split_blanks.result.1.now
      c.split_at_blank.ensures.whole c.split_blanks.ensures.whole c.split_at_blank.ensures.word c.split_at_blank.ensures.rest c.split_blanks.ensures.blanks c.split_blanks.ensures.rest
      c.requires.one c.requires.begins
      (some_is c.split_at_blank.result.0.now c.is_empty.result c.is_empty.ensures c.if-is_empty.false)
      (some_is c.split_blanks.result.1.now c.is_empty-else-is_empty.result c.is_empty-else-is_empty.ensures c.if-is_empty-2.false),
  cut_line c.args.line.now c.split_at_blank.result.0.now c.split_at_blank.result.1.now c.split_blanks.result.0.now c.split_blanks.result.1.now
      c.split_at_blank.ensures.whole c.split_blanks.ensures.whole c.split_at_blank.ensures.word c.split_at_blank.ensures.rest c.split_blanks.ensures.blanks c.split_blanks.ensures.rest,
)
