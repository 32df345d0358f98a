use Rattle.script_reader.proofs.Values.{octal_read, no_octal, small_bits}
use Rattle.script_reader.proofs.mode.value_of.Goals as goal

pub returns-in-Ok-clause-value : goal.returns-in-Ok-clause-value
returns-in-Ok-clause-value c = octal_read _ _ _ _ _ c.in-Ok.ensures.cases.0 c.ok.ensures.value c.requires c.from_str_radix.ensures.value

pub returns-in-Ok-clause-small : goal.returns-in-Ok-clause-small
returns-in-Ok-clause-small c = small_bits c.args.digits.now _ (octal_read _ _ _ _ _ c.in-Ok.ensures.cases.0 c.ok.ensures.value c.requires c.from_str_radix.ensures.value)

pub returns-in-Err-clause-value : goal.returns-in-Err-clause-value
returns-in-Err-clause-value c = no_octal _ c.in-Err.ensures.cases.0
