use Rattle.std.proofs.Common.{refl, arith}
use Rattle.script_reader.proofs.Contents.{no_fill, fill_long, no_number, no_value, too_many}
use Rattle.script_reader.proofs.content.fill_of.Goals as goal

pub returns-in_default : goal.returns-in_default
returns-in_default c = no_fill _ (λ len byte fill.
    let short = c.in_default.ensures.none refl _ fill.written in
    let long = fill_long _ _ len byte fill.written fill in
    omega (arith, short, long))

pub returns-in_default-number_of : goal.returns-in_default-number_of
returns-in_default-number_of c = let some = c.in-Some.ensures.some in no_number _ _ _ some.0 some.1 c.in_default-number_of.ensures.value

pub returns-in_default-value_of : goal.returns-in_default-value_of
returns-in_default-value_of c = let some = c.in-Some.ensures.some in no_value _ _ _ some.0 some.1 c.in_default-value_of.ensures.value

pub returns-then-len-gt-FILL_LIMIT : goal.returns-then-len-gt-FILL_LIMIT
returns-then-len-gt-FILL_LIMIT c = let some = c.in-Some.ensures.some in too_many _ _ _ some.0 some.1 c.in-Some-number_of.len c.in-Some-number_of.ensures.small c.in-Some-number_of.ensures.value (omega (arith, c.if-len-gt-FILL_LIMIT.true))
