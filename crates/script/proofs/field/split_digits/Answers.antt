use Rattle.std.proofs.Common.{◌∙◌, ap, arith}
use Rattle.std.specs.Option.{is_some}
use Rattle.script.proofs.Spelling.{digits_begin}
use Rattle.script.proofs.field.split_digits.Goals as goal

pub returns-then-text-lt2-clause-none : goal.returns-then-text-lt2-clause-none
returns-then-text-lt2-clause-none c = λ none b rest less e. let long = (digits_begin _ rest b e).0 in omega (arith, long)

pub returns-in-None-clause-none : goal.returns-in-None-clause-none
returns-in-None-clause-none c = λ none b rest less e. c.byte_of.ensures.none (ap is_some c.in-None.is) b less (c.split_at.ensures.front ∙ (digits_begin _ rest b e).1)
