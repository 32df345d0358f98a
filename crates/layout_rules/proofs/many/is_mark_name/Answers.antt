use Rattle.std.proofs.Common.{◌++◌, ◌∙◌, ap, Some}
use Rattle.std.proofs.lemmas.Bool.Decides.{Decides-eqb}
use Rattle.std.proofs.lemmas.Slice.Eq.{strip_suffix_is}
use Rattle.layout_rules.proofs.NameTests.{mark_test}
use Rattle.layout_rules.proofs.many.is_mark_name.Goals as goal

pub returns-in-Some : goal.returns-in-Some
returns-in-Some c = mark_test c.args.name.now c.in-Some.digits.now c.is_sum.result c.is_sum.ensures (strip_suffix_is Decides-eqb c.args.name.now c.as_slice.result.now (Some c.in-Some.digits) c.in-Some.ensures.cases ∙ ap (λ e. c.in-Some.digits.now ++ e) c.as_slice.ensures)
