use Rattle.std.proofs.Common.{sym, ◌∙◌}
use Rattle.memory_table.proofs.Splitting.{is_zero, not_zero}
use Rattle.memory_record.proofs.Children.{child, no_child-front, no_child-end, no_child-zero}
use Rattle.memory_record.proofs.listing.name_in.Goals as goal

pub returns-in_default : goal.returns-in_default
returns-in_default c = λ f p nf np ff tp. no_child-front _ _ f p nf np ff tp c.in_default.ensures.cases

pub returns-then-is_empty : goal.returns-then-is_empty
returns-then-is_empty c = λ f p nf np ff tp. no_child-end _ _ f p nf np ff tp c.in-Some.rest.now c.in-Some.ensures.cases.1 (is_zero _ _ c.is_empty.ensures c.if-is_empty.true)

pub returns-then-contains : goal.returns-then-contains
returns-then-contains c = λ f p nf np ff tp. no_child-zero _ _ f p nf np ff tp c.in-Some.rest.now c.in-Some.ensures.cases.1 (sym c.contains.ensures.value ∙ c.if-contains.true)

pub returns : goal.returns
returns c = λ f p nf np ff tp. child _ _ f p nf np ff tp c.in-Some.rest.now c.in-Some.ensures.cases.1 c.in-Some.ensures.cases.0 (not_zero _ _ c.is_empty.ensures c.if-is_empty.false) (sym c.contains.ensures.value ∙ c.if-contains.false)
