use Rattle.std.proofs.Common.{sym, ◌∙◌, ap, arith}
use Rattle.tree_read.specs.Reading.{weight, weight_of}
use Rattle.tree_read.proofs.Steps.{weight_last, weight_other}
use Rattle.tree_read.proofs.walking.TreeWalk.next_weight.Goals as goal

pub returns-in-Attributes-clause-value : goal.returns-in-Attributes-clause-value
returns-in-Attributes-clause-value c =
    let cut = sym (ap (λ t. t.pending) c.self.view_is) ∙ sym c.deref.ensures.value ∙ c.in-Some.ensures.cases.0 in
    sym (ap weight cut ∙ weight_last c.in-Some.field-0-1.now c.in-Some.next.now ∙ ap weight_of c.in-Attributes.is)

pub returns-in_default-named : goal.returns-in_default-named
returns-in_default-named c =
    let cut = sym (ap (λ t. t.pending) c.self.view_is) ∙ sym c.deref.ensures.value ∙ c.in-Some.ensures.cases.0 in
    record {
      value = sym (ap weight cut ∙ weight_last c.in-Some.field-0-1.now c.in-Some.next.now ∙ weight_other c.in-Some.next.now.named c.in_default-named.not-Attributes);
      small = omega arith;
    }
