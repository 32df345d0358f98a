use Rattle.std.proofs.Common.{sym, ◌∙◌, ap, subst}
use Rattle.tree_read.specs.Reading.{AreShort}
use Rattle.tree_read.proofs.Openings.{far_of, far_below}
use Rattle.tree_read.proofs.walking.TreeWalk.below.Goals as goal

pub returns-else-are_short : goal.returns-else-are_short
returns-else-are_short c =
    let cut = sym (ap (λ t. t.pending) c.self.view_is) ∙ sym c.deref.ensures.value ∙ c.in-Some.ensures.cases.0 in
    let long = subst (AreShort c.in_ok-below.below.items) c.if-are_short.false (subst (λ l. AreShort l c.are_short.result) c.deref-2.ensures.value c.are_short.ensures) in
    far_below c.args.self.now c.in-Some.field-0-1.now c.in-Some.next.now _ cut (far_of c.in-Some.next.now.path c.args.tree _ c.in_ok-below.below.items c.in_ok-below.ensures long)
