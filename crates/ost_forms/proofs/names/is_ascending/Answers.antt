use Rattle.std.proofs.Common.{◌≡◌, true, false, sym, ◌∙◌, refl, arith, rules}
use Rattle.ost_forms.proofs.OrderedNames.{ascends_more, not_ascending, ascends_all, less_from, not_less_from}
use Rattle.ost_forms.proofs.names.is_ascending.Goals as goal

pub loop-at-init : goal.loop-at-init
loop-at-init c = (omega arith, λ k below within. absurd (omega (arith, below)))

pub loop-at-preserved : goal.loop-at-preserved
loop-at-preserved c =
    let holds : c.is_lt.result ≡ true = search rules in
    (omega arith, ascends_more _ _ _ c.loop-at.invariant.0 c.loop-at-test.true c.loop-at.invariant.1 (sym c.cmp.ensures ∙ less_from _ (sym c.is_lt.ensures ∙ holds)))

pub returns-then-not-is_lt : goal.returns-then-not-is_lt
returns-then-not-is_lt c =
    let fails : c.is_lt.result ≡ false = search rules in
    let no = not_ascending _ _ _ c.loop-at.invariant.0 c.loop-at-test.true (λ e. not_less_from _ (sym c.is_lt.ensures ∙ fails) (c.cmp.ensures ∙ e)) in
    (λ t. let z : false ≡ true = t in absurd cc, λ h. absurd (no h))

pub returns : goal.returns
returns c = (λ _. ascends_all _ _ c.loop-at-test.false c.loop-at.invariant.1, λ _. refl)
