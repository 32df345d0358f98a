use Rattle.std.proofs.Common.{◌≡◌, true, false, sym, ◌∙◌, refl}
use Rattle.gv_core.proofs.Raws.{step_at, at_end}
use Rattle.ost_forms.proofs.OrderedNames.{apart_less, apart_greater, apart_equal, apart_left_end, apart_right_end}
use Rattle.ost_forms.proofs.names.are_apart.Goals as goal

pub loop-i-preserved-in-Less : goal.loop-i-preserved-in-Less
loop-i-preserved-in-Less c = apart_less _ _ _ _ _ _ _ _ c.loop-i.invariant (step_at _ _ _ c.loop-i-test.true) (step_at _ _ _ c.if-j-right.true) (sym c.cmp.ensures ∙ c.in-Less.is)

pub loop-i-preserved : goal.loop-i-preserved
loop-i-preserved c = apart_greater _ _ _ _ _ _ _ _ c.loop-i.invariant (step_at _ _ _ c.loop-i-test.true) (step_at _ _ _ c.if-j-right.true) (sym c.cmp.ensures ∙ c.in-Greater.is)

pub returns-in-Equal : goal.returns-in-Equal
returns-in-Equal c =
    let no = apart_equal _ _ _ _ _ _ _ _ c.loop-i.invariant (step_at _ _ _ c.loop-i-test.true) (step_at _ _ _ c.if-j-right.true) (sym c.cmp.ensures ∙ c.in-Equal.is) in
    (λ t n p q. let z : false ≡ true = t in cc, λ a. absurd (no a))

pub returns-else-j-right : goal.returns-else-j-right
returns-else-j-right c = (λ _. apart_right_end _ _ _ _ c.loop-i.invariant (at_end _ _ c.if-j-right.false), λ _. refl)

pub returns-after-loop-i : goal.returns-after-loop-i
returns-after-loop-i c = (λ _. apart_left_end _ _ _ _ c.loop-i.invariant (at_end _ _ c.loop-i-test.false), λ _. refl)
