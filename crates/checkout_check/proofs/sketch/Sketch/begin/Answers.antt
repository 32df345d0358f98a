use Rattle.std.proofs.Common.{◌≡◌, sym, ◌∙◌, subst}
use Rattle.checkout.specs.CheckoutWork.{Checkout}
use Rattle.checkout.specs.CheckoutSteps.{Needs}
use Rattle.checkout_check.proofs.Making.{begun_as}
use Rattle.checkout_check.proofs.sketch.Sketch.begin.Goals as goal

pub returns-clause-told : goal.returns-clause-told
returns-clause-told g c = λ v told.
    let iff = c.in_ok-can_begin.ensures.told v told in
    let is = c.new.ensures.value ∙ begun_as c.self.inside.into _ _ c.self.view_is c.self.invariant.0 in
    (is, subst (λ (t : Checkout). Needs t v.now) (sym is) (iff.0 c.if-not-branch.false))
