use Rattle.std.proofs.Common.{sym, ◌∙◌, ap}
use Rattle.checkout.specs.CheckoutWork.{Checkout}
use Rattle.checkout.proofs.CheckoutAnswering.{ready_in}
use Rattle.checkout.proofs.checkout.CheckoutTask.step.Goals as goal

pub make-requires-clause-ready : goal.make-requires-clause-ready
make-requires-clause-ready g c = λ v told.
    ready_in c.args.self.now v.now c.in-Make.number (sym (ap (λ (t : Checkout). t.phase) c.self.view_is) ∙ c.in-Make.is) (c.requires v told)
