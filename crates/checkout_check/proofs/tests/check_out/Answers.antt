use Rattle.fs_trait.specs.View.{View}
use Rattle.checkout.specs.CheckoutSteps.{Needs}
use Rattle.checkout_check.proofs.Told.{told_once}
use Rattle.checkout_check.proofs.tests.check_out.Goals as goal

pub steps-preserved : goal.steps-preserved
steps-preserved g c = λ w told.
    let before = g.met.F.Fs.told _ c.steps.fs w told in
    told_once (λ (w : View). Needs _ w.now) _ (c.in_ok-step.ensures.after before.0 before.1) w told
