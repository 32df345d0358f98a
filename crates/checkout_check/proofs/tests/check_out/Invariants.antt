use Rattle.std.proofs.Common.{◌≡◌, Some}
use Rattle.fs_trait.specs.View.{View}
use Rattle.checkout.specs.CheckoutWork.{left}
use Rattle.checkout.specs.CheckoutSteps.{Needs}
use Rattle.checkout_check.proofs.tests.check_out.Given as goal

-- the next step has what it needs
abbrev pub invariant-steps : goal.invariant-steps
invariant-steps g l = (v : View) → g.F.Fs.view l.fs ≡ Some v → Needs l.task v.now

abbrev pub decreases-steps : goal.decreases-steps
decreases-steps g l = left l.task
