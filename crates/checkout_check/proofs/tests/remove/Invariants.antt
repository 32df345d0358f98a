use Rattle.std.proofs.Common.{◌≡◌, Some}
use Rattle.fs_trait.specs.View.{View}
use Rattle.checkout.specs.Remove.{left}
use Rattle.checkout.specs.RemoveSteps.{Needs}
use Rattle.checkout_check.proofs.tests.remove.Given as goal

-- the next step has what it needs
abbrev pub invariant-steps : goal.invariant-steps
invariant-steps g l = (v : View) → g.F.Fs.view l.fs ≡ Some v → Needs l.task v

abbrev pub decreases-steps : goal.decreases-steps
decreases-steps g l = left l.task
