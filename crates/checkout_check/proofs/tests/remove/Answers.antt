use Rattle.std.proofs.Common.{sym, subst}
use Rattle.fs_trait.specs.View.{View}
use Rattle.checkout.specs.Remove.{Removing}
use Rattle.checkout.specs.RemoveSteps.{Needs}
use Rattle.checkout.proofs.RemoveRuns.{needs_begun}
use Rattle.checkout_check.proofs.Told.{told_once}
use Rattle.checkout_check.proofs.tests.remove.Goals as goal

pub steps-init : goal.steps-init
steps-init g c = λ v told. subst (λ (t : Removing). Needs t v) (sym c.new-task.ensures) (needs_begun c.args.at v c.requires)

pub steps-preserved : goal.steps-preserved
steps-preserved g c = λ w told.
    let before = g.met.F.Fs.told _ c.steps.fs w told in
    told_once (λ (w : View). Needs _ w) _ (c.in_ok-step.ensures.after before.0 before.1) w told
