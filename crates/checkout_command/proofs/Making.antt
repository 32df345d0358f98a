-- What a step of the task that makes the tree tells, of the command.
use Rattle.std.proofs.Common.{◌≡◌, ◌≢◌, Option, Err, refl, sym, ◌∙◌, subst}
use Rattle.ost_types.specs.Path.{Path}
use Rattle.fs_trait.specs.declared.task.StepResult.{StepResult}
use Rattle.fs_trait.specs.declared.task.StepResult.TheVariants as turn
use Rattle.fs_trait.specs.Change.{Writes}
use Rattle.fs_trait.specs.Image.{Told}
use Rattle.fs_trait.specs.Seen.{Vacant, shows}
use Rattle.fs_trait.specs.View.{View}
use Rattle.fs_trait.proofs.Kept.{weaker}
use Rattle.repo_layout.specs.BootPaths.{checkout_path}
use Rattle.checkout.specs.declared.checkout_phase.DestExists.{DestExists}
use Rattle.checkout.specs.CheckoutWork.{Answer, Checkout, steps_in}
use Rattle.checkout.specs.CheckoutSteps.{Needs, Tells, WritesOf}
use Rattle.staged_file.proofs.Wholes.{told_once}
use Rattle.checkout_command.specs.declared.answer.CheckoutAnswer.TheVariants as answer
use Rattle.checkout_command.specs.declared.made.Made.{Made}
use Rattle.checkout_command.specs.declared.make.Make.{Make}
use Rattle.checkout_command.specs.MakeSteps.{IsGoing, IsMadeBy, MakeNeeds, MakeSays, Makes, make_writes}
use Rattle.checkout_command.specs.Phases.{refused, writes_as}

module _ (m : Make) (v : View) (going : IsGoing m.made) (needs : MakeNeeds m v.now) (view : Option View) where
  pub told_writes : Told view (λ w. Writes (WritesOf m.task v) v w) → Told view (λ w. Writes (make_writes m v) v w)
  told_writes told = (told.0, told.1, weaker (WritesOf m.task v) (make_writes m v) v told.0 (writes_as m.made m v going needs.at needs.far) told.2)

  pub told_makes : (u : Checkout) (k : Made) (r x : StepResult Answer) → r ≡ x → IsMadeBy x k → steps_in m.task.phase m.task r u → Told view (λ w. Tells m.task v w r) → Told view (λ w. Needs u w.now)
      → Told view (λ w. Writes (WritesOf m.task v) v w) → Told view (λ w. Makes m (record { request = m.request; task = u; made = k }) v w)
  told_makes u k r x is by steps tells after writes =
      let wrote = told_writes writes in (
        wrote.0,
        wrote.1,
        record {
          going = going;
          request = refl;
          turn = x;
          steps = subst (λ t. steps_in m.task.phase m.task t u) is steps;
          made = by;
          tells = subst (λ t. Tells m.task v wrote.0 t) is (told_once (λ w. Tells m.task v w r) view tells wrote.0 wrote.1);
          after = told_once (λ w. Needs u w.now) view after wrote.0 wrote.1;
          writes = wrote.2;
        },
      )

  pub told_refused : (u : Checkout) (e : DestExists) (r : StepResult Answer) → r ≡ turn.Done (Err e) → steps_in m.task.phase m.task r u → Told view (λ w. Tells m.task v w r)
      → (p : Path) → p ≡ checkout_path m.request.name → Told view (λ w. (w ≡ v) × MakeSays m v.now (answer.DestExists p))
  told_refused u e r is steps tells p at =
      let of = refused m.made m.task u v tells.0 e going needs.far (subst (λ t. steps_in m.task.phase m.task t u) is steps) (subst (λ t. Tells m.task v tells.0 t) is tells.2) in
      (tells.0, tells.1, (of.0, (of.1, at, subst (λ q. shows v.now q ≢ Vacant) (needs.at ∙ sym at) of.2)))
