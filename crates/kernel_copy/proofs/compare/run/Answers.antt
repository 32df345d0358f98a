use Rattle.std.proofs.Common.{arith, refl, ◌∙◌, subst, sym}
use Rattle.std.proofs.lemmas.Result.{err_from_is_err_and}
use Rattle.fs_trait.proofs.Quiet.{IsQuiet-refl, IsQuiet-trans}
use Rattle.file_copy.specs.Comparing.{Comparing, Needs}
use Rattle.kernel_copy.proofs.Finding.{answers_as, same_paths}
use Rattle.kernel_copy.proofs.compare.run.Goals as goal

pub steps-init : goal.steps-init
steps-init g c = record {
  one_is = refl;
  other_is = refl;
  needs = λ v told. subst (λ (t : Comparing). Needs t v.now) (sym c.requires) tt;
  quiet = IsQuiet-refl _ _ _;
  room = omega arith;
  faults = omega arith;
}

pub steps-preserved : goal.steps-preserved
steps-preserved g c =
    let i = c.steps.invariant in
    let same = same_paths c.steps.comparing c.step.new.self _ _ c.in_ok-step.was c.step.ensures.stepped in
    record {
      one_is = same.0 ∙ i.one_is;
      other_is = same.1 ∙ i.other_is;
      needs = λ v told. c.in_ok-step.ensures.after v (i.quiet.view ∙ told);
      quiet = IsQuiet-trans _ _ _ _ _ _ _ _ _ i.quiet c.step.ensures.quiet;
      room = omega (arith, i.room, c.step.ensures.keeps_room);
      faults = omega (arith, i.faults, c.step.ensures.cause.later);
    }

pub returns-in_err-step-clause-told : goal.returns-in_err-step-clause-told
returns-in_err-step-clause-told g c = λ v told.
    let i = c.steps.invariant in
    let error = err_from_is_err_and c.from_residual.result c.from_residual.ensures.1 in
    rw (error.1, error.2) (c.in_err-step.ensures.fails v (i.quiet.view ∙ told))

pub returns-in-Done-clause-told : goal.returns-in-Done-clause-told
returns-in-Done-clause-told g c = λ v told.
    let i = c.steps.invariant in
    answers_as v.now c.steps.comparing _ _ i.one_is i.other_is _ c.in-Done.same c.in-Done.is (c.in_ok-step.ensures.answer v (i.quiet.view ∙ told))
