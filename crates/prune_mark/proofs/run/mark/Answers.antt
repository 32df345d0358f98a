use Rattle.std.proofs.Common.{Ok, ◌∙◌, subst, arith}
use Rattle.std.proofs.lemmas.Result.{err_from_is_err_and}
use Rattle.fs_trait.proofs.Quiet.{IsQuiet-refl, IsQuiet-trans}
use Rattle.prune_mark.specs.Marking.{IsStepped, StepTells}
use Rattle.prune_mark.proofs.Steps.{refused_of, run_done}
use Rattle.prune_mark.proofs.run.mark.Goals as goal

pub steps-init : goal.steps-init
steps-init g c = record {
  names_are = c.in_ok-marking.ensures.fresh.names_are;
  depth_is = c.in_ok-marking.ensures.fresh.depth_is;
  known = λ v is are. c.in_ok-marking.ensures.begun v.now are;
  quiet = IsQuiet-refl _ _ _;
  room = omega arith;
  faults = omega arith;
}

pub steps-preserved : goal.steps-preserved
steps-preserved g c =
    let i = c.steps.invariant in
    let stepped = subst (λ r. IsStepped c.steps.marking (Ok r) c.step.new.self) c.in-More.is c.in_ok-step.ensures.stepped in
    record {
      names_are = stepped.0 ∙ i.names_are;
      depth_is = stepped.1 ∙ i.depth_is;
      known = λ v is are. subst (λ r. StepTells v.now c.args.limits.now.content c.args.roots.now c.steps.marking (Ok r) c.step.new.self) c.in-More.is (c.in_ok-step.ensures.told v c.args.roots.now (i.quiet.view ∙ is) (i.known v is are));
      quiet = IsQuiet-trans _ _ _ _ _ _ _ _ _ i.quiet c.step.ensures.quiet;
      room = omega (arith, i.room, c.step.ensures.keeps_room);
      faults = omega (arith, i.faults, c.step.ensures.cause.later);
    }

pub returns-in_err-step-clause-told : goal.returns-in_err-step-clause-told
returns-in_err-step-clause-told g c = λ v is are.
    let i = c.steps.invariant in
    let error = err_from_is_err_and c.from_residual-in_err-step.result c.from_residual-in_err-step.ensures.1 in
    rw (error.1, error.2) (refused_of v.now c.args.limits.now.content c.steps.marking.names c.args.names.items i.names_are _ (c.in_err-step.ensures.told v c.args.roots.now (i.quiet.view ∙ is) (i.known v is are)))

pub returns-in-Done-clause-told : goal.returns-in-Done-clause-told
returns-in-Done-clause-told g c = λ v is are.
    let i = c.steps.invariant in
    let stepped = subst (λ r. IsStepped c.steps.marking (Ok r) c.step.new.self) c.in-Done.is c.in_ok-step.ensures.stepped in
    let tells = subst (λ r. StepTells v.now c.args.limits.now.content c.args.roots.now c.steps.marking (Ok r) c.step.new.self) c.in-Done.is (c.in_ok-step.ensures.told v c.args.roots.now (i.quiet.view ∙ is) (i.known v is are)) in
    run_done v.now c.args.roots.now c.args.names.items c.args.depth c.steps.marking c.step.new.self i.names_are i.depth_is stepped tells
