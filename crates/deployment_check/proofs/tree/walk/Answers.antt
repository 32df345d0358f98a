use Rattle.std.proofs.Common.{◌≡◌, true, false, Ok, refl, sym, ◌∙◌, ap, subst, arith}
use Rattle.std.proofs.lemmas.Result.{err_from_is_err_and}
use Rattle.fs_trait.specs.declared.task.StepResult.TheVariants.{Done}
use Rattle.fs_trait.proofs.Quiet.{IsQuiet-refl, IsQuiet-trans}
use Rattle.tree_read.specs.Reading.{IsStepped, TellsIn}
use Rattle.tree_walk.specs.Standing.{Standing}
use Rattle.deployment_check.proofs.Lacking.{ends_incomplete, ends_whole}
use Rattle.deployment_check.proofs.tree.walk.Goals as goal

pub steps-init : goal.steps-init
steps-init g c = record {
  commit_is = refl;
  limits_are = refl;
  so_far = λ v is begun. absurd (let n : false ≡ true = sym (ap (λ t. t.begun) c.requires) ∙ begun in cc);
  quiet = IsQuiet-refl _ _ _;
  room = omega arith;
  faults = omega arith;
}

pub steps-preserved : goal.steps-preserved
steps-preserved g c =
    let i = c.steps.invariant in
    let stepped = subst (λ r. IsStepped c.steps.walking (Ok r) c.step.new.self) c.in-More.is c.in_ok-step.ensures.stepped in
    record {
      commit_is = stepped.0 ∙ i.commit_is;
      limits_are = stepped.1 ∙ i.limits_are;
      so_far = λ v is begun. subst (λ r. TellsIn (Standing v.now) v.now c.steps.walking (Ok r) c.step.new.self) c.in-More.is (c.in_ok-step.ensures.told v (i.quiet.view ∙ is) (i.so_far v is));
      quiet = IsQuiet-trans _ _ _ _ _ _ _ _ _ i.quiet c.step.ensures.quiet;
      room = omega (arith, i.room, c.step.ensures.keeps_room);
      faults = omega (arith, i.faults, c.step.ensures.cause.later);
    }

pub returns-in_err-step-clause-told : goal.returns-in_err-step-clause-told
returns-in_err-step-clause-told g c = λ v is.
    let i = c.steps.invariant in
    let error = err_from_is_err_and c.from_residual.result c.from_residual.ensures.1 in
    rw (error.1, error.2) (c.in_err-step.ensures.told v (i.quiet.view ∙ is) (i.so_far v is))

pub returns-in-Done-Ok-clause-told : goal.returns-in-Done-Ok-clause-told
returns-in-Done-Ok-clause-told g c = λ v is.
    let i = c.steps.invariant in
    let done = c.in-Done-Ok.is ∙ ap Done c.in-Done-Ok.field-0-is in
    let stepped = subst (λ r. IsStepped c.steps.walking (Ok r) c.step.new.self) done c.in_ok-step.ensures.stepped in
    let tells = subst (λ r. TellsIn (Standing v.now) v.now c.steps.walking (Ok r) c.step.new.self) done (c.in_ok-step.ensures.told v (i.quiet.view ∙ is) (i.so_far v is)) in
    ends_whole v.now c.steps.walking c.step.new.self c.args.task.limits c.args.task.commit i.limits_are i.commit_is tells c.tree_of.result (c.tree_of.ensures.value ∙ ap (λ t. t.found) stepped) c.tree_of.ensures.map

pub returns-in-Done-Err-clause-told : goal.returns-in-Done-Err-clause-told
returns-in-Done-Err-clause-told g c = λ v is.
    let i = c.steps.invariant in
    let done = c.in-Done-Err.is ∙ ap Done c.in-Done-Err.field-0-is in
    let tells = subst (λ r. TellsIn (Standing v.now) v.now c.steps.walking (Ok r) c.step.new.self) done (c.in_ok-step.ensures.told v (i.quiet.view ∙ is) (i.so_far v is)) in
    ends_incomplete v.now c.steps.walking c.step.new.self c.args.task.limits c.args.task.commit i.limits_are i.commit_is c.in-Done-Err.field-0-0 tells
