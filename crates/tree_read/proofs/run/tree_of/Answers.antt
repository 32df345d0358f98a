use Rattle.std.proofs.Common.{◌≡◌, true, false, Ok, sym, ◌∙◌, ap, subst, arith}
use Rattle.std.proofs.lemmas.Result.{err_from_is_err_and}
use Rattle.fs_trait.specs.declared.task.StepResult.TheVariants.{Done}
use Rattle.fs_trait.proofs.Quiet.{IsQuiet-refl, IsQuiet-trans}
use Rattle.tree_read.specs.Reading.{IsStepped, StepTells}
use Rattle.tree_read.specs.Whole.{ReadsTree}
use Rattle.tree_read.proofs.Running.{ends_told, ends_whole}
use Rattle.tree_read.proofs.run.tree_of.Goals as goal

pub steps-init : goal.steps-init
steps-init g c = record {
  commit_is = ap (λ t. t.commit) c.new-task.ensures;
  limits_are = ap (λ t. t.limits) c.new-task.ensures;
  so_far = λ v is begun. absurd (let n : false ≡ true = sym (ap (λ t. t.begun) c.new-task.ensures) ∙ begun in cc);
  quiet = IsQuiet-refl _ _ _;
  room = omega arith;
  faults = omega arith;
}

pub steps-preserved : goal.steps-preserved
steps-preserved g c =
    let i = c.steps.invariant in
    let stepped = subst (λ r. IsStepped c.steps.task (Ok r) c.step.new.self) c.in-More.is c.in_ok-step.ensures.stepped in
    record {
      commit_is = stepped.0 ∙ i.commit_is;
      limits_are = stepped.1 ∙ i.limits_are;
      so_far = λ v is begun. subst (λ r. StepTells v.now c.steps.task (Ok r) c.step.new.self) c.in-More.is (c.in_ok-step.ensures.told v (i.quiet.view ∙ is) (i.so_far v is));
      quiet = IsQuiet-trans _ _ _ _ _ _ _ _ _ i.quiet c.step.ensures.quiet;
      room = omega (arith, i.room, c.step.ensures.keeps_room);
      faults = omega (arith, i.faults, c.step.ensures.cause.later);
    }

pub returns-in_err-step-clause-told : goal.returns-in_err-step-clause-told
returns-in_err-step-clause-told g c = λ v is.
    let i = c.steps.invariant in
    let error = err_from_is_err_and c.from_residual.result c.from_residual.ensures.1 in
    rw (error.1, error.2) (c.in_err-step.ensures.told v (i.quiet.view ∙ is) (i.so_far v is))

pub returns-in-Done-Ok-clause-told : goal.returns-in-Done-Ok-clause-told
returns-in-Done-Ok-clause-told g c = λ v is.
    let i = c.steps.invariant in
    let done = c.in-Done-Ok.is ∙ ap Done c.in-Done-Ok.field-0-is in
    let stepped = subst (λ r. IsStepped c.steps.task (Ok r) c.step.new.self) done c.in_ok-step.ensures.stepped in
    let tells = subst (λ r. StepTells v.now c.steps.task (Ok r) c.step.new.self) done (c.in_ok-step.ensures.told v (i.quiet.view ∙ is) (i.so_far v is)) in
    let found = c.into_found.ensures ∙ ap (λ t. t.found) stepped in
    subst (λ m. ReadsTree v.now c.args.limits.now c.args.commit.now (Ok m)) (sym found) (ends_whole v.now c.steps.task c.step.new.self c.args.limits.now c.args.commit.now i.limits_are i.commit_is tells)

pub returns-in-Done-Err-clause-told : goal.returns-in-Done-Err-clause-told
returns-in-Done-Err-clause-told g c = λ v is.
    let i = c.steps.invariant in
    let done = c.in-Done-Err.is ∙ ap Done c.in-Done-Err.field-0-is in
    let tells = subst (λ r. StepTells v.now c.steps.task (Ok r) c.step.new.self) done (c.in_ok-step.ensures.told v (i.quiet.view ∙ is) (i.so_far v is)) in
    ends_told v.now c.steps.task c.step.new.self c.args.limits.now c.args.commit.now i.limits_are i.commit_is c.in-Done-Err.fault tells
