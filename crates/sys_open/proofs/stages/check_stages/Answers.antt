use Rattle.std.proofs.Common.{◌∙◌, arith}
use Rattle.std.proofs.lemmas.Result.{err_from_is_err_and}
use Rattle.std.proofs.lemmas.List.{get_or_default}
use Rattle.fs_trait.proofs.Quiet.{IsQuiet-trans}
use Rattle.sys_open.proofs.StageLemmas.{more_reach, stages_reach, stages_first}
use Rattle.sys_open.proofs.stages.check_stages.Goals as goal

pub loop-actor-preserved : goal.loop-actor-preserved
loop-actor-preserved g c =
    let inv = c.loop-actor.invariant in
    let first = inv.1 in
    let later = c.check_stage.ensures.reason.later in (
      IsQuiet-trans _ _ _ _ _ _ _ _ _ inv.0 c.check_stage.ensures.quiet,
      omega (arith, first, later),
      λ v told. more_reach v.now c.actors-actor-items.result.now c.loop-actor.actor-index _ c.loop-actor-test.true (get_or_default c.actors-actor-items.result.now c.loop-actor.actor-index _ _ c.loop-actor-test.true) (c.in_ok-check_stage.ensures.told v (inv.0.view ∙ told)) (inv.2 v told),
    )

pub returns-in_err-check_stage-clause-told : goal.returns-in_err-check_stage-clause-told
returns-in_err-check_stage-clause-told g c = λ v told.
    let error = err_from_is_err_and c.from_residual.result c.from_residual.ensures.1 in
    let inv = c.loop-actor.invariant in
    rw (error.1, error.2) (stages_first (Unit {0}) v.now c.actors-actor-items.result.now c.loop-actor.actor-index _ c.actors-actor-items.ensures.value c.loop-actor-test.true (get_or_default c.actors-actor-items.result.now c.loop-actor.actor-index _ _ c.loop-actor-test.true) (c.actors-actor-items.ensures.small c.loop-actor.actor-index _ c.loop-actor-test.true) (inv.2 v told) _ (c.in_err-check_stage.ensures.told v (inv.0.view ∙ told)))

pub returns-clause-told : goal.returns-clause-told
returns-clause-told g c = λ v told.
    stages_reach v.now c.actors-actor-items.result.now c.loop-actor.actor-index c.actors-actor-items.ensures.value c.loop-actor-test.false (c.loop-actor.invariant.2 v told)
