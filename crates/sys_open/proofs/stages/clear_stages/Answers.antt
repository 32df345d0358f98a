use Rattle.std.proofs.Common.{◌≡◌, subst, arith, get_or}
use Rattle.std.proofs.lemmas.List.{get_or_default}
use Rattle.std.proofs.lemmas.Result.{err_from_is_err_and}
use Rattle.fs_trait.specs.View.{View}
use Rattle.fs_trait.specs.Seen.{Vacant, shows}
use Rattle.fs_trait.specs.Change.{Writes}
use Rattle.repo_layout.specs.Paths.{stage_path}
use Rattle.sys_open.specs.Changes.{Clears, ClearsStages}
use Rattle.sys_open.proofs.StageClearing.{clears_stage, stages_still, more_clear, all_clear}
use Rattle.sys_open.proofs.Working.{one_view, works_then}
use Rattle.sys_open.proofs.stages.clear_stages.Goals as goal

pub returns-in_err-clear_stage-clause-works : goal.returns-in_err-clear_stage-clause-works
returns-in_err-clear_stage-clause-works g c = λ v told.
    let first = c.loop-actor.invariant.1 v told in
    let u = first.left.0 in
    let a = get_or c.actors-actor-items.result.now c.loop-actor.actor-index 0 in
    works_then ClearsStages (Clears (stage_path a)) v u _ _ _ _ _ _ _ _ first.left.1 first (c.clear_stage.ensures.works u first.left.1) (clears_stage a (c.actors-actor-items.ensures.small c.loop-actor.actor-index _ c.loop-actor-test.true))

pub returns-in_err-clear_stage-clause-fails : goal.returns-in_err-clear_stage-clause-fails
returns-in_err-clear_stage-clause-fails g c = λ v told asks.
    let error = err_from_is_err_and c.from_residual.result c.from_residual.ensures.1 in
    let first = c.loop-actor.invariant.1 v told in
    let u = first.left.0 in
    rw (error.1, error.2) (c.in_err-clear_stage.ensures.fails u first.left.1 (stages_still v u first.left.2 asks (get_or c.actors-actor-items.result.now c.loop-actor.actor-index 0) (c.actors-actor-items.ensures.small c.loop-actor.actor-index _ c.loop-actor-test.true)))

pub returns-clause-cleared : goal.returns-clause-cleared
returns-clause-cleared g c = λ v told.
    let works = c.loop-actor.invariant.1 v told in
    (works.left.0, works.left.1, all_clear works.left.0.now c.actors-actor-items.result.now c.loop-actor.actor-index c.actors-actor-items.ensures.value c.loop-actor-test.false (c.loop-actor.invariant.2 works.left.0 works.left.1))

pub loop-actor-preserved : goal.loop-actor-preserved
loop-actor-preserved g c =
    let items = c.actors-actor-items.result.now in
    let i = c.loop-actor.actor-index in
    let a = get_or items i 0 in
    let so_far = c.loop-actor.invariant.0 in
    let later = c.clear_stage.ensures.reason.later in (
      omega (arith, so_far, later),
      λ v told.
          let first = c.loop-actor.invariant.1 v told in
          let u = first.left.0 in
          works_then ClearsStages (Clears (stage_path a)) v u _ _ _ _ _ _ _ _ first.left.1 first (c.clear_stage.ensures.works u first.left.1) (clears_stage a (c.actors-actor-items.ensures.small c.loop-actor.actor-index _ c.loop-actor-test.true)),
      λ w now.
          let b = g.met.F.Fs.told c.clear_stage.new.fs c.loop-actor.fs w now in
          let works = c.clear_stage.ensures.works b.0 b.1 in
          let clear = c.in_ok-clear_stage.ensures.cleared b.0 b.1 in
          more_clear b.0 w items i a c.loop-actor-test.true (get_or_default items i 0 a c.loop-actor-test.true)
          (subst (λ x. Writes (Clears (stage_path a)) b.0 x) (one_view _ works.left.0 w works.left.1 now) works.left.2)
          (subst (λ (x : View). shows x.now (stage_path a) ≡ Vacant) (one_view _ clear.0 w clear.1 now) clear.2)
          (c.loop-actor.invariant.2 b.0 b.1),
      omega (arith, c.loop-actor.invariant.3, c.clear_stage.ensures.later),
    )
