use Rattle.std.proofs.Common.{◌≡◌, ◌∙◌, subst, ap, arith}
use Rattle.std.proofs.lemmas.Result.{err_from_is_err_and}
use Rattle.fs_trait.specs.View.{View, all_synced}
use Rattle.fs_trait.specs.Change.{Nothing}
use Rattle.fs_trait.specs.Seen.{Vacant, shows}
use Rattle.fs_trait.proofs.Kept.{weaker}
use Rattle.repo_layout.specs.Paths.{config_path, stage_path}
use Rattle.staged_file.specs.Steps.{Needs}
use Rattle.staged_file.proofs.Begins.{needs_synced}
use Rattle.sys_open.specs.Faults.{IsRefusal}
use Rattle.sys_open.specs.Changes.{Clears, Configures, Puts}
use Rattle.sys_open.proofs.Arranging.{folders_stand, synced_now}
use Rattle.sys_open.proofs.Configuring.{clears_first, config_shows, may_begin, none_cleared, put_config, put_interrupted}
use Rattle.sys_open.proofs.Working.{one_view, works_then, works_weaker}
use Rattle.sys_open.proofs.configure.write_config.Goals as goal

pub returns-in_err-clear_stage-clause-works : goal.returns-in_err-clear_stage-clause-works
returns-in_err-clear_stage-clause-works g c = λ v told.
    works_weaker (Clears (stage_path 0)) v _ _ _ _ _ (Configures v.now) (clears_first v.now) (c.clear_stage.ensures.works v told)

pub returns-in_err-clear_stage-clause-fails : goal.returns-in_err-clear_stage-clause-fails
returns-in_err-clear_stage-clause-fails g c = λ v told.
    let error = err_from_is_err_and c.from_residual-in_err-clear_stage.result c.from_residual-in_err-clear_stage.ensures.1 in
    rw (error.1, error.2) (c.in_err-clear_stage.ensures.fails v told (λ q below. c.requires.staging v told q 0 (omega arith) below))

pub returns-in_err-barrier-clause-works : goal.returns-in_err-barrier-clause-works
returns-in_err-barrier-clause-works g c = λ v told.
    let clears = c.clear_stage.ensures.works v told in
    let first = works_weaker (Clears (stage_path 0)) v _ _ _ _ _ (Configures v.now) (clears_first v.now) clears in
    works_then (Configures v.now) Nothing v clears.left.0 _ _ _ _ _ _ _ _ clears.left.1 first (c.barrier.ensures.works clears.left.0 clears.left.1) (λ p s none. absurd none)

pub put-requires : goal.put-requires
put-requires g c = λ w now.
    let b = g.met.F.Fs.told c.barrier.new.fs c.args.fs.now w now in
    let clears = c.clear_stage.ensures.works b.0 b.1 in
    let cleared = c.in_ok-clear_stage.ensures.cleared b.0 b.1 in
    let u = clears.left.0 in
    let synced = c.in_ok-barrier.ensures.synced u clears.left.1 in
    subst (Needs c.in_ok-task.task) (one_view _ (all_synced u) w synced now)
    (needs_synced c.in_ok-task.task u (g.met.F.Fs.tree c.clear_stage.new.fs u clears.left.1)
    (may_begin c.in_ok-task.task u.now c.in_ok-task.ensures
    (λ f. folders_stand b.0 u (weaker (Clears (stage_path 0)) (Configures b.0.now) b.0 u (clears_first b.0.now) clears.left.2) f (c.requires.folders b.0 b.1 f))
    (subst (λ (x : View). shows x.now (stage_path 0) ≡ Vacant) (one_view _ cleared.0 u cleared.1 clears.left.1) cleared.2)))

pub returns-in-Err-clause-works : goal.returns-in-Err-clause-works
returns-in-Err-clause-works g c = λ v told.
    let clears = c.clear_stage.ensures.works v told in
    let u = clears.left.0 in
    let synced = c.in_ok-barrier.ensures.synced u clears.left.1 in
    let first = works_weaker (Clears (stage_path 0)) v _ _ _ _ _ (Configures v.now) (clears_first v.now) clears in
    let second = works_then (Configures v.now) Nothing v u _ _ _ _ _ _ _ _ clears.left.1 first (c.barrier.ensures.works u clears.left.1) (λ p s none. absurd none) in
    works_then (Configures v.now) (Puts c.in_ok-task.task.stage c.in_ok-task.task.at c.in_ok-task.task.meta c.in_ok-task.task.bytes) v (all_synced u) _ _ _ _ _ _ _ _ synced second (c.put.ensures.works (all_synced u) synced) (put_config v.now c.in_ok-task.task c.in_ok-task.ensures (c.requires.none v told))

pub returns-in-Ok-clause-works : goal.returns-in-Ok-clause-works
returns-in-Ok-clause-works g c = λ v told.
    let clears = c.clear_stage.ensures.works v told in
    let u = clears.left.0 in
    let synced = c.in_ok-barrier.ensures.synced u clears.left.1 in
    let first = works_weaker (Clears (stage_path 0)) v _ _ _ _ _ (Configures v.now) (clears_first v.now) clears in
    let second = works_then (Configures v.now) Nothing v u _ _ _ _ _ _ _ _ clears.left.1 first (c.barrier.ensures.works u clears.left.1) (λ p s none. absurd none) in
    works_then (Configures v.now) (Puts c.in_ok-task.task.stage c.in_ok-task.task.at c.in_ok-task.task.meta c.in_ok-task.task.bytes) v (all_synced u) _ _ _ _ _ _ _ _ synced second (c.put.ensures.works (all_synced u) synced) (put_config v.now c.in_ok-task.task c.in_ok-task.ensures (c.requires.none v told))

pub returns-in-Ok-clause-there : goal.returns-in-Ok-clause-there
returns-in-Ok-clause-there g c = λ v told.
    let clears = c.clear_stage.ensures.works v told in
    let synced = c.in_ok-barrier.ensures.synced clears.left.0 clears.left.1 in
    let there = c.in-Ok.ensures.there (all_synced clears.left.0) synced in
    (there.0, there.1, config_shows c.in_ok-task.task there.0 c.in_ok-task.ensures there.2)

pub returns-in-Err-clause-fails : goal.returns-in-Err-clause-fails
returns-in-Err-clause-fails g c = λ v told.
    let clears = c.clear_stage.ensures.works v told in
    let u = clears.left.0 in
    let synced = c.in_ok-barrier.ensures.synced u clears.left.1 in
    put_interrupted c.in_ok-task.task (all_synced u) c.in-Err.error c.refused-in-Err.result c.in_ok-task.ensures
    (ap (λ d. shows d config_path) (synced_now u) ∙ none_cleared v u clears.left.2 (c.requires.none v told))
    (c.in-Err.ensures.fails (all_synced u) synced) (subst (λ p. IsRefusal p c.in-Err.error c.refused-in-Err.result) c.root.ensures c.refused-in-Err.ensures)
