use Rattle.std.proofs.Common.{sym, subst}
use Rattle.std.proofs.lemmas.Result.{err_from_is_err_and}
use Rattle.commit_build.specs.Steps.{Needs, Refuses}
use Rattle.fs_trait.proofs.Answering.{ok_writes, ok_after, err_writes, err_fails, err_unchanged}
use Rattle.commit_build.proofs.PhaseSteps.{as_is, sync_state_at}
use Rattle.commit_build.proofs.task.CommitTask.sync_state.Goals as goal

pub returns-in_err-sync_dir-clause-writes : goal.returns-in_err-sync_dir-clause-writes
returns-in_err-sync_dir-clause-writes g c = λ v told.
    let needs = subst (λ t. Needs t v) (sym c.self.view_is) (c.requires.needs v told) in
    let step = sync_state_at _ v (g.met.F.Fs.tree c.args.fs.now v told) needs c.in-SyncState.commit _ c.in_ok-state.ensures c.in-SyncState.is in
    err_writes _ _ v _ _ (as_is _ _ c.self.view_is v _ _ _ step) _ _ (c.in_err-sync_dir.ensures.effect v told)

pub returns-in_err-sync_dir-clause-fails : goal.returns-in_err-sync_dir-clause-fails
returns-in_err-sync_dir-clause-fails g c = λ v told.
    let needs = subst (λ t. Needs t v) (sym c.self.view_is) (c.requires.needs v told) in
    let step = sync_state_at _ v (g.met.F.Fs.tree c.args.fs.now v told) needs c.in-SyncState.commit _ c.in_ok-state.ensures c.in-SyncState.is in
    let error = err_from_is_err_and c.from_residual-in_err-sync_dir.result c.from_residual-in_err-sync_dir.ensures.1 in
    rw (error.1, error.2) (err_fails _ _ v _ _ step (Refuses c.args.self.now v) tt tt _ _ (c.in_err-sync_dir.ensures.effect v told))

pub returns-in_err-sync_dir-clause-unchanged : goal.returns-in_err-sync_dir-clause-unchanged
returns-in_err-sync_dir-clause-unchanged g c = λ v told.
    let error = err_from_is_err_and c.from_residual-in_err-sync_dir.result c.from_residual-in_err-sync_dir.ensures.1 in
    rw (error.1, error.2) (λ is. err_unchanged _ _ _ _ _ (c.in_err-sync_dir.ensures.effect v told) is)

pub returns-clause-writes : goal.returns-clause-writes
returns-clause-writes g c = λ v told.
    let needs = subst (λ t. Needs t v) (sym c.self.view_is) (c.requires.needs v told) in
    let step = sync_state_at _ v (g.met.F.Fs.tree c.args.fs.now v told) needs c.in-SyncState.commit _ c.in_ok-state.ensures c.in-SyncState.is in
    ok_writes _ _ v _ _ (as_is _ _ c.self.view_is v _ _ _ step) _ (c.in_ok-sync_dir.ensures.effect v told)

pub returns-clause-after : goal.returns-clause-after
returns-clause-after g c = λ v told.
    let needs = subst (λ t. Needs t v) (sym c.self.view_is) (c.requires.needs v told) in
    let step = sync_state_at _ v (g.met.F.Fs.tree c.args.fs.now v told) needs c.in-SyncState.commit _ c.in_ok-state.ensures c.in-SyncState.is in
    ok_after _ _ v _ _ step _ (c.in_ok-sync_dir.ensures.effect v told)

pub returns-clause-tells : goal.returns-clause-tells
returns-clause-tells g c = λ count v told. (_, (c.in_ok-sync_dir.ensures.effect v told).1, tt)
