use Rattle.std.proofs.Common.{sym, subst}
use Rattle.std.proofs.lemmas.Result.{err_from_is_err_and}
use Rattle.fs_trait.proofs.Answering.{err_fails, err_writes, ok_after, ok_writes}
use Rattle.boot_swap.specs.Steps.{Needs, Refuses}
use Rattle.boot_swap.proofs.Making.{needs_at}
use Rattle.boot_swap.proofs.Refusing.{failed, no_memory, wrote_as}
use Rattle.boot_swap.proofs.Syncing.{folder_step_at, kept_folder}
use Rattle.boot_swap.proofs.task.SwapTask.sync_folder.Goals as goal

pub returns-in_err-sync_dir-clause-writes : goal.returns-in_err-sync_dir-clause-writes
returns-in_err-sync_dir-clause-writes g c = λ v told.
    let needs = needs_at _ _ _ v c.in-SyncFolder.is (subst (λ t. Needs t v) (sym c.self.view_is) (c.requires.needs v told)) in
    let at = kept_folder _ _ _ c.in-Some.folder c.in-SyncFolder.is c.self.invariant.0 c.in-Some.is in
    wrote_as _ _ _ _ c.self.view_is c.in-SyncFolder.is v _
    (err_writes _ _ v _ _ (folder_step_at _ _ v c.in-Some.folder at (g.met.F.Fs.tree c.args.fs.now v told) needs) _ _ (c.in_err-sync_dir.ensures.effect v told))

pub returns-in_err-sync_dir-clause-fails : goal.returns-in_err-sync_dir-clause-fails
returns-in_err-sync_dir-clause-fails g c = λ v told.
    let needs = needs_at _ _ _ v c.in-SyncFolder.is (subst (λ t. Needs t v) (sym c.self.view_is) (c.requires.needs v told)) in
    let at = kept_folder _ _ _ c.in-Some.folder c.in-SyncFolder.is c.self.invariant.0 c.in-Some.is in
    let error = err_from_is_err_and c.from_residual.result c.from_residual.ensures.1 in
    rw (error.1, error.2) (err_fails _ _ v _ _ (folder_step_at _ _ v c.in-Some.folder at (g.met.F.Fs.tree c.args.fs.now v told) needs)
    (Refuses c.args.self.now v) (failed c.args.self.now.phase v) (no_memory c.args.self.now.phase v) _ _ (c.in_err-sync_dir.ensures.effect v told))

pub returns-clause-writes : goal.returns-clause-writes
returns-clause-writes g c = λ v told.
    let needs = needs_at _ _ _ v c.in-SyncFolder.is (subst (λ t. Needs t v) (sym c.self.view_is) (c.requires.needs v told)) in
    let at = kept_folder _ _ _ c.in-Some.folder c.in-SyncFolder.is c.self.invariant.0 c.in-Some.is in
    wrote_as _ _ _ _ c.self.view_is c.in-SyncFolder.is v _
    (ok_writes _ _ v _ _ (folder_step_at _ _ v c.in-Some.folder at (g.met.F.Fs.tree c.args.fs.now v told) needs) _ (c.in_ok-sync_dir.ensures.effect v told))

pub returns-clause-after : goal.returns-clause-after
returns-clause-after g c = λ v told.
    let needs = needs_at _ _ _ v c.in-SyncFolder.is (subst (λ t. Needs t v) (sym c.self.view_is) (c.requires.needs v told)) in
    let at = kept_folder _ _ _ c.in-Some.folder c.in-SyncFolder.is c.self.invariant.0 c.in-Some.is in
    ok_after _ _ v _ _ (folder_step_at _ _ v c.in-Some.folder at (g.met.F.Fs.tree c.args.fs.now v told) needs) _ (c.in_ok-sync_dir.ensures.effect v told)
