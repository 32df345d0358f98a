use Rattle.std.proofs.Common.{sym, ◌∙◌, ap, subst}
use Rattle.std.proofs.lemmas.Result.{err_from_is_err_and}
use Rattle.fs_trait.proofs.Answering.{ok_writes, ok_after, err_writes, err_fails}
use Rattle.staged_file.specs.Staged.{Staged}
use Rattle.staged_file.specs.Steps.{Needs, Refuses}
use Rattle.staged_file.proofs.StepLemmas.{as_is, sync_folder}
use Rattle.staged_file.proofs.staged.StagedFile.sync_folder.Goals as goal

pub returns-in_err-sync_dir-clause-writes : goal.returns-in_err-sync_dir-clause-writes
returns-in_err-sync_dir-clause-writes g c = λ v told.
    let needs = subst (λ t. Needs t v) (sym c.self.view_is) (c.requires.needs v told) in
    let phase = ap (λ (t : Staged). t.phase) c.self.view_is ∙ c.requires.phase in
    err_writes _ _ v _ _ (as_is _ _ c.self.view_is v _ _ _ (sync_folder _ v (g.met.F.Fs.tree c.args.fs.now v told) needs phase)) _ _ (c.in_err-sync_dir.ensures.effect v told)

pub returns-in_err-sync_dir-clause-fails : goal.returns-in_err-sync_dir-clause-fails
returns-in_err-sync_dir-clause-fails g c = λ v told.
    let needs = subst (λ t. Needs t v) (sym c.self.view_is) (c.requires.needs v told) in
    let phase = ap (λ (t : Staged). t.phase) c.self.view_is ∙ c.requires.phase in
    let error = err_from_is_err_and c.from_residual.result c.from_residual.ensures.1 in
    rw (error.1, error.2) (err_fails _ _ v _ _ (sync_folder _ v (g.met.F.Fs.tree c.args.fs.now v told) needs phase) (Refuses c.args.self.now v) tt tt _ _ (c.in_err-sync_dir.ensures.effect v told))

pub returns-clause-writes : goal.returns-clause-writes
returns-clause-writes g c = λ v told.
    let needs = subst (λ t. Needs t v) (sym c.self.view_is) (c.requires.needs v told) in
    let phase = ap (λ (t : Staged). t.phase) c.self.view_is ∙ c.requires.phase in
    ok_writes _ _ v _ _ (as_is _ _ c.self.view_is v _ _ _ (sync_folder _ v (g.met.F.Fs.tree c.args.fs.now v told) needs phase)) _ (c.in_ok-sync_dir.ensures.effect v told)

pub returns-clause-after : goal.returns-clause-after
returns-clause-after g c = λ v told.
    let needs = subst (λ t. Needs t v) (sym c.self.view_is) (c.requires.needs v told) in
    let phase = ap (λ (t : Staged). t.phase) c.self.view_is ∙ c.requires.phase in
    ok_after _ _ v _ _ (sync_folder _ v (g.met.F.Fs.tree c.args.fs.now v told) needs phase) _ (c.in_ok-sync_dir.ensures.effect v told)
