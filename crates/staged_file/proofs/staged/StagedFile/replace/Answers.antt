use Rattle.std.proofs.Common.{sym, ◌∙◌, ap, subst}
use Rattle.std.proofs.lemmas.Result.{err_from_is_err_and}
use Rattle.fs_trait.proofs.Answering.{ok_writes, ok_after, err_writes, err_fails}
use Rattle.staged_file.specs.Staged.{Staged}
use Rattle.staged_file.specs.Steps.{Needs, Refuses}
use Rattle.staged_file.proofs.StepLemmas.{as_is, replace, two_inodes}
use Rattle.staged_file.proofs.staged.StagedFile.replace.Goals as goal

pub rename-requires : goal.rename-requires
rename-requires g c = λ v now.
    let told = sym c.in_ok-reserve.ensures.quiet.view ∙ now in
    let needs = subst (λ t. Needs t v) (sym c.self.view_is) (c.requires.needs v told) in
    let phase = ap (λ (t : Staged). t.phase) c.self.view_is ∙ c.requires.phase in
    two_inodes _ v (g.met.F.Fs.tree c.args.fs.now v told) needs _ c.stage.ensures phase

pub returns-in_err-rename-clause-writes : goal.returns-in_err-rename-clause-writes
returns-in_err-rename-clause-writes g c = λ v told.
    let needs = subst (λ t. Needs t v) (sym c.self.view_is) (c.requires.needs v told) in
    let phase = ap (λ (t : Staged). t.phase) c.self.view_is ∙ c.requires.phase in
    err_writes _ _ v _ _ (as_is _ _ c.self.view_is v _ _ _ (replace _ v (g.met.F.Fs.tree c.args.fs.now v told) needs _ c.stage.ensures phase)) _ _ (c.in_err-rename.ensures.effect v (c.in_ok-reserve.ensures.quiet.view ∙ told))

pub returns-in_err-rename-clause-fails : goal.returns-in_err-rename-clause-fails
returns-in_err-rename-clause-fails g c = λ v told.
    let needs = subst (λ t. Needs t v) (sym c.self.view_is) (c.requires.needs v told) in
    let phase = ap (λ (t : Staged). t.phase) c.self.view_is ∙ c.requires.phase in
    let error = err_from_is_err_and c.from_residual-in_err-rename.result c.from_residual-in_err-rename.ensures.1 in
    rw (error.1, error.2) (err_fails _ _ v _ _ (replace _ v (g.met.F.Fs.tree c.args.fs.now v told) needs _ c.stage.ensures phase) (Refuses c.args.self.now v) tt tt _ _ (c.in_err-rename.ensures.effect v (c.in_ok-reserve.ensures.quiet.view ∙ told)))

pub returns-clause-writes : goal.returns-clause-writes
returns-clause-writes g c = λ v told.
    let needs = subst (λ t. Needs t v) (sym c.self.view_is) (c.requires.needs v told) in
    let phase = ap (λ (t : Staged). t.phase) c.self.view_is ∙ c.requires.phase in
    ok_writes _ _ v _ _ (as_is _ _ c.self.view_is v _ _ _ (replace _ v (g.met.F.Fs.tree c.args.fs.now v told) needs _ c.stage.ensures phase)) _ (c.in_ok-rename.ensures.effect v (c.in_ok-reserve.ensures.quiet.view ∙ told))

pub returns-clause-after : goal.returns-clause-after
returns-clause-after g c = λ v told.
    let needs = subst (λ t. Needs t v) (sym c.self.view_is) (c.requires.needs v told) in
    let phase = ap (λ (t : Staged). t.phase) c.self.view_is ∙ c.requires.phase in
    ok_after _ _ v _ _ (replace _ v (g.met.F.Fs.tree c.args.fs.now v told) needs _ c.stage.ensures phase) _ (c.in_ok-rename.ensures.effect v (c.in_ok-reserve.ensures.quiet.view ∙ told))
