use Rattle.std.proofs.Common.{sym, ◌∙◌, ap, subst}
use Rattle.std.proofs.lemmas.Result.{err_from_is_err_and}
use Rattle.fs_trait.proofs.Answering.{ok_writes, ok_after, err_writes, err_fails}
use Rattle.ref_store.specs.Change.{Change}
use Rattle.ref_store.specs.Steps.{Needs, Refuses}
use Rattle.ref_store.proofs.StepLemmas.{is_unlink, unlink, as_is, failed, no_memory}
use Rattle.ref_store.proofs.task.RefTask.unlink.Goals as goal

pub returns-in_err-unlink-clause-writes : goal.returns-in_err-unlink-clause-writes
returns-in_err-unlink-clause-writes g c = λ v told.
    let needs = subst (λ t. Needs t v) (sym c.self.view_is) (c.requires.needs v told) in
    let phase = ap (λ (t : Change). t.phase) c.self.view_is ∙ is_unlink _ c.requires.phase in
    err_writes _ _ v _ _ (as_is _ _ c.self.view_is v _ _ _ (unlink _ v (g.met.F.Fs.tree c.args.fs.now v told) needs _ c.in_ok-at.ensures phase)) _ _
    (c.in_err-unlink.ensures.effect v (c.in_ok-reserve.ensures.quiet.view ∙ told))

pub returns-in_err-unlink-clause-fails : goal.returns-in_err-unlink-clause-fails
returns-in_err-unlink-clause-fails g c = λ v told.
    let needs = subst (λ t. Needs t v) (sym c.self.view_is) (c.requires.needs v told) in
    let phase = ap (λ (t : Change). t.phase) c.self.view_is ∙ is_unlink _ c.requires.phase in
    let error = err_from_is_err_and c.from_residual-in_err-unlink.result c.from_residual-in_err-unlink.ensures.1 in
    rw (error.1, error.2) (err_fails _ _ v _ _ (unlink _ v (g.met.F.Fs.tree c.args.fs.now v told) needs _ c.in_ok-at.ensures phase) (Refuses c.args.self.now v)
    (failed c.args.self.now.phase c.args.self.now v) (no_memory c.args.self.now.phase c.args.self.now v) _ _ (c.in_err-unlink.ensures.effect v (c.in_ok-reserve.ensures.quiet.view ∙ told)))

pub returns-clause-writes : goal.returns-clause-writes
returns-clause-writes g c = λ v told.
    let needs = subst (λ t. Needs t v) (sym c.self.view_is) (c.requires.needs v told) in
    let phase = ap (λ (t : Change). t.phase) c.self.view_is ∙ is_unlink _ c.requires.phase in
    ok_writes _ _ v _ _ (as_is _ _ c.self.view_is v _ _ _ (unlink _ v (g.met.F.Fs.tree c.args.fs.now v told) needs _ c.in_ok-at.ensures phase)) _
    (c.in_ok-unlink.ensures.effect v (c.in_ok-reserve.ensures.quiet.view ∙ told))

pub returns-clause-after : goal.returns-clause-after
returns-clause-after g c = λ v told.
    let needs = subst (λ t. Needs t v) (sym c.self.view_is) (c.requires.needs v told) in
    let phase = ap (λ (t : Change). t.phase) c.self.view_is ∙ is_unlink _ c.requires.phase in
    ok_after _ _ v _ _ (unlink _ v (g.met.F.Fs.tree c.args.fs.now v told) needs _ c.in_ok-at.ensures phase) _
    (c.in_ok-unlink.ensures.effect v (c.in_ok-reserve.ensures.quiet.view ∙ told))
