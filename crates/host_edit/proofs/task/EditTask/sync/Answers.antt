use Rattle.std.proofs.Common.{Ok, sym, ◌∙◌, ap, subst}
use Rattle.std.proofs.lemmas.Result.{err_from_is_err_and}
use Rattle.fs_trait.specs.declared.task.StepResult.TheVariants.{Done}
use Rattle.host_edit.specs.Editing.{Editing}
use Rattle.host_edit.specs.Steps.{Needs}
use Rattle.host_edit.proofs.Telling.{told_err, told_ok}
use Rattle.host_edit.proofs.Changing.{sync}
use Rattle.host_edit.proofs.task.EditTask.sync.Goals as goal

pub returns-in_err-sync_dir-clause-told : goal.returns-in_err-sync_dir-clause-told
returns-in_err-sync_dir-clause-told g c = λ v told.
    let needs = subst (λ t. Needs t v) (sym c.self.view_is) (c.requires.needs v told) in
    let is = ap (λ (t : Editing). t.phase) c.self.view_is ∙ c.requires.phase in
    let tree = g.met.F.Fs.tree c.args.fs.now v told in
    let error = err_from_is_err_and c.from_residual.result c.from_residual.ensures.1 in
    rw (error.1, error.2) (told_err _ _ c.self.view_is v _ _ _ (sync _ v tree needs _ c.self.invariant.0 is) _ _ (c.in_err-sync_dir.ensures.effect v (told)))

pub returns-clause-told : goal.returns-clause-told
returns-clause-told g c = λ v told.
    let needs = subst (λ t. Needs t v) (sym c.self.view_is) (c.requires.needs v told) in
    let is = ap (λ (t : Editing). t.phase) c.self.view_is ∙ c.requires.phase in
    let tree = g.met.F.Fs.tree c.args.fs.now v told in
    told_ok _ _ c.self.view_is v _ _ _ (sync _ v tree needs _ c.self.invariant.0 is) (Done (Ok tt)) tt _ (c.in_ok-sync_dir.ensures.effect v (told))
