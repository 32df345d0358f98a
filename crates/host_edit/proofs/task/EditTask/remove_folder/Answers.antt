use Rattle.std.proofs.Common.{sym, ◌∙◌, ap, subst}
use Rattle.std.proofs.lemmas.Result.{err_from_is_err_and}
use Rattle.host_edit.specs.Editing.{Editing}
use Rattle.host_edit.specs.Steps.{Needs}
use Rattle.host_edit.proofs.Telling.{told_err, told_more}
use Rattle.host_edit.proofs.Changing.{remove_folder}
use Rattle.host_edit.proofs.task.EditTask.remove_folder.Goals as goal

pub returns-in_err-rmdir-clause-told : goal.returns-in_err-rmdir-clause-told
returns-in_err-rmdir-clause-told g c = λ v told.
    let needs = subst (λ t. Needs t v) (sym c.self.view_is) (c.requires.needs v told) in
    let is = ap (λ (t : Editing). t.phase) c.self.view_is ∙ c.requires.phase in
    let tree = g.met.F.Fs.tree c.args.fs.now v told in
    let error = err_from_is_err_and c.from_residual-in_err-rmdir.result c.from_residual-in_err-rmdir.ensures.1 in
    rw (error.1, error.2) (told_err _ _ c.self.view_is v _ _ _ (remove_folder _ v tree needs is (c.in_err-rmdir.ensures.effect v (c.in_ok-reserve.ensures.quiet.view ∙ told)).0 (c.in_err-rmdir.ensures.effect v (c.in_ok-reserve.ensures.quiet.view ∙ told)).1) _ _ (c.in_err-rmdir.ensures.effect v (c.in_ok-reserve.ensures.quiet.view ∙ told)).2)

pub returns-clause-told : goal.returns-clause-told
returns-clause-told g c = λ v told.
    let needs = subst (λ t. Needs t v) (sym c.self.view_is) (c.requires.needs v told) in
    let is = ap (λ (t : Editing). t.phase) c.self.view_is ∙ c.requires.phase in
    let tree = g.met.F.Fs.tree c.args.fs.now v told in
    told_more _ _ c.self.view_is v _ _ _ (remove_folder _ v tree needs is (c.in_ok-rmdir.ensures.effect v (c.in_ok-reserve.ensures.quiet.view ∙ told)).0 (c.in_ok-rmdir.ensures.effect v (c.in_ok-reserve.ensures.quiet.view ∙ told)).1) _ is tt _ (c.in_ok-rmdir.ensures.effect v (c.in_ok-reserve.ensures.quiet.view ∙ told)).2
