use Rattle.std.proofs.Common.{sym, ◌∙◌, ap, subst}
use Rattle.std.proofs.lemmas.Result.{err_from_is_err_and}
use Rattle.host_edit.specs.Editing.{Editing}
use Rattle.host_edit.specs.Steps.{Needs}
use Rattle.host_edit.proofs.Telling.{told_err, told_more}
use Rattle.host_edit.proofs.Changing.{ready, replace}
use Rattle.host_edit.proofs.task.EditTask.replace.Goals as goal

pub rename-requires : goal.rename-requires
rename-requires g c = λ v now.
    let told = sym c.in_ok-reserve.ensures.quiet.view ∙ now in
    let needs = subst (λ t. Needs t v) (sym c.self.view_is) (c.requires.needs v told) in
    let is = ap (λ (t : Editing). t.phase) c.self.view_is ∙ c.requires.phase in
    let tree = g.met.F.Fs.tree c.args.fs.now v told in
    (ready _ v tree needs is).two_inodes

pub returns-in_err-rename-clause-told : goal.returns-in_err-rename-clause-told
returns-in_err-rename-clause-told g c = λ v told.
    let needs = subst (λ t. Needs t v) (sym c.self.view_is) (c.requires.needs v told) in
    let is = ap (λ (t : Editing). t.phase) c.self.view_is ∙ c.requires.phase in
    let tree = g.met.F.Fs.tree c.args.fs.now v told in
    let error = err_from_is_err_and c.from_residual-in_err-rename.result c.from_residual-in_err-rename.ensures.1 in
    rw (error.1, error.2) (told_err _ _ c.self.view_is v _ _ _ (replace _ v tree needs is) _ _ (c.in_err-rename.ensures.effect v (c.in_ok-reserve.ensures.quiet.view ∙ told)))

pub returns-clause-told : goal.returns-clause-told
returns-clause-told g c = λ v told.
    let needs = subst (λ t. Needs t v) (sym c.self.view_is) (c.requires.needs v told) in
    let is = ap (λ (t : Editing). t.phase) c.self.view_is ∙ c.requires.phase in
    let tree = g.met.F.Fs.tree c.args.fs.now v told in
    told_more _ _ c.self.view_is v _ _ _ (replace _ v tree needs is) _ is tt _ (c.in_ok-rename.ensures.effect v (c.in_ok-reserve.ensures.quiet.view ∙ told))
