use Rattle.std.proofs.Common.{sym, ◌∙◌, ap, subst}
use Rattle.std.proofs.lemmas.Result.{err_from_is_err_and}
use Rattle.staging.proofs.StepLemmas.{looked_none, looked_some}
use Rattle.host_edit.specs.Editing.{Editing}
use Rattle.host_edit.specs.Steps.{Needs}
use Rattle.host_edit.proofs.Changing.{clear, clear_vacant}
use Rattle.host_edit.proofs.Telling.{told_err, told_more, told_on}
use Rattle.host_edit.proofs.task.EditTask.clear.Goals as goal
use Rattle.host_edit.proofs.task.EditTask.clear.Goals.{then-is_some+in_ok-unlink, else-is_some}

pub returns-in_err-unlink-clause-told : goal.returns-in_err-unlink-clause-told
returns-in_err-unlink-clause-told g c = λ v told.
    let needs = subst (λ t. Needs t v) (sym c.self.view_is) (c.requires.needs v told) in
    let is = ap (λ (t : Editing). t.phase) c.self.view_is ∙ c.requires.phase in
    let tree = g.met.F.Fs.tree c.args.fs.now v told in
    let there = looked_some v.now _ _ (c.in_ok-stat.ensures.answer v told).1 (sym c.if-is_some.ensures) in
    let error = err_from_is_err_and c.from_residual-in_err-unlink.result c.from_residual-in_err-unlink.ensures.1 in
    rw (error.1, error.2) (told_err _ _ c.self.view_is v _ _ _ (clear _ v tree needs is there) _ _ (c.in_err-unlink.ensures.effect v (c.in_ok-stat.ensures.quiet.view ∙ told)))

pub returns-clause-told : goal.returns-clause-told
returns-clause-told g c = λ v told.
    let needs = subst (λ t. Needs t v) (sym c.self.view_is) (c.requires.needs v told) in
    let is = ap (λ (t : Editing). t.phase) c.self.view_is ∙ c.requires.phase in
    let tree = g.met.F.Fs.tree c.args.fs.now v told in
    let node = (c.in_ok-stat.ensures.answer v told).1 in
    let still = c.in_ok-stat.ensures.quiet.view ∙ told in
    elim c.if-is_some.branch [
      | then-is_some+in_ok-unlink w ↦ rw w.fs-is
          (told_more _ _ c.self.view_is v _ _ _ (clear _ v tree needs is (looked_some v.now _ _ node (sym w.if-is_some.ensures))) _ is tt _ (w.in_ok-unlink.ensures.effect v still))
      | else-is_some w ↦ rw w.fs-is
          (told_on _ _ c.self.view_is v _ (clear_vacant _ v tree needs is (looked_none v.now _ _ node (sym w.if-is_some.ensures))) _ is tt _ still)
    ]
