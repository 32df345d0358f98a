use Rattle.std.proofs.Common.{sym, ◌∙◌, ap, subst}
use Rattle.host_edit.specs.Editing.{Editing}
use Rattle.host_edit.specs.Steps.{Needs}
use Rattle.host_edit.proofs.Judging.{looks_on}
use Rattle.host_edit.proofs.Telling.{told_on}
use Rattle.host_edit.proofs.task.EditTask.look.Goals as goal

pub returns-in-Goes-clause-told : goal.returns-in-Goes-clause-told
returns-in-Goes-clause-told g c = λ v told.
    let needs = subst (λ t. Needs t v) (sym c.self.view_is) (c.requires.needs v told) in
    let is = ap (λ (t : Editing). t.phase) c.self.view_is ∙ c.requires.phase in
    let on = looks_on _ v needs is c.in_ok-there.there (c.in_ok-there.ensures.told v told) c.in-Goes.phase (sym c.judge.ensures ∙ c.in-Goes.is) in
    told_on _ _ c.self.view_is v _ on.0 _ is on.1 _ (c.in_ok-there.ensures.quiet.view ∙ told)
