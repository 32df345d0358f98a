use Rattle.std.proofs.Common.{sym, ◌∙◌, ap, subst}
use Rattle.host_edit.specs.Editing.{Editing}
use Rattle.host_edit.specs.Steps.{Needs}
use Rattle.host_edit.proofs.Changing.{stage_needs}
use Rattle.host_edit.proofs.task.EditTask.stage.Goals as goal

pub step-requires : goal.step-requires
step-requires g c = λ v told.
    let needs = subst (λ t. Needs t v) (sym c.self.view_is) (c.requires.needs v told) in
    let is = ap (λ (t : Editing). t.phase) c.self.view_is ∙ c.requires.phase in
    stage_needs _ v (g.met.F.Fs.tree c.args.fs.now v told) needs _ c.in-File.is is
