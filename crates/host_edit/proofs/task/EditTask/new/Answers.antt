use Rattle.std.proofs.Common.{◌≤◌, ◌++◌, length, sym, ◌∙◌, ap, subst}
use Rattle.ost_types.specs.Path.{AreNames, Path, text_of}
use Rattle.host_edit.specs.Editing.{change_of}
use Rattle.host_edit.specs.declared.change.Change.{Change}
use Rattle.host_edit.proofs.Olds.{made_as}
use Rattle.host_edit.proofs.Places.{joined_path}
use Rattle.host_edit.proofs.task.EditTask.new.Goals as goal

pub join-requires : goal.join-requires
join-requires c =
    let path = ap (λ (x : Path × Change). x.0) c.parts_of-path.ensures in
    joined_path c.args.etc.now c.parts_of-path.result.0
    (subst AreNames c.names-etc_names.ensures.value c.names-etc_names.ensures.path.names)
    (subst AreNames c.names-path_names.ensures.value c.names-path_names.ensures.path.names)
    (subst (λ p. length (c.args.etc.now ++ p) ≤ 64) (sym path) c.requires.few)
    (subst (λ p. length (text_of (c.args.etc.now ++ p)) ≤ 1024) (sym path) c.requires.short)

pub invariant_of-result : goal.invariant_of-result
invariant_of-result c = (
  c.in_ok-folder.ensures,
  made_as c.args.stage c.args.etc.now c.args.edit c.requires c.in_ok-at.at c.parts_of-path.result.0 c.parts_of-path.result.1 c.first_phase-phase.result c.in_ok-at.ensures
      (ap (λ (x : Path × Change). x.0) c.parts_of-path.ensures)
      (ap (λ (x : Path × Change). x.1) c.parts_of-path.ensures ∙ ap (λ s. change_of s c.args.edit) c.in_ok-copy.ensures)
      c.first_phase-phase.ensures,
)
