use Rattle.std.proofs.Common.{sym, ◌∙◌}
use Rattle.ref_room.specs.declared.stands.Stands.TheVariants as stand
use Rattle.host_edit.proofs.Looking.{found, has_parent, lacks_parent}
use Rattle.host_edit.proofs.there.look_above.Goals as goal

pub returns-in-Folder-clause-told : goal.returns-in-Folder-clause-told
returns-in-Folder-clause-told g c = λ v told. (
  has_parent v.now c.args.folder.now c.args.at.now c.requires.inside (found v.now c.args.folder.now stand.Folder (sym (c.in_ok-look_at.ensures.told v told) ∙ c.in-Folder.is)).1,
  (found v.now c.args.at.now stand.Nothing (c.requires.nothing v told)).1,
)

pub returns-in-Nothing-clause-told : goal.returns-in-Nothing-clause-told
returns-in-Nothing-clause-told g c = λ v told.
    lacks_parent v.now c.args.folder.now c.args.at.now c.requires.inside (found v.now c.args.folder.now stand.Nothing (sym (c.in_ok-look_at.ensures.told v told) ∙ c.in-Nothing.is)).2

pub returns-in-Leaf-clause-told : goal.returns-in-Leaf-clause-told
returns-in-Leaf-clause-told g c = λ v told.
    lacks_parent v.now c.args.folder.now c.args.at.now c.requires.inside (found v.now c.args.folder.now stand.Leaf (sym (c.in_ok-look_at.ensures.told v told) ∙ c.in-Leaf.is)).2
