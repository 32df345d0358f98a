use Rattle.std.proofs.Common.{refl, sym, ◌∙◌}
use Rattle.ref_room.proofs.Disks.{looked_nothing, looked_folder, looked_leaf}
use Rattle.layout_rules.specs.declared.rule.Rule.TheVariants.{NoFolder}
use Rattle.layout_rules.proofs.Suiting.{absent_suits}
use Rattle.sys_open.proofs.FolderLemmas.{folder_suits_not, leaf_no_folder_there, damaged_kind}
use Rattle.sys_open.proofs.kinds.check_no_folder.Goals as goal

pub returns-in-Ok-Nothing-clause-told : goal.returns-in-Ok-Nothing-clause-told
returns-in-Ok-Nothing-clause-told g c = λ v told.
    absent_suits NoFolder (v.now.at c.args.at.now) (looked_nothing (v.now.at c.args.at.now) (sym c.in-Ok-Nothing.field-0-is ∙ c.in-Ok-Nothing.ensures.told v told))

pub returns-in-Ok-Folder-clause-told : goal.returns-in-Ok-Folder-clause-told
returns-in-Ok-Folder-clause-told g c = λ v told.
    let folder = looked_folder v.now (v.now.at c.args.at.now) (sym c.in-Ok-Folder.field-0-is ∙ c.in-Ok-Folder.ensures.told v told) in
    damaged_kind (Unit {0}) _ c.args.at.now c.args.at.now c.damaged.result refl c.damaged.ensures (folder_suits_not v.now (v.now.at c.args.at.now) folder)

pub returns-in-Ok-Leaf-clause-told : goal.returns-in-Ok-Leaf-clause-told
returns-in-Ok-Leaf-clause-told g c = λ v told.
    leaf_no_folder_there (v.now.at c.args.at.now) (looked_leaf (v.now.at c.args.at.now) (sym c.in-Ok-Leaf.field-0-is ∙ c.in-Ok-Leaf.ensures.told v told))
