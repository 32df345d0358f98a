use Rattle.std.proofs.Common.{sym, ◌∙◌, ap}
use Rattle.fs_trait.specs.Image.{is_folder}
use Rattle.ref_room.proofs.Disks.{looked_nothing, looked_leaf}
use Rattle.sys_open.proofs.ManyWalks.{none_listed}
use Rattle.sys_open.proofs.ReachedPlaces.{leaf_no_folder}
use Rattle.sys_open.proofs.inside.names_in.Goals as goal

pub returns-in-Ok-Leaf-clause-told : goal.returns-in-Ok-Leaf-clause-told
returns-in-Ok-Leaf-clause-told g c = λ v told.
    none_listed v.now (g.met.F.Fs.tree c.args.fs.now v told) c.args.at.now c.new.result c.new.ensures (leaf_no_folder (v.now.at c.args.at.now) (looked_leaf (v.now.at c.args.at.now) (sym c.in-Ok-Leaf.field-0-is ∙ c.in-Ok-Leaf.ensures.told v told)))

pub returns-in-Ok-Nothing-clause-told : goal.returns-in-Ok-Nothing-clause-told
returns-in-Ok-Nothing-clause-told g c = λ v told.
    none_listed v.now (g.met.F.Fs.tree c.args.fs.now v told) c.args.at.now c.new-in-Ok-Nothing.result c.new-in-Ok-Nothing.ensures (ap is_folder (looked_nothing (v.now.at c.args.at.now) (sym c.in-Ok-Nothing.field-0-is ∙ c.in-Ok-Nothing.ensures.told v told)))
