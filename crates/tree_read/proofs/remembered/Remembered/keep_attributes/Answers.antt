use Rattle.std.proofs.Common.{refl, subst}
use Rattle.tree_read.specs.Remembered.{GainsMeta, Memory}
use Rattle.tree_read.proofs.Recalling.{map_more, of_folders_more}
use Rattle.tree_read.proofs.remembered.Remembered.keep_attributes.Goals as goal

pub invariant_of-self : goal.invariant_of-self
invariant_of-self c =
    of_folders_more c.self.inside.metas.entries c.insert.new.self.entries c.args.meta c.args.attributes
    (map_more c.args.meta c.args.attributes c.self.inside.metas.entries c.insert.new.self.entries c.insert.result c.insert.ensures.entries c.insert.ensures.err) c.self.invariant c.requires

pub returns : goal.returns
returns c =
    let now : Memory = record { trees = c.self.inside.trees.entries; metas = c.insert.new.self.entries; files = c.self.inside.files.keys } in
    subst (λ m. GainsMeta m now c.args.meta c.args.attributes) c.self.view_is
    (record {
      trees = refl;
      metas = map_more c.args.meta c.args.attributes c.self.inside.metas.entries c.insert.new.self.entries c.insert.result c.insert.ensures.entries c.insert.ensures.err;
      files = refl;
    })
