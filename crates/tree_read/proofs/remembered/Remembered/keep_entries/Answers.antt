use Rattle.std.proofs.Common.{refl, subst}
use Rattle.tree_read.specs.Remembered.{GainsTree, Memory}
use Rattle.tree_read.proofs.Recalling.{map_more}
use Rattle.tree_read.proofs.remembered.Remembered.keep_entries.Goals as goal

pub returns : goal.returns
returns c =
    let now : Memory = record { trees = c.insert.new.self.entries; metas = c.self.inside.metas.entries; files = c.self.inside.files.keys } in
    subst (λ m. GainsTree m now c.args.tree c.args.entries) c.self.view_is
    (record {
      trees = map_more c.args.tree c.args.entries c.self.inside.trees.entries c.insert.new.self.entries c.insert.result c.insert.ensures.entries c.insert.ensures.err;
      metas = refl;
      files = refl;
    })
