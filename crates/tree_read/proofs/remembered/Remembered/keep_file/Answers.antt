use Rattle.std.proofs.Common.{refl, subst}
use Rattle.tree_read.specs.Remembered.{GainsFile, Memory}
use Rattle.tree_read.proofs.Recalling.{set_more}
use Rattle.tree_read.proofs.remembered.Remembered.keep_file.Goals as goal

pub returns : goal.returns
returns c =
    let now : Memory = record { trees = c.self.inside.trees.entries; metas = c.self.inside.metas.entries; files = c.insert.new.self.keys } in
    subst (λ m. GainsFile m now c.args.file) c.self.view_is
    (record { trees = refl; metas = refl; files = set_more c.args.file c.self.inside.files.keys c.insert.new.self.keys c.insert.result c.insert.ensures.keys c.insert.ensures.err })
