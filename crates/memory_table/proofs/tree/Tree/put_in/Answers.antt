use Rattle.std.proofs.Common.{Some}
use Rattle.memory_table.specs.Tree.{look}
use Rattle.memory_table.proofs.Holding.{replaced}
use Rattle.memory_table.proofs.Keyed.{updated_at}
use Rattle.memory_table.proofs.tree.Tree.put_in.Goals as goal

pub returns-clause-below : goal.returns-clause-below
returns-clause-below g c = replaced (look c.args.self.now) c.args.folder.now c.args.name.now (Some c.args.value) c.take-names.result c.insert.new.self c.take-names.new.self.folders c.insert-2.new.self c.take-names.ensures.here c.take-names.ensures.below
    c.in_ok-insert.ensures (updated_at _ _ c.take-names.new.self.folders c.insert-2.new.self _ c.in_ok-from_slice.ensures.items c.in_ok-insert-2.ensures.updates)
