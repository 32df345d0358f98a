use Rattle.std.proofs.Common.{None, ◌∙◌}
use Rattle.memory_table.specs.Tree.{look}
use Rattle.memory_table.proofs.Holding.{replaced}
use Rattle.memory_table.proofs.Keyed.{updated_at}
use Rattle.memory_table.proofs.tree.Tree.take_in.Goals as goal

pub returns-clause-below : goal.returns-clause-below
returns-clause-below g c = replaced (look c.args.self.now) c.args.folder.now c.args.name.now None c.take-names.result c.remove-value.new.self c.take-names.new.self.folders c.insert.new.self c.take-names.ensures.here c.take-names.ensures.below
    c.remove-value.ensures.updates (updated_at _ _ c.take-names.new.self.folders c.insert.new.self _ c.in_ok-from_slice.ensures.items c.in_ok-insert.ensures.updates)

pub returns-clause-value : goal.returns-clause-value
returns-clause-value g c = c.remove-value.ensures.value ∙ c.take-names.ensures.here c.args.name.now
