use Rattle.std.proofs.Common.{None}
use Rattle.memory_table.proofs.Holding.{taken}
use Rattle.memory_table.proofs.Keyed.{updated}
use Rattle.memory_table.proofs.tree.Tree.take.Goals as goal

pub returns-in-Some-clause-below : goal.returns-in-Some-clause-below
returns-in-Some-clause-below g c = λ t x. taken c.args.self.now.folders c.remove.new.self c.args.folder.now t x (updated c.args.folder.now c.args.self.now.folders c.remove.new.self None c.in-Some.ensures.updates t)
