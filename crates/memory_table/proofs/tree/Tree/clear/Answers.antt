use Rattle.memory_table.proofs.Holding.{Holds-clear}
use Rattle.memory_table.proofs.tree.Tree.clear.Goals as goal

pub returns : goal.returns
returns g c = λ h holds. Holds-clear c.args.self.now c.take.new.self c.args.folder.now c.text.result.now h c.text.ensures.names c.text.ensures.value c.take.ensures.root c.take.ensures.below holds
