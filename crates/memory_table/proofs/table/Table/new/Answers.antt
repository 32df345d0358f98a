use Rattle.memory_table.proofs.Tying.{Ties-new}
use Rattle.memory_table.proofs.table.Table.new.Goals as goal

pub returns : goal.returns
returns c = λ d root below. Ties-new _ d c.args.root c.new.ensures c.new-2.ensures.empty root below
