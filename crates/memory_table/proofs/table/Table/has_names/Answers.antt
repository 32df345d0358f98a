use Rattle.memory_table.proofs.Tying.{named_any}
use Rattle.memory_table.proofs.table.Table.has_names.Goals as goal

pub returns : goal.returns
returns c = λ d ties below. named_any _ d _ below (c.has_names.ensures _ ties.names)
