use Rattle.memory_table.proofs.table.Table.value.Goals as goal

pub returns : goal.returns
returns c = λ d p ties names is. c.get.ensures _ p ties.names names is
