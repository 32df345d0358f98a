use Rattle.memory_table.proofs.Tying.{listing, if_ok}
use Rattle.memory_table.proofs.table.Table.names_in.Goals as goal

pub returns : goal.returns
returns c = if_ok c.names_in.result _ _ (λ ns are d ties. listing d _ ns (are _ ties.names)) c.names_in.ensures
