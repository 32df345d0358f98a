use Rattle.durable_list.proofs.Unwritten.{on_the_way}
use Rattle.durable_list.proofs.laws.lists_are_apart.Goals as goal

pub returns : goal.returns
returns c d rows p way = on_the_way d rows p way
