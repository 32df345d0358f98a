use Rattle.etc_merge.proofs.Orders.{starts_with_is}
use Rattle.etc_merge.proofs.entries.is_below.Goals as goal

pub returns : goal.returns
returns c = starts_with_is c.args.path.now c.args.other.now _ _ c.names-2.ensures.value c.names.ensures.value c.starts_with.result c.starts_with.ensures.value
