use Rattle.read_command.proofs.Lists.{starts_with_is}
use Rattle.read_command.proofs.rows.is_below.Goals as goal

pub returns : goal.returns
returns c = starts_with_is c.args.path.now c.args.at.now _ _ c.names-2.ensures.value c.names.ensures.value c.starts_with.result c.starts_with.ensures.value
