use Rattle.commands.proofs.Outsides.{outside_of}
use Rattle.commands.proofs.laws.outsides_tell_alike.Goals as goal

pub returns : goal.returns
returns c = outside_of
