use Rattle.ref_command.proofs.Refusals.{refused_of}
use Rattle.ref_command.proofs.laws.told_refusals.Goals as goal

pub returns : goal.returns
returns c = refused_of
