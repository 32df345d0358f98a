use Rattle.std.proofs.Common.{refl}
use Rattle.bls_entry.specs.Entry.{value_of}
use Rattle.bls_entry.proofs.found.Found.nothing.Goals as goal

pub returns : goal.returns
unfolding value_of
returns c = refl
