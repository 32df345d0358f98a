use Rattle.std.proofs.Common.{subst}
use Rattle.bls_entry.specs.Reading.{Reads}
use Rattle.boot_read.proofs.texts.read_bytes.Goals as goal

pub returns : goal.returns
returns c = subst (λ b. Reads b c.read_entry.result) c.as_slice.ensures c.read_entry.ensures
