use Rattle.std.proofs.Common.{length}
use Rattle.bls_entry.proofs.Whole.{Went}
use Rattle.bls_entry.proofs.read.read_entry.Given as goal

abbrev pub invariant-loop-rest : goal.invariant-loop-rest
invariant-loop-rest l = Went l.bytes l.rest l.number l.found

abbrev pub decreases-loop-rest : goal.decreases-loop-rest
decreases-loop-rest l = length l.rest
