use Rattle.std.proofs.Common.{length}
use Rattle.keyfile.proofs.Whole.{Went}
use Rattle.keyfile.proofs.read.read_keyfile.Given as goal

abbrev pub invariant-loop-rest : goal.invariant-loop-rest
invariant-loop-rest l = Went l.bytes l.rest l.number l.reader

abbrev pub decreases-loop-rest : goal.decreases-loop-rest
decreases-loop-rest l = length l.rest
