use Rattle.std.proofs.Common.{length}
use Rattle.bls_entry.proofs.Words.{Found}
use Rattle.bls_entry.proofs.options.ostree_value.Given as goal

abbrev pub invariant-loop-rest : goal.invariant-loop-rest
invariant-loop-rest l = Found (λ x. x.now) l.options l.found l.rest

abbrev pub decreases-loop-rest : goal.decreases-loop-rest
decreases-loop-rest l = length l.rest
