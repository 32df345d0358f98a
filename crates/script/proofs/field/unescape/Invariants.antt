use Rattle.std.proofs.Common.{length}
use Rattle.script.proofs.Spelling.{SpelledSoFar}
use Rattle.script.proofs.field.unescape.Given as goal

abbrev pub invariant-loop-byte : goal.invariant-loop-byte
invariant-loop-byte l = SpelledSoFar l.fn.text l.value l.rest

abbrev pub decreases-loop-byte : goal.decreases-loop-byte
decreases-loop-byte l = length l.rest
