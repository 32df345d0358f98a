use Rattle.std.proofs.Common.{length}
use Rattle.script_reader.specs.Drafts.{state_of}
use Rattle.script_reader.proofs.Scripts.{ReadSoFar}
use Rattle.script_reader.proofs.read.read_lines.Given as goal

abbrev pub invariant-loop-line : goal.invariant-loop-line
invariant-loop-line l = ReadSoFar l.fn.bytes l.rest (state_of l.draft) l.number

abbrev pub decreases-loop-line : goal.decreases-loop-line
decreases-loop-line l = length l.rest
