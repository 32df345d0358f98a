use Rattle.std.proofs.Common.{◌≡◌, ◌≤◌, ◌-◌, ℕ, List, Some}
use Rattle.top_call.specs.Input.{input_limit}
use Rattle.top_call.proofs.Reading.{ReadSoFar}
use Rattle.top_call.proofs.input.read_pieces.Given as goal

abbrev pub invariant-loop-at : goal.invariant-loop-at
invariant-loop-at g l = record {
  within : l.at ≤ input_limit;
  read : (all : List ℕ) → g.S.Source.left l.fn.input ≡ Some all → ReadSoFar all l.at l.bytes (g.S.Source.left l.input);
  later : g.S.Source.faults l.fn.input ≤ g.S.Source.faults l.input;
}

abbrev pub decreases-loop-at : goal.decreases-loop-at
decreases-loop-at g l = input_limit - l.at
