use Rattle.std.proofs.Common.{◌≡◌, ◌≤◌, ◌+◌, ◌++◌, length}
use Rattle.gv_core.specs.Node.{kinds_of}
use Rattle.gv_core.specs.Reading.{inner}
use Rattle.gv_core.proofs.reading.inner_count.Given as goal

abbrev pub invariant-loop-member : goal.invariant-loop-member
invariant-loop-member l = record { counted : l.count + inner (kinds_of (l.front_left ++ l.back_left)) ≡ inner (kinds_of (l.front ++ l.back)); room : l.count + length (l.front_left ++ l.back_left) ≤ length (l.front ++ l.back) }

abbrev pub decreases-loop-member : goal.decreases-loop-member
decreases-loop-member l = length (l.front_left ++ l.back_left)
