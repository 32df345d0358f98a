use Rattle.std.proofs.Common.{◌≤◌, ◌-◌, length, map, drop}
use Rattle.std.specs.Option.{is_some}
use Rattle.gv_core.specs.Measure.{fixed}
use Rattle.gv_core.proofs.Pushing.{Rows}
use Rattle.gv_core.proofs.Raws.{checked}
use Rattle.gv_core.proofs.container.join_elements.Given as goal

abbrev pub invariant-loop-at : goal.invariant-loop-at
invariant-loop-at l = record {
  room : l.at ≤ length l.members;
  kept : Rows l.kind (is_some (fixed l.kind)) l.initial.out.items l.out.items l.ends.items (checked (fixed l.kind) (map (λ b. b.now) (drop l.at l.members))) (checked (fixed l.kind) (map (λ b. b.now) l.members));
}

abbrev pub decreases-loop-at : goal.decreases-loop-at
decreases-loop-at l = length l.members - l.at
