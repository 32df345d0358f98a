use Rattle.std.proofs.Common.{◌≤◌, ◌++◌, eqb, length, map, drop}
use Rattle.gv_core.specs.Node.{kinds_of}
use Rattle.gv_core.specs.Container.{each_part}
use Rattle.gv_core.proofs.Cells.{Cells}
use Rattle.gv_core.proofs.container.join_members.Given as goal

abbrev pub invariant-loop-kind : goal.invariant-loop-kind
invariant-loop-kind l = record {
  room : l.at ≤ length l.members;
  kept : Cells l.initial.out.items l.out.items l.ends.items (eqb (length (l.kinds_left ++ l.more_kinds_left)) 0) (each_part (kinds_of (l.kinds_left ++ l.more_kinds_left)) (map (λ b. b.now) (drop l.at l.members))) (each_part (kinds_of (l.kinds ++ l.more_kinds)) (map (λ b. b.now) l.members));
}

abbrev pub decreases-loop-kind : goal.decreases-loop-kind
decreases-loop-kind l = length (l.kinds_left ++ l.more_kinds_left)
