use Rattle.std.proofs.Common.{◌++◌, length, map}
use Rattle.gv_core.specs.Node.{kinds_of}
use Rattle.gv_core.specs.Reading.{tuple_at, inner, size_for}
use Rattle.gv_core.specs.Container.{raw}
use Rattle.gv_core.proofs.Steps.{Members}
use Rattle.gv_core.proofs.Raws.{raw_tree}
use Rattle.gv_core.proofs.container.cut_members.Given as goal

abbrev pub invariant-loop-member : goal.invariant-loop-member
invariant-loop-member l = Members raw (map raw_tree (map (λ b. b.now) l.pieces.items)) (l.front_left ++ l.back_left) l.bytes l.limit l.pos l.table l.width (tuple_at raw (kinds_of (l.front ++ l.back)) l.bytes (size_for (length l.bytes)) (inner (kinds_of (l.front ++ l.back))))

abbrev pub decreases-loop-member : goal.decreases-loop-member
decreases-loop-member l = length (l.front_left ++ l.back_left)
