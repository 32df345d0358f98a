use Rattle.std.proofs.Common.{◌-◌, length, map}
use Rattle.gv_core.specs.Measure.{fixed}
use Rattle.gv_core.specs.Reading.{elements}
use Rattle.gv_core.specs.Container.{raw}
use Rattle.gv_core.proofs.Steps.{Alike}
use Rattle.gv_core.proofs.Raws.{raw_tree}
use Rattle.gv_core.proofs.container.cut_alike.Given as goal

abbrev pub invariant-loop-pos : goal.invariant-loop-pos
invariant-loop-pos l = Alike raw (map raw_tree (map (λ b. b.now) l.pieces.items)) l.kind l.bytes l.pos l.size (elements raw l.kind (fixed l.kind) l.bytes)

abbrev pub decreases-loop-pos : goal.decreases-loop-pos
decreases-loop-pos l = length l.bytes - l.pos
