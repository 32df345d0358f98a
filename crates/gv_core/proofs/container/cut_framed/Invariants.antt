use Rattle.std.proofs.Common.{◌-◌, length, map}
use Rattle.gv_core.specs.Reading.{framed, size_for}
use Rattle.gv_core.specs.Container.{raw}
use Rattle.gv_core.proofs.Steps.{Framed}
use Rattle.gv_core.proofs.Raws.{raw_tree}
use Rattle.gv_core.proofs.container.cut_framed.Given as goal

abbrev pub invariant-loop : goal.invariant-loop
invariant-loop l = Framed raw (map raw_tree (map (λ b. b.now) l.pieces.items)) l.kind l.bytes l.limit l.pos (l.count - l.counter) l.width l.table (framed raw l.kind l.bytes (size_for (length l.bytes)))
