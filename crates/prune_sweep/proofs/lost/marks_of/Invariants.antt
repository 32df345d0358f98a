use Rattle.prune_mark.specs.Flags.{AreAscending, IsMarked}
use Rattle.prune_sweep.proofs.Losing.{AreSoFar}
use Rattle.prune_sweep.proofs.lost.marks_of.Given as goal

-- of the names so far the marks are found
abbrev pub invariant-loop-name : goal.invariant-loop-name
invariant-loop-name l = AreAscending l.marking.names → AreSoFar l.name-items l.name-index (IsMarked l.marking.names l.marking.flags) l.pins l.marks.items
