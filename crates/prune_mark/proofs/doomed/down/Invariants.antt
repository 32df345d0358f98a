use Rattle.prune_mark.specs.Doomed.{AreDown}
use Rattle.prune_mark.proofs.doomed.down.Given as goal

-- those of the names so far
abbrev pub invariant-loop-at : goal.invariant-loop-at
invariant-loop-at l = AreDown l.names l.flags l.commits l.at l.down.items
