use Rattle.std.proofs.Common.{take}
use Rattle.memory_record.specs.Changes.{view_of}
use Rattle.memory_record.specs.Trail.{Shows}
use Rattle.memory_record.proofs.trail.Trail.of.Given as goal

abbrev pub invariant-loop-change : goal.invariant-loop-change
invariant-loop-change l = Shows l.trail (view_of (take l.change-index l.changes))
