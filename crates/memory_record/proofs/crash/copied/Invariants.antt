use Rattle.std.proofs.Common.{◌≡◌, take}
use Rattle.memory_record.proofs.crash.copied.Given as goal

abbrev pub invariant-loop-change : goal.invariant-loop-change
invariant-loop-change l = l.past.changes.items ≡ take l.change-index l.changes
