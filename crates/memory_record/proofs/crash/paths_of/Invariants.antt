use Rattle.std.proofs.Common.{◌≡◌, take}
use Rattle.std.specs.List.{flat_map}
use Rattle.memory_record.specs.Traces.{named_by}
use Rattle.memory_record.proofs.crash.paths_of.Given as goal

abbrev pub invariant-loop-change : goal.invariant-loop-change
invariant-loop-change l = l.paths.items ≡ flat_map named_by (take l.change-index l.changes)
