use Rattle.std.proofs.Common.{◌≡◌, length, ◌-◌, ◌≤◌, take, drop}
use Rattle.ost_types.specs.Flat.{flat}
use Rattle.fs_trait.specs.Effect.{way, way_from}
use Rattle.memory_record.specs.Changes.{view_of}
use Rattle.fs_memory.proofs.walk.walk.Given as goal

abbrev pub invariant-loop-i : goal.invariant-loop-i
invariant-loop-i l = (l.i ≤ length l.fn.path) × (l.end ≡ length (flat (take l.i l.fn.path))) × (way (view_of l.fn.past.changes.items).now l.fn.path ≡ way_from (view_of l.fn.past.changes.items).now (take l.i l.fn.path) (drop l.i l.fn.path))

abbrev pub decreases-loop-i : goal.decreases-loop-i
decreases-loop-i l = length l.fn.path - l.i
