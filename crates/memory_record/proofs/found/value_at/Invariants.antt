use Rattle.std.proofs.Common.{◌≡◌, length, ◌≤◌, take}
use Rattle.ost_types.specs.Path.{Path, AreNames}
use Rattle.ost_types.specs.Flat.{flat}
use Rattle.memory_record.specs.Changes.{view_of}
use Rattle.memory_record.proofs.found.value_at.Given as goal

-- what stands at the path in the end stood at `at` after the first i changes
abbrev pub invariant-loop-i : goal.invariant-loop-i
invariant-loop-i l = (l.i ≤ length l.changes) × ((p : Path) → AreNames p → l.fn.path ≡ flat p → (r : Path) × AreNames r × (l.at ≡ flat r) × ((view_of (take l.i l.changes)).now.at r ≡ (view_of l.changes).now.at p))

abbrev pub decreases-loop-i : goal.decreases-loop-i
decreases-loop-i l = l.i
