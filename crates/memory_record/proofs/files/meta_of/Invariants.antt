use Rattle.std.proofs.Common.{◌≡◌, length, ◌≤◌, take}
use Rattle.memory_record.specs.Changes.{view_of}
use Rattle.memory_record.proofs.files.meta_of.Given as goal

abbrev pub invariant-loop-i : goal.invariant-loop-i
invariant-loop-i l = (l.i ≤ length l.changes) × ((view_of l.changes).now.meta l.inode ≡ (view_of (take l.i l.changes)).now.meta l.inode)

abbrev pub decreases-loop-i : goal.decreases-loop-i
decreases-loop-i l = l.i
