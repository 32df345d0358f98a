use Rattle.std.specs.BTreeSet.{btree_set_len}
use Rattle.memory_record.proofs.Following.{IsSpoiling}
use Rattle.memory_record.proofs.state.State.spoil.Given as goal

abbrev pub invariant-loop-inode : goal.invariant-loop-inode
invariant-loop-inode l = IsSpoiling l.fill l.fn.self l.self

abbrev pub decreases-loop-inode : goal.decreases-loop-inode
decreases-loop-inode l = btree_set_len l.self.unsynced
