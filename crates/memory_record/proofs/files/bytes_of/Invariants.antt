use Rattle.std.proofs.Common.{◌≡◌, take}
use Rattle.memory_record.specs.Changes.{view_of}
use Rattle.memory_record.proofs.files.bytes_of.Given as goal

abbrev pub invariant-loop-change : goal.invariant-loop-change
invariant-loop-change l = (l.content.bytes ≡ (view_of (take l.change-index l.changes)).now.bytes l.inode) × (l.content.synced ≡ (view_of (take l.change-index l.changes)).synced l.inode)
