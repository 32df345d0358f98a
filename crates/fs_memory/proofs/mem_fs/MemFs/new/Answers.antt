use Rattle.std.proofs.Common.{arith, ap, ◌∙◌}
use Rattle.memory_record.specs.Changes.{view_of}
use Rattle.memory_record.proofs.Records.{view_of-none}
use Rattle.memory_record.proofs.Moments.{empty_sound}
use Rattle.fs_memory.proofs.mem_fs.MemFs.new.Goals as goal

pub invariant_of-result : goal.invariant_of-result
invariant_of-result c = record { begun = omega arith; sound = empty_sound _ c.new.ensures }

pub returns-clause-view : goal.returns-clause-view
returns-clause-view c = ap view_of c.new.ensures ∙ view_of-none
