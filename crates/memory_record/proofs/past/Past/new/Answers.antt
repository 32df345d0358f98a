use Rattle.memory_record.proofs.Following.{tied_first}
use Rattle.memory_record.proofs.past.Past.new.Goals as goal

pub invariant_of-result : goal.invariant_of-result
invariant_of-result c = record { tied = tied_first c.new-2.result c.new.result.items c.new.ensures.items c.new-2.ensures }
