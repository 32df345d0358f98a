use Rattle.memory_record.proofs.Trailing.{shows_first}
use Rattle.memory_record.proofs.trail.Trail.new.Goals as goal

pub returns : goal.returns
returns c = shows_first _ c.root_meta.result c.root_meta.ensures c.new.ensures c.new-2.ensures
