use Rattle.memory_record.proofs.Following.{first_shows}
use Rattle.memory_record.proofs.state.State.new.Goals as goal

pub returns : goal.returns
returns c = first_shows _ c.root_meta.result c.root_meta.ensures c.new.ensures c.new-2.ensures.empty
