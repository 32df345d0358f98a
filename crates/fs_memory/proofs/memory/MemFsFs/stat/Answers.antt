use Rattle.fs_memory.proofs.Valid.{obeys_reading}
use Rattle.fs_memory.proofs.memory.MemFsFs.stat.Goals as goal

pub returns-clause-plan : goal.returns-clause-plan
returns-clause-plan c = obeys_reading _ _ _ _ c.node_at.result _ c.in_ok-turn.ensures.plan c.node_at.ensures
