use Rattle.fs_trait.specs.Effect.{OfFinding}
use Rattle.fs_memory.proofs.Named.{answer_of, file_finding}
use Rattle.fs_memory.proofs.Valid.{obeys_reading}
use Rattle.fs_memory.proofs.memory.MemFsFs.read.Goals as goal

pub returns-clause-named : goal.returns-clause-named
returns-clause-named c = answer_of OfFinding tt _ _ _ c.read_at.result (file_finding _ _) c.read_at.ensures

pub returns-clause-plan : goal.returns-clause-plan
returns-clause-plan c = obeys_reading _ _ _ _ c.read_at.result _ c.in_ok-turn.ensures.plan c.read_at.ensures
