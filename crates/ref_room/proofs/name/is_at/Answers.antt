use Rattle.ref_room.proofs.Named.{path_test}
use Rattle.ref_room.proofs.name.is_at.Goals as goal

pub returns : goal.returns
returns c = path_test _ _ _ _ c.eq-2.ensures c.in_ok-ref_path.ensures
