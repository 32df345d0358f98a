use Rattle.gv_core.proofs.Pushing.{not_leaf}
use Rattle.gv_core.proofs.writing.put_leaf.Goals as goal

pub returns-in_default : goal.returns-in_default
returns-in_default c = not_leaf _ c.requires.0 c.shape.result.now _ c.requires.1 c.shape.ensures c.in_default.not-Basic
