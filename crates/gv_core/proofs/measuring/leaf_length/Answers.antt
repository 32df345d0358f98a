use Rattle.std.proofs.Common.{sym, ap, length}
use Rattle.std.specs.Prelude.{option_map}
use Rattle.gv_core.proofs.Pushing.{not_leaf}
use Rattle.gv_core.proofs.measuring.leaf_length.Goals as goal

pub returns-in_default : goal.returns-in_default
returns-in_default c = sym (ap (option_map length) (not_leaf _ c.requires.0 c.shape.result.now _ c.requires.1 c.shape.ensures c.in_default.not-Basic))
