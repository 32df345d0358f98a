use Rattle.std.proofs.Common.{sym, ap, length}
use Rattle.std.specs.Prelude.{option_map}
use Rattle.gv_core.proofs.Pushing.{unit_put, unit_refused}
use Rattle.gv_core.proofs.measuring.unit_length.Goals as goal

pub returns-then-is_end : goal.returns-then-is_end
returns-then-is_end c = sym (ap (option_map length) (unit_put _ (sym c.if-is_end.ensures)))

pub returns-else-is_end : goal.returns-else-is_end
returns-else-is_end c = sym (ap (option_map length) (unit_refused _ (sym c.if-is_end.ensures)))
