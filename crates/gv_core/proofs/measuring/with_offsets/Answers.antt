use Rattle.std.proofs.Common.{sym, arith}
use Rattle.gv_core.proofs.Offsets.{offset_size_found}
use Rattle.gv_core.proofs.measuring.with_offsets.Goals as goal

pub overflow_mul-result : goal.overflow_mul-result
overflow_mul-result c = let h = (offset_size_found _ _ _ (sym c.in_ok-width.ensures)).whole in omega arith

pub overflow_add-result : goal.overflow_add-result
overflow_add-result c = let h = (offset_size_found _ _ _ (sym c.in_ok-width.ensures)).whole in omega arith
