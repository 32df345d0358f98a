use Rattle.std.proofs.Common.{[], ◌∷◌, sym}
use Rattle.gv_core.proofs.Pushing.{unit_refused, unit_put}
use Rattle.gv_core.proofs.writing.put_unit.Goals as goal

pub returns-then-not-is_end : goal.returns-then-not-is_end
returns-then-not-is_end c = unit_refused _ (sym c.if-not-is_end.ensures)

pub returns : goal.returns
returns c = (0 ∷ [], unit_put _ (sym c.if-not-is_end.ensures), c.in_ok-push.ensures.items)
