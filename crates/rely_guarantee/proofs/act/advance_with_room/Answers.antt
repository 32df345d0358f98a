use Rattle.std.proofs.Common.{◌∙◌}
use Rattle.rely_guarantee.proofs.act.advance_with_room.Goals as goal

pub returns-clause-after : goal.returns-clause-after
returns-clause-after g c = λ v told. c.advance.ensures.after v (c.in_ok-reserve.ensures.quiet.view ∙ told)
