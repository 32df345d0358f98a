use Rattle.lane_system.proofs.Removals.{gone_behind}
use Rattle.lane_system.proofs.unremoved.earlier_removals_are_past.Goals as goal

pub returns : goal.returns
returns c = gone_behind
