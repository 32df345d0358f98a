use Rattle.lane_system.proofs.AllSaid.{none_between, none_gone}
use Rattle.lane_system.proofs.unremoved.nothing_is_gone.Goals as goal

pub returns-clause-removed : goal.returns-clause-removed
returns-clause-removed c = none_between

pub returns-clause-gone : goal.returns-clause-gone
returns-clause-gone c = none_gone
