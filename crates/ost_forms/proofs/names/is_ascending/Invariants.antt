use Rattle.std.proofs.Common.{◌-◌, ◌<◌, length}
use Rattle.ost_forms.proofs.OrderedNames.{AscendsTo}
use Rattle.ost_forms.proofs.names.is_ascending.Given as goal

abbrev pub invariant-loop-at : goal.invariant-loop-at
invariant-loop-at l = (0 < l.at) × AscendsTo l.names l.at

abbrev pub decreases-loop-at : goal.decreases-loop-at
decreases-loop-at l = length l.names - l.at
