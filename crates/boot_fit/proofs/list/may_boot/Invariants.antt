use Rattle.std.proofs.Common.{◌≤◌, length}
use Rattle.boot_fit.proofs.Fits.{AreFit}
use Rattle.boot_fit.proofs.list.may_boot.Given as goal

abbrev pub invariant-loop-at : goal.invariant-loop-at
invariant-loop-at l = record { within : l.at ≤ length l.items; few : length l.items ≤ 8; behind : AreFit l.items l.at }

abbrev pub decreases-loop-at : goal.decreases-loop-at
decreases-loop-at l = l.at
