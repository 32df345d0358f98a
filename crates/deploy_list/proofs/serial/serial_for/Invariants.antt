use Rattle.std.proofs.Common.{◌+◌, ◌-◌, length}
use Rattle.deploy_list.proofs.Numbered.{Taken}
use Rattle.deploy_list.proofs.serial.serial_for.Given as goal

abbrev pub invariant-loop-serial : goal.invariant-loop-serial
invariant-loop-serial l = Taken l.list l.os l.commit l.serial

abbrev pub decreases-loop-serial : goal.decreases-loop-serial
decreases-loop-serial l = length l.list + 1 - l.serial
