use Rattle.std.proofs.Common.{sym, ◌∙◌}
use Rattle.deploy_list.proofs.Numbered.{taken_none, taken_more}
use Rattle.deploy_list.proofs.serial.serial_for.Goals as goal

pub loop-serial-init : goal.loop-serial-init
loop-serial-init c = taken_none c.args.list.now c.args.os.now c.args.commit.now

pub loop-serial-preserved : goal.loop-serial-preserved
loop-serial-preserved c = taken_more c.args.list.now c.args.os.now c.args.commit.now c.loop-serial.serial c.has_serial.result c.has_serial.ensures c.loop-serial-test.true c.loop-serial.invariant

pub returns-clause-least : goal.returns-clause-least
returns-clause-least c = record { free = sym c.has_serial.ensures ∙ c.loop-serial-test.false; least = c.loop-serial.invariant.taken }

pub returns-clause-small : goal.returns-clause-small
returns-clause-small c = c.loop-serial.invariant.bound
