use Rattle.boot_read.proofs.Following.{led_none, led_some}
use Rattle.boot_read.proofs.links.led_by.Goals as goal

pub returns-in-Some-clause-told : goal.returns-in-Some-clause-told
returns-in-Some-clause-told c = λ d is. led_some d c.args.at c.args.node.now is c.args.os.now c.in_ok-led.led c.in_ok-led.ensures c.in-Some.id c.in-Some.is

pub returns-in-None-clause-told : goal.returns-in-None-clause-told
returns-in-None-clause-told c = λ d is. led_none d c.args.at c.args.node.now is c.args.os.now c.in_ok-led.led c.in_ok-led.ensures c.in-None.is
