use Rattle.checkout_compare.proofs.Orders.{lesser_first, lesser_second, not_so}
use Rattle.checkout_compare.proofs.least.lesser.Goals as goal

pub returns-then-comes_before : goal.returns-then-comes_before
returns-then-comes_before c = lesser_first c.args.one c.args.other c.in-Some.path c.in-Some.is (c.comes_before.ensures.0 c.if-comes_before.true)

pub returns-else-comes_before : goal.returns-else-comes_before
returns-else-comes_before c = lesser_second c.args.one c.args.other c.in-Some.path c.in-Some.is (not_so c.comes_before.result c.if-comes_before.false c.comes_before.ensures.1)
