use Rattle.std.proofs.Common.{◌+◌, drop, subst, take}
use Rattle.ost_types.specs.Path.{under}
use Rattle.checkout_compare.specs.Looking.{IsNew}
use Rattle.checkout_compare.proofs.Lists.{all_more, around}
use Rattle.checkout_compare.proofs.Orders.{not_so}
use Rattle.checkout_compare.proofs.names.first_new.Goals as goal

pub returns-then-is_new : goal.returns-then-is_new
returns-then-is_new c = record {
  front = take c.loop-name.name-index c.args.names.now;
  name = c.name-item.result;
  rest = drop (c.loop-name.name-index + 1) c.args.names.now;
  all = around c.args.names.now c.loop-name.name-index c.name-item.result c.loop-name-test.true c.name-item.is;
  is = c.in_ok-path.ensures;
  new = c.is_new.ensures.0 c.if-is_new.true;
  earlier = c.loop-name.invariant;
}

pub loop-name-preserved : goal.loop-name-preserved
loop-name-preserved c =
    let none = not_so c.is_new.result c.if-is_new.false c.is_new.ensures.1 in
    all_more (λ x. ¬ (IsNew c.args.tree.now (under c.args.folder.now x))) c.args.names.now c.loop-name.name-index c.name-item.result c.loop-name-test.true c.name-item.is c.loop-name.invariant
    (subst (λ p. ¬ (IsNew c.args.tree.now p)) c.in_ok-path.ensures none)
