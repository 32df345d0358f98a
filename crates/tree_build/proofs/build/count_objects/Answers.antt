use Rattle.std.proofs.Common.{arith}
use Rattle.tree_build.proofs.Counts.{count_more, typed_more, none_left, typed_none}
use Rattle.tree_build.proofs.build.count_objects.Goals as goal

pub loop-at-init : goal.loop-at-init
loop-at-init c = record {
  within = omega arith;
  count = none_left c.args.items.now _ (omega arith);
  small = omega arith;
  typed = typed_none c.args.items.now _ (omega arith);
}

pub loop-at-preserved : goal.loop-at-preserved
loop-at-preserved c =
    let i = c.index-items-at.result in
    let is = c.index-items-at.is in
    let more = count_more c.args.items.now c.loop-at.at i c.count_of-count.result c.loop-at-test.true c.loop-at.invariant.within is c.count_of-count.ensures.folder c.count_of-count.ensures.file in
    record {
      within = omega (arith, c.loop-at.invariant.within);
      count = omega (arith, more.0, c.loop-at.invariant.count);
      small = omega (arith, more.1, c.loop-at.invariant.small, c.loop-at.invariant.within, c.loop-at-test.true);
      typed = typed_more c.args.items.now c.loop-at.at i c.loop-at-test.true c.loop-at.invariant.within is c.count_of-count.ensures.names c.count_of-count.ensures.numbers c.loop-at.invariant.typed;
    }
