use Rattle.std.proofs.Common.{◌≡◌, true, false, sym, ◌∙◌, arith}
use Rattle.tree_build.proofs.Bads.{least_here, inner_here}
use Rattle.tree_build.proofs.paths.first_bad.Goals as goal

pub returns-then-not-goes_on : goal.returns-then-not-goes_on
returns-then-not-goes_on c =
    least_here c.args.items.now c.requires.items c.requires.root c.loop-at.at c.index-items-at.result c.index-items-at-in-loop-at.result c.index-items-at-then-not-goes_on.result c.loop-at.invariant.some c.loop-at-test.true c.loop-at.invariant.inner c.index-items-at.is
    (λ g. let n : true ≡ false = sym (c.goes_on.ensures.1 g) ∙ c.if-not-goes_on.true in cc)

pub loop-at-preserved : goal.loop-at-preserved
loop-at-preserved c = record {
  some = omega arith;
  inner = inner_here c.args.items.now c.requires.items c.loop-at.at c.index-items-at.result c.index-items-at-in-loop-at.result c.loop-at.invariant.some c.loop-at-test.true c.loop-at.invariant.inner c.index-items-at.is (c.goes_on.ensures.0 c.if-not-goes_on.false);
}
