use Rattle.std.proofs.Common.{◌-◌, get_or, arith}
use Rattle.tree_build.proofs.Cuts.{cut_here, cut_on, none_from, some_from, itself}
use Rattle.tree_build.proofs.entries.first_in.Goals as goal

pub returns-then-is_none : goal.returns-then-is_none
returns-then-is_none c =
    cut_here c.args.items.now c.args.folder.now c.args.made.now c.loop-start.start c.loop-start-test.true c.loop-start.invariant.within c.requires.places (get_or c.args.made.now (c.loop-start.start - 1) c.index-made-start.result) (itself c.args.made.now c.loop-start.start c.index-made-start.result c.loop-start-test.true c.loop-start.invariant.within) c.index-items-made.result c.index-items-made.is
    c.loop-start.invariant.inside (none_from c.name_in.result c.is_none.result _ c.is_none.ensures c.name_in.ensures c.if-is_none.true)

pub loop-start-preserved : goal.loop-start-preserved
loop-start-preserved c =
    let w = some_from c.name_in.result c.is_none.result _ c.is_none.ensures c.name_in.ensures c.if-is_none.false in
    record {
      within = omega (arith, c.loop-start.invariant.within);
      inside =
          cut_on c.args.items.now c.args.folder.now c.args.made.now c.loop-start.start c.loop-start-test.true c.loop-start.invariant.within c.requires.places (get_or c.args.made.now (c.loop-start.start - 1) c.index-made-start.result) (itself c.args.made.now c.loop-start.start c.index-made-start.result c.loop-start-test.true c.loop-start.invariant.within) c.index-items-made.result c.index-items-made.is
          c.loop-start.invariant.inside w.0 w.1;
    }
