use Rattle.std.proofs.Common.{◌-◌, get_or, sym, ◌∙◌, subst, arith}
use Rattle.ost_forms.specs.DirTree.{IsAscending, file_names}
use Rattle.tree_build.proofs.Cuts.{files_some, files_none, files_rise, itself}
use Rattle.tree_build.proofs.entries.files_of.Goals as goal

pub push-requires : goal.push-requires
push-requires c =
    let grown = files_some c.args.items.now c.args.folder.now c.args.made.now c.loop-at.at c.loop-at-test.true c.loop-at.invariant.within c.requires.places (get_or c.args.made.now (c.loop-at.at - 1) c.index-made-at.result) (itself c.args.made.now c.loop-at.at c.index-made-at.result c.loop-at-test.true c.loop-at.invariant.within) c.index-items-made.result c.index-items-made.is
    c.loop-at.files (get_or c.args.made.now (c.loop-at.at - 1) c.index-made-at-in-loop-at.result) c.in_ok-item.field-0 c.in-Some.item c.loop-at.invariant.done (itself c.args.made.now c.loop-at.at c.index-made-at-in-loop-at.result c.loop-at-test.true c.loop-at.invariant.within) c.in_ok-item.ensures c.in-Some.is
    in
    subst (λ fs. IsAscending (file_names fs)) (sym grown) (files_rise c.args.items.now c.args.folder.now c.args.made.now (c.loop-at.at - 1) c.requires.ascending)

pub loop-at-preserved-in-Continue-branch-3 : goal.loop-at-preserved-in-Continue-branch-3
loop-at-preserved-in-Continue-branch-3 c = record {
  within = omega (arith, c.loop-at.invariant.within);
  done =
      c.in_ok-push.ensures.ok
      ∙ files_some c.args.items.now c.args.folder.now c.args.made.now c.loop-at.at c.loop-at-test.true c.loop-at.invariant.within c.requires.places (get_or c.args.made.now (c.loop-at.at - 1) c.index-made-at.result) (itself c.args.made.now c.loop-at.at c.index-made-at.result c.loop-at-test.true c.loop-at.invariant.within) c.index-items-made.result c.index-items-made.is
      c.loop-at.files (get_or c.args.made.now (c.loop-at.at - 1) c.index-made-at-in-loop-at.result) c.in_ok-item.field-0 c.in-Some.item c.loop-at.invariant.done (itself c.args.made.now c.loop-at.at c.index-made-at-in-loop-at.result c.loop-at-test.true c.loop-at.invariant.within) c.in_ok-item.ensures c.in-Some.is;
}

pub loop-at-preserved : goal.loop-at-preserved
loop-at-preserved c = record {
  within = omega (arith, c.loop-at.invariant.within);
  done =
      files_none c.args.items.now c.args.folder.now c.args.made.now c.loop-at.at c.loop-at-test.true c.loop-at.invariant.within c.requires.places (get_or c.args.made.now (c.loop-at.at - 1) c.index-made-at.result) (itself c.args.made.now c.loop-at.at c.index-made-at.result c.loop-at-test.true c.loop-at.invariant.within) c.index-items-made.result c.index-items-made.is
      c.loop-at.files (get_or c.args.made.now (c.loop-at.at - 1) c.index-made-at-in-loop-at.result) c.in_ok-item.field-0 c.loop-at.invariant.done (itself c.args.made.now c.loop-at.at c.index-made-at-in-loop-at.result c.loop-at-test.true c.loop-at.invariant.within) c.in_ok-item.ensures c.in_default.is;
}
