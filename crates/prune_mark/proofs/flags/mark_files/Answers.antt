use Rattle.std.proofs.Common.{[], ◌+◌, ◌∙◌, arith}
use Rattle.ost_types.specs.declared.object.Kind.TheVariants as kinds
use Rattle.repo_model.specs.Trees.{name_of}
use Rattle.reach.specs.Reach.{Is}
use Rattle.prune_mark.specs.Flags.{AreOfFiles}
use Rattle.prune_mark.proofs.Spreading.{FileIs, OfFirst, all_first, first_all, first_less, first_more, first_none, spreads_as, spreads_none, spreads_then}
use Rattle.prune_mark.proofs.flags.mark_files.Goals as goal

pub loop-item-init : goal.loop-item-init
loop-item-init c = λ pending. spreads_none c.args.names.now c.args.flags.now.items pending _ (λ o f. absurd (first_none FileIs c.args.files.now o f))

pub mark_leaf-requires-clause-long : goal.mark_leaf-requires-clause-long
mark_leaf-requires-clause-long c = (c.loop-item.invariant []).long ∙ c.requires

pub loop-item-preserved : goal.loop-item-preserved
loop-item-preserved c = λ pending.
    spreads_as c.args.names.now _ (OfFirst FileIs c.args.files.now (c.loop-item.item-index + 1)) _ _ pending pending
    (first_more FileIs c.args.files.now c.loop-item.item-index c.item-item.result c.loop-item-test.true c.item-item.is)
    (first_less FileIs c.args.files.now c.loop-item.item-index c.item-item.result c.loop-item-test.true c.item-item.is)
    (spreads_then c.args.names.now _ (Is (name_of kinds.File c.item-item.result.file)) _ _ _ pending pending pending (c.loop-item.invariant pending) (c.mark_leaf.ensures pending))

pub returns : goal.returns
returns c = λ pending.
    spreads_as c.args.names.now _ (AreOfFiles c.args.files.now) _ _ pending pending
    (all_first FileIs c.args.files.now c.loop-item.item-index)
    (first_all FileIs c.args.files.now c.loop-item.item-index (omega (arith, c.loop-item-test.false)))
    (c.loop-item.invariant pending)
