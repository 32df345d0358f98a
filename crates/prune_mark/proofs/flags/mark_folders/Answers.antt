use Rattle.std.proofs.Common.{◌+◌, ◌∙◌, arith}
use Rattle.reach.specs.Reach.{IsFolderOf}
use Rattle.prune_mark.specs.Flags.{AreOfFolders}
use Rattle.prune_mark.proofs.Spreading.{FolderIs, OfFirst, all_first, first_all, first_less, first_more, first_none, spreads_as, spreads_none, spreads_then}
use Rattle.prune_mark.proofs.flags.mark_folders.Goals as goal

pub loop-item-init : goal.loop-item-init
loop-item-init c = record {
  spreads = spreads_none c.args.names.now c.args.flags.now.items c.args.pending.now.items _ (λ o f. absurd (first_none FolderIs c.args.folders.now o f));
  room = omega (arith, c.requires.room);
}

pub mark_folder-requires-clause-long : goal.mark_folder-requires-clause-long
mark_folder-requires-clause-long c = c.loop-item.invariant.spreads.long ∙ c.requires.long

pub mark_folder-requires-clause-room : goal.mark_folder-requires-clause-room
mark_folder-requires-clause-room c = omega (arith, c.loop-item.invariant.room, c.loop-item-test.true)

pub loop-item-preserved : goal.loop-item-preserved
loop-item-preserved c = record {
  spreads =
      spreads_as c.args.names.now _ (OfFirst FolderIs c.args.folders.now (c.loop-item.item-index + 1)) _ _ _ _
      (first_more FolderIs c.args.folders.now c.loop-item.item-index c.item-item.result c.loop-item-test.true c.item-item.is)
      (first_less FolderIs c.args.folders.now c.loop-item.item-index c.item-item.result c.loop-item-test.true c.item-item.is)
      (spreads_then c.args.names.now _ (IsFolderOf c.item-item.result.tree c.item-item.result.meta) _ _ _ _ _ _ c.loop-item.invariant.spreads c.mark_folder.ensures.spreads);
  room = omega (arith, c.loop-item.invariant.room, c.loop-item-test.true, c.mark_folder.ensures.room, c.mark_folder.ensures.few);
}

pub returns : goal.returns
returns c =
    spreads_as c.args.names.now _ (AreOfFolders c.args.folders.now) _ _ _ _
    (all_first FolderIs c.args.folders.now c.loop-item.item-index)
    (first_all FolderIs c.args.folders.now c.loop-item.item-index (omega (arith, c.loop-item-test.false)))
    c.loop-item.invariant.spreads
