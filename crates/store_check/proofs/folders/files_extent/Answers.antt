use Rattle.store_check.proofs.Folding.{files_more}
use Rattle.store_check.proofs.folders.files_extent.Goals as goal

pub loop-item-preserved : goal.loop-item-preserved
loop-item-preserved c = files_more c.args.objects.now.names.items c.args.files.now c.loop-item.item-index c.item-item.result c.loop-item-test.true c.item-item.is c.loop-item.extent c.in_ok-extent.extent c.in_ok-extent.ensures c.loop-item.invariant
