use Rattle.std.proofs.Common.{◌≢◌}
use Rattle.read_command.proofs.Entries.{all_more, differ}
use Rattle.read_command.proofs.entry.folder_of.Goals as goal

pub loop-item-preserved : goal.loop-item-preserved
loop-item-preserved c =
    all_more (λ i. i.name ≢ c.args.name.now) c.args.folders.now c.loop-item.item-index c.item-item.result c.loop-item-test.true c.item-item.is c.loop-item.invariant
    (differ c.item-item.result.name c.args.name.now c.eq.result c.eq.ensures c.if-eq.false)
