use Rattle.std.proofs.Common.{◌+◌, map, take, sym, subst}
use Rattle.schedule.specs.Schedule.{AreItems}
use Rattle.schedule.proofs.Items.{gives_none, gives_some, items_none, items_step}
use Rattle.schedule.proofs.read.read_items.Goals as goal

pub returns-in-None : goal.returns-in-None
returns-in-None c = items_none (λ item. item.now) c.args.items.now c.loop-item.item-index _ c.loop-item-test.true (gives_none _ _ c.in_ok-turns.ensures c.in-None.is)

pub loop-item-preserved : goal.loop-item-preserved
loop-item-preserved c =
    subst (AreItems (map (λ item. item.now) (take (c.loop-item.item-index + 1) c.args.items.now))) (sym c.in_ok-push-in-Some.ensures.items)
    (items_step (λ item. item.now) c.args.items.now c.loop-item.item-index _ c.loop-item.schedule.items c.in-Some.turns c.loop-item-test.true c.loop-item.invariant (gives_some _ _ _ c.in_ok-turns.ensures c.in-Some.is))
