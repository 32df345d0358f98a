use Rattle.std.proofs.Common.{map, take}
use Rattle.schedule.specs.Schedule.{AreItems}
use Rattle.schedule.proofs.read.read_items.Given as goal

abbrev pub invariant-loop-item : goal.invariant-loop-item
invariant-loop-item l = AreItems (map (λ item. item.now) (take l.item-index l.items)) l.schedule.items
