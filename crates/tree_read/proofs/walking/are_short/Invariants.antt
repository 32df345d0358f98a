use Rattle.std.proofs.Common.{take}
use Rattle.std.specs.List.{AllByRecursion}
use Rattle.tree_read.specs.Order.{IsShort}
use Rattle.tree_read.proofs.walking.are_short.Given as goal

abbrev pub invariant-loop-item : goal.invariant-loop-item
invariant-loop-item l = AllByRecursion (λ i. IsShort i.path) (take l.item-index l.items)
