use Rattle.std.proofs.Common.{take}
use Rattle.std.specs.Prelude.{All}
use Rattle.tree_build.specs.Brief.{HoldsFew}
use Rattle.tree_build.proofs.brief.hold_few.Given as goal

abbrev pub invariant-loop-item : goal.invariant-loop-item
invariant-loop-item l = All (λ i. HoldsFew l.content i.body) (take l.item-index l.items)
