use Rattle.std.proofs.Common.{◌≡◌, take}
use Rattle.deploy_task.specs.Listed.{deps_in}
use Rattle.deploy_task.proofs.ids.deps_of.Given as goal

abbrev pub invariant-loop-item : goal.invariant-loop-item
invariant-loop-item l = l.deps.items ≡ deps_in (take l.item-index l.items)
