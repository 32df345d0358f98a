use Rattle.std.proofs.Common.{◌≡◌, ◌<◌, ◌^◌, take}
use Rattle.std.specs.Prelude.{All}
use Rattle.boot_model.specs.declared.item.DepId.{DepId}
use Rattle.deploy_task.specs.Listed.{ids_in}
use Rattle.deploy_task.proofs.ids.ids_of.Given as goal

abbrev pub invariant-loop-item : goal.invariant-loop-item
invariant-loop-item l = (l.ids.items ≡ ids_in (take l.item-index l.items)) × All (λ (id : DepId). id.serial < 2 ^ 32) l.ids.items
