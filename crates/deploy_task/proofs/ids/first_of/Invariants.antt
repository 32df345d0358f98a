use Rattle.std.proofs.Common.{◌≢◌, ◌<◌, ℕ}
use Rattle.boot_model.specs.declared.item.BootItem.{BootItem}
use Rattle.boot_model.specs.Items.{IsAt}
use Rattle.deploy_task.proofs.ids.first_of.Given as goal

-- none before it is of the stateroot
abbrev pub invariant-loop-item : goal.invariant-loop-item
invariant-loop-item l = (i : ℕ) (other : BootItem) → IsAt l.items i other → i < l.item-index → other.id.os ≢ l.os
