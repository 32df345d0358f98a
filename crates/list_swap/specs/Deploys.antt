-- A deploy's list that comes to boot in the place of the old one.
use Rattle.std.specs.Prelude.{◌≡◌, List}
use Rattle.ost_types.specs.Path.{Path}
use Rattle.fs_trait.specs.View.{Disk, View}
use Rattle.fs_trait.specs.Image.{IsTree}
use Rattle.fs_trait.specs.Change.{Writes}
use Rattle.boot_model.specs.declared.item.BootItem.{BootItem}
use Rattle.boot_read.specs.declared.row.BootRow.{BootRow}
use Rattle.boot_swap.specs.declared.phase.Phase as swapping
use Rattle.boot_swap.specs.declared.phase.Phase.TheVariants as swap
use Rattle.deploy_task.specs.declared.phase.Phase.{Phase}
use Rattle.deploy_task.specs.declared.phase.Phase.TheVariants.{Swap}
use Rattle.deploy_task.specs.Listed.{ids_in}
use Rattle.deploy_task.specs.Deploying.{Deploying, items_of, new_items}
use Rattle.deploy_task.specs.Steps.{IsDeployed, Needs, WritesOf}
use Rattle.durable_list.specs.Standing.{ListStands, ListsSwap, ids_of}
use Rattle.list_swap.specs.Published.{AreReadable, IsPublished, shows_in}

-- the list with the new deployment in front
abbrev pub items_with : Deploying → List BootItem
items_with t = new_items t.plan t.id t.kept

-- the step puts the link that shows the new list in its place
abbrev pub Publishes : Phase → Type 0
Publishes (Swap sw) = shows_in sw.phase
Publishes ph = ⊥

-- the last step, which makes that link outlast a crash
abbrev pub syncs_in : swapping.Phase → Type 0
syncs_in (swap.SyncFolder u) = Unit {0}
syncs_in ph = ⊥

abbrev pub Syncs : Phase → Type 0
Syncs (Swap sw) = syncs_in sw.phase
Syncs ph = ⊥

-- Whatever came of the call of the first of these, where one list stood one of two boots.
abbrev pub DeploysPublish : Type 0
DeploysPublish = (t : Deploying) (v w : View) (rows : List BootRow) → IsTree v.now → Needs t v → Publishes t.phase → Writes (WritesOf t v) v w → AreReadable (items_with t) → ListStands rows v → IsPublished (items_with t) rows v w

-- Behind the second the new list stands.
abbrev pub DeploysSettle : Type 0
DeploysSettle = (t : Deploying) (v w : View) (link : Path) (old new : Disk) (before after : List BootRow) → Needs t v → Syncs t.phase → Writes (WritesOf t v) v w → IsDeployed t w → AreReadable (items_with t)
    → ids_of before ≡ ids_in (items_of t.plan) → ListsSwap link old new before after v → ListStands after w
