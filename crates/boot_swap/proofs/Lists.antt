-- The list that a crash leaves.
use Rattle.std.proofs.Common.{inl, inr, ℕ, ◌<◌, List, subst}
use Rattle.std.specs.Prelude.{All}
use Rattle.ost_types.specs.Text.{IsText}
use Rattle.boot_model.specs.declared.item.BootItem.{BootItem}
use Rattle.boot_model.specs.Items.{AreItems}
use Rattle.boot_model.proofs.Booted.{ReadsEach, boots_list}
use Rattle.boot_model.proofs.Lists.{list_same}
use Rattle.deploy_list.specs.EntryReads.{IsReadAs}
use Rattle.deploy_list.proofs.EntryReads.{entries_read}
use Rattle.boot_swap.specs.Lists.{LeavesList}

reads_each : (loader : ℕ) (items : List BootItem) → loader < 2 → AreItems items → All (λ (item : BootItem). All IsText item.kargs) items → ReadsEach IsReadAs loader items
reads_each loader items small are texts i item at = entries_read loader items i item small are at (subst (λ (x : BootItem). All IsText x.kargs) at.1 (texts i item at.0))

pub leaves_list : LeavesList
leaves_list items v members d are texts each (inl (b, image, same)) = inl (list_same IsReadAs b d members same (each b image))
leaves_list items v members d are texts each (inr boots) = inr (boots_list IsReadAs d items boots (reads_each boots.loader items boots.selects.small are texts))
