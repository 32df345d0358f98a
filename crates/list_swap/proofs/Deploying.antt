-- The list of a deploy.
use Rattle.std.proofs.Common.{◌≡◌, ⊎_elim, ◌<◌, ◌^◌, List, All, Contains, arith, refl, sym, ◌∙◌, ap, subst}
use Rattle.std.proofs.lemmas.List.{get_or-map, length-map}
use Rattle.std.proofs.lemmas.List.Elements.{All-cons}
use Rattle.fs_trait.specs.View.{Disk, View}
use Rattle.fs_trait.specs.Image.{EachImage, Image, IsTree}
use Rattle.fs_trait.specs.Change.{Writes}
use Rattle.boot_model.specs.declared.item.DepId.{DepId}
use Rattle.boot_model.specs.declared.item.BootItem.{BootItem}
use Rattle.boot_model.specs.Items.{AreItems}
use Rattle.boot_read.specs.declared.row.BootRow.{BootRow}
use Rattle.boot_read.specs.Rows.{AreRowsOf}
use Rattle.boot_rows.specs.Written.{IsWritten}
use Rattle.boot_rows.proofs.Reading.{only_written_read}
use Rattle.boot_rows.proofs.Short.{few_words_short}
use Rattle.boot_rows.proofs.Telling.{tell_ids}
use Rattle.boot_swap.specs.declared.phase.Phase as swapping
use Rattle.boot_swap.specs.declared.phase.Phase.TheVariants as swap
use Rattle.boot_swap.specs.Steps as swaps
use Rattle.deploy_task.specs.declared.phase.Phase.{Phase}
use Rattle.deploy_task.specs.declared.phase.Phase.TheVariants.{Clean, Choose, Source, Etc, BeginBuild, Build, BeginSwap, Swap, Ended}
use Rattle.deploy_task.specs.Listed.{ids_in, items_at}
use Rattle.deploy_task.specs.Deploying.{Deploying, IsMade, item_of, items_of, made_in}
use Rattle.deploy_task.specs.Steps.{IsDeployed, needs_in, writes_in}
use Rattle.deploy_task.proofs.NewItems.{each_at}
use Rattle.deploy_task.proofs.Numbers.{not_listed}
use Rattle.durable_list.specs.Standing.{LeavesNoMore, ListStands, ids_of}
use Rattle.durable_list.proofs.Swapping.{swap_settles}
use Rattle.list_swap.specs.Published.{AreReadable, HaveSerials, IsPublished}
use Rattle.list_swap.specs.Deploys.{DeploysPublish, DeploysSettle, Publishes, Syncs, items_with, syncs_in}
use Rattle.list_swap.proofs.Publishing.{swap_publishes}

-- ---- serials

listed_serials : (items : List BootItem) → All (λ (id : DepId). id.serial < 2 ^ 32) (ids_in items) → HaveSerials items
listed_serials items all k x less =
    let whole = length-map items (λ (item : BootItem). item.id) in
    subst (λ (id : DepId). id.serial < 2 ^ 32) (get_or-map (λ (item : BootItem). item.id) items k x x.id less) (all k x.id (omega (arith, less, whole)))

new_serials : (t : Deploying) → IsMade t → HaveSerials (items_with t)
new_serials t made =
    let few = made.numbered.small in
    let first : t.id.serial < 2 ^ 32 = omega (arith, few) in
    All-cons (λ (item : BootItem). item.id.serial < 2 ^ 32) (item_of t.plan t.id) (items_at (items_of t.plan) t.kept) first
    (each_at (items_of t.plan) (λ (item : BootItem). item.id.serial < 2 ^ 32) (listed_serials (items_of t.plan) made.serials) t.kept)

-- ---- the link is put

publishes_in : (t : Deploying) (v w : View) (rows : List BootRow) → IsTree v.now → IsMade t → (ph : Phase) → made_in ph t → needs_in ph t v → Publishes ph → Writes (writes_in ph v) v w → AreReadable (items_with t) → ListStands rows v
    → IsPublished (items_with t) rows v w
publishes_in t v w rows tree made (Swap sw) part needs shown writes readable stands =
    let is = part.1 in
    subst (λ items. IsPublished items rows v w) is
    (swap_publishes sw v w rows tree needs.0 shown writes (subst AreReadable (sym is) readable) (subst HaveSerials (sym is) (new_serials t made)) stands)
publishes_in t v w rows tree made (Clean c) part needs shown writes readable stands = absurd shown
publishes_in t v w rows tree made Choose part needs shown writes readable stands = absurd shown
publishes_in t v w rows tree made (Source u) part needs shown writes readable stands = absurd shown
publishes_in t v w rows tree made (Etc defaults u) part needs shown writes readable stands = absurd shown
publishes_in t v w rows tree made BeginBuild part needs shown writes readable stands = absurd shown
publishes_in t v w rows tree made (Build b) part needs shown writes readable stands = absurd shown
publishes_in t v w rows tree made BeginSwap part needs shown writes readable stands = absurd shown
publishes_in t v w rows tree made Ended part needs shown writes readable stands = absurd shown

pub deploys_publish : DeploysPublish
deploys_publish t v w rows tree needs shown writes readable stands = publishes_in t v w rows tree needs.made t.phase needs.made.part needs.meets shown writes readable stands

-- ---- the sync behind it

-- a sync leaves no more
no_more : (ph : swapping.Phase) (v w : View) → syncs_in ph → Writes (swaps.writes_in ph v) v w → LeavesNoMore v w
no_more (swap.SyncFolder u) v w syncs writes = λ p s may. ⊎_elim (λ was. was) (λ wrote. absurd wrote) (writes.only p s may)
no_more (swap.Choose c) v w syncs writes = absurd syncs
no_more (swap.BeginEntries n) v w syncs writes = absurd syncs
no_more (swap.Entries n b) v w syncs writes = absurd syncs
no_more (swap.LookLink u) v w syncs writes = absurd syncs
no_more (swap.Links u sub b) v w syncs writes = absurd syncs
no_more (swap.BeginLink u sub) v w syncs writes = absurd syncs
no_more (swap.ShowLink u sub l) v w syncs writes = absurd syncs
no_more (swap.Barrier u sub) v w syncs writes = absurd syncs
no_more (swap.BeginLoader n) v w syncs writes = absurd syncs
no_more (swap.ShowLoader n l) v w syncs writes = absurd syncs
no_more swap.Ended v w syncs writes = absurd syncs

abbrev Last : Deploying → View → View → Type 0
Last t v w = AreItems (items_with t) × LeavesNoMore v w

last_in : (t : Deploying) (v w : View) (ph : Phase) → made_in ph t → needs_in ph t v → Syncs ph → Writes (writes_in ph v) v w → Last t v w
last_in t v w (Swap sw) part needs syncs writes = (subst AreItems part.1 needs.0.made.items, no_more sw.phase v w syncs writes)
last_in t v w (Clean c) part needs syncs writes = absurd syncs
last_in t v w Choose part needs syncs writes = absurd syncs
last_in t v w (Source u) part needs syncs writes = absurd syncs
last_in t v w (Etc defaults u) part needs syncs writes = absurd syncs
last_in t v w BeginBuild part needs syncs writes = absurd syncs
last_in t v w (Build b) part needs syncs writes = absurd syncs
last_in t v w BeginSwap part needs syncs writes = absurd syncs
last_in t v w Ended part needs syncs writes = absurd syncs

module _ (t : Deploying) (made : IsMade t) (are : AreItems (items_with t)) (readable : AreReadable (items_with t)) (w : View) (deployed : IsDeployed t w) (before : List BootRow) (ids : ids_of before ≡ ids_in (items_of t.plan)) where
  written : (d : Disk) → Image w d → IsWritten d (items_with t)
  written d i =
      let boots = deployed.boots d i in
      record {
        may = are;
        texts = readable.texts;
        serials = new_serials t made;
        boots = boots;
        short = few_words_short boots.loader (items_with t) boots.selects.small are readable.words;
        links = λ none. cc;
      }

  -- the new deployment isn't in the old list
  old_gone : EachImage w (λ d. AreRowsOf d before → ⊥)
  old_gone d i rows =
      let only = only_written_read d (items_with t) before (written d i) rows in
      let same : ids_in (items_of t.plan) ≡ ids_in (items_with t) = sym ids ∙ ap (λ (l : List BootRow). ids_of l) only.1 ∙ tell_ids only.0 (items_with t) in
      not_listed (items_of t.plan) t.plan.used.items t.plan.os t.plan.commit t.id t.kept made.numbered (subst (λ l. Contains l t.id) (sym same) (0, omega arith, refl))

pub deploys_settle : DeploysSettle
deploys_settle t v w link old new before after needs syncs writes deployed readable ids swapped =
    let last = last_in t v w t.phase needs.made.part needs.meets syncs writes in
    swap_settles link old new before after v w swapped last.1 (old_gone t needs.made last.0 readable w deployed before ids)
