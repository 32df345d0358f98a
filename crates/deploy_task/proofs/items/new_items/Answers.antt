use Rattle.std.proofs.Common.{◌≡◌, ◌≤◌, List, Some, ◌∷◌, ◌++◌, [], length, get_or, sym, ◌∙◌, ap, subst}
use Rattle.std.specs.List.{slice_get}
use Rattle.std.proofs.lemmas.Option.{slice_get-get_or, slice_get_past}
use Rattle.boot_model.specs.declared.item.BootItem.{BootItem}
use Rattle.deploy_task.specs.Deploying.{item_of, items_of}
use Rattle.deploy_task.proofs.Lists.{stays_none, stays_some}
use Rattle.deploy_task.proofs.items.new_items.Goals as goal

pub loop-place-preserved-in_default : goal.loop-place-preserved-in_default
loop-place-preserved-in_default c =
    let place = get_or c.args.kept.now c.loop-place.place-index 0 in
    let past = subst (λ (l : List BootItem). length l ≤ place) c.deref.ensures.value c.in_default.ensures.lookup.3 in
    stays_none (item_of c.args.deploy.now c.args.id.now) (items_of c.args.deploy.now) c.args.kept.now c.loop-place.place-index 0 _ c.loop-place-test.true (slice_get_past (items_of c.args.deploy.now) place past) c.loop-place.invariant

pub loop-place-preserved : goal.loop-place-preserved
loop-place-preserved c =
    let place = get_or c.args.kept.now c.loop-place.place-index 0 in
    let items = items_of c.args.deploy.now in
    let there : slice_get c.deref.result.now place ≡ Some c.in-Some.item.now = slice_get-get_or c.deref.result.now place c.in-Some.item.now c.in-Some.ensures.lookup.3.0 ∙ ap Some (sym c.in-Some.ensures.lookup.1) in
    c.in_ok-push.ensures.items ∙ ap (λ (i : BootItem). c.loop-place.items.items ++ i ∷ []) c.in_ok-copy.ensures
    ∙ stays_some (item_of c.args.deploy.now c.args.id.now) items c.args.kept.now c.loop-place.place-index 0 c.in-Some.item.now _ c.loop-place-test.true (subst (λ l. slice_get l place ≡ Some c.in-Some.item.now) c.deref.ensures.value there) c.loop-place.invariant
