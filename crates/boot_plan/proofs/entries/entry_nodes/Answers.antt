use Rattle.std.proofs.Common.{◌+◌, ◌∷◌, [], ◌++◌, ◌<◌, List, length, sym, ◌∙◌, ap, subst, arith}
use Rattle.folder_build.specs.declared.node.NewNode.{NewNode}
use Rattle.repo_layout.specs.BootPaths.{loader_folder_path}
use Rattle.repo_layout.specs.Fixed.{entries_path, number}
use Rattle.boot_plan.specs.Plans.{AreLaid}
use Rattle.boot_plan.proofs.EntryNodes.{SoFar, begins, goes_on, is_plan, laid_begins, laid_goes_on}
use Rattle.boot_plan.proofs.Growing.{item_at}
use Rattle.boot_plan.proofs.entries.entry_nodes.Goals as goal

pub loop-index-init : goal.loop-index-init
loop-index-init c =
    subst (λ (m : List NewNode). SoFar (number c.args.loader) c.args.items.now 0 m × AreLaid (loader_folder_path (number c.args.loader) ∷ entries_path (number c.args.loader) ∷ []) m) (sym c.in_ok-nodes.ensures)
    (begins (number c.args.loader) c.args.items.now, laid_begins c.args.loader c.args.items.now)

pub loop-index-preserved : goal.loop-index-preserved
loop-index-preserved c =
    let less : c.loop-index.index < length c.args.items.now = omega (arith, c.loop-index-test.true, c.loop-index.auto.index-end) in
    let item = item_at c.args.items.now c.loop-index.index less in
    let node = c.in_ok-node.ensures item.0 (less, item.1) in
    subst (λ (m : List NewNode). SoFar (number c.args.loader) c.args.items.now (c.loop-index.index + 1) m × AreLaid (loader_folder_path (number c.args.loader) ∷ entries_path (number c.args.loader) ∷ []) m)
    (sym (c.in_ok-push.ensures.items ∙ ap (λ e. c.loop-index.nodes.items ++ e ∷ []) node)) (
      goes_on (number c.args.loader) c.args.items.now c.requires c.loop-index.index item.0 (less, item.1) c.loop-index.nodes.items c.loop-index.invariant.0,
      laid_goes_on c.args.loader c.args.items.now c.requires c.loop-index.index item.0 c.loop-index.nodes.items c.loop-index.invariant.1,
    )

pub returns-clause-plan : goal.returns-clause-plan
returns-clause-plan c = is_plan (number c.args.loader) c.args.items.now c.loop-index.nodes.items c.loop-index.index c.loop-index.invariant.0
