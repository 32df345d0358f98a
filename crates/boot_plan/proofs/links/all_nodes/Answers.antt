use Rattle.std.proofs.Common.{◌+◌, ◌∷◌, [], ◌++◌, ◌<◌, List, length, sym, ◌∙◌, ap, subst, arith}
use Rattle.repo_layout.specs.BootPaths.{boot_folder_path}
use Rattle.repo_layout.specs.Fixed.{number}
use Rattle.folder_build.specs.declared.node.Content.TheVariants.{Folder}
use Rattle.folder_build.specs.declared.node.NewNode.{NewNode}
use Rattle.boot_plan.specs.Plans.{AreLaid}
use Rattle.boot_plan.proofs.LinkNodes.{SoFar, begins, goes_on, is_plan, laid_begins, laid_goes_on}
use Rattle.boot_plan.proofs.Growing.{item_at}
use Rattle.boot_plan.proofs.Plain.{deploy_target-some}
use Rattle.boot_plan.proofs.links.all_nodes.Goals as goal

pub loop-index-init : goal.loop-index-init
loop-index-init c =
    subst (λ (m : List NewNode). SoFar (number c.args.version) (number c.args.sub) c.args.items.now 0 m × AreLaid (boot_folder_path (number c.args.version) (number c.args.sub) ∷ []) m)
    (sym (c.in_ok-push.ensures.items ∙ ap (λ l. l ++ record { at = c.in_ok-fixed_path.field-0; what = Folder } ∷ []) c.new-nodes.ensures.items ∙ ap (λ p. record { at = p; what = Folder } ∷ []) c.in_ok-fixed_path.ensures))
    (begins (number c.args.version) (number c.args.sub) c.args.items.now, laid_begins c.args.version c.args.sub c.args.items.now)

pub loop-index-preserved : goal.loop-index-preserved
loop-index-preserved c =
    let less : c.loop-index.index < length c.args.items.now = omega (arith, c.loop-index-test.true, c.loop-index.auto.index-end) in
    let item = item_at c.args.items.now c.loop-index.index less in
    subst (λ (m : List NewNode). SoFar (number c.args.version) (number c.args.sub) c.args.items.now (c.loop-index.index + 1) m × AreLaid (boot_folder_path (number c.args.version) (number c.args.sub) ∷ []) m) (sym (c.in_ok-push_links.ensures item.0 (less, item.1))) (
      goes_on (number c.args.version) (number c.args.sub) c.args.items.now c.requires c.loop-index.index item.0 (less, item.1) (deploy_target-some item.0.id) c.loop-index.nodes.items c.loop-index.invariant.0,
      laid_goes_on c.args.version c.args.sub c.args.items.now c.requires c.loop-index.index item.0 (less, item.1) c.loop-index.nodes.items c.loop-index.invariant.1,
    )

pub returns-clause-plan : goal.returns-clause-plan
returns-clause-plan c = is_plan (number c.args.version) (number c.args.sub) c.args.items.now c.loop-index.nodes.items c.loop-index.index c.loop-index.invariant.0
