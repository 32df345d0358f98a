use Rattle.std.proofs.Common.{◌∙◌, ap, sym, subst}
use Rattle.fs_trait.specs.Effect.{IsNode}
use Rattle.repo_layout.specs.Fixed.{number}
use Rattle.repo_layout.specs.BootPaths.{boot_link_path}
use Rattle.boot_plan.specs.Plans.{IsLinks}
use Rattle.boot_swap.specs.Swap.{version_of}
use Rattle.boot_swap.specs.Ready.{IsOther}
use Rattle.boot_swap.specs.Steps.{Needs}
use Rattle.boot_swap.proofs.Making.{links_begin, needs_at}
use Rattle.boot_swap.proofs.task.SwapTask.look_link.Goals as goal

pub returns-clause-after : goal.returns-clause-after
returns-clause-after g c = λ v told.
    let needs = needs_at _ _ _ v c.in-LookLink.is (subst (λ t. Needs t v) (sym c.self.view_is) (c.requires.needs v told)) in
    let at = c.in_ok-at.ensures ∙ ap (λ n. boot_link_path (number n)) c.version_of-version.ensures in
    let node = subst (λ p. IsNode v.now (v.now.at p) c.in_ok-node.node) at (c.in_ok-node.ensures.answer v told).1 in
    let other = subst (λ n. IsOther n c.in_ok-node.node c.other_sub-sub.result) c.version_of-version.ensures c.other_sub-sub.ensures in
    let links = subst (λ i. IsLinks (number (version_of c.in-LookLink.swap)) (number c.other_sub-sub.result) i c.in_ok-build.build) c.deref.ensures.value
    (subst (λ n. IsLinks (number n) (number c.other_sub-sub.result) c.deref.result.now c.in_ok-build.build) c.version_of-version.ensures c.in_ok-build.ensures) in
    (v, c.in_ok-node.ensures.quiet.view ∙ told, links_begin _ _ c.other_sub-sub.result c.in_ok-build.build v c.in_ok-node.node needs node other links)
