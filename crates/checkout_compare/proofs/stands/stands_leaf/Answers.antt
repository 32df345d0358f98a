use Rattle.std.proofs.Common.{◌≡◌, ◌↔◌, ◌∙◌, IfOk, IsTrue, Some, ap, subst}
use Rattle.fs_trait.specs.Effect.{IsNode}
use Rattle.fs_trait.specs.Seen.{Symlink, shows}
use Rattle.checkout.specs.CheckoutFolder.{leaf_path}
use Rattle.checkout_compare.proofs.Values.{link_objects}
use Rattle.checkout_compare.proofs.stands.stands_leaf.Goals as goal

pub returns-in-Some-Link-clause-told : goal.returns-in-Some-Link-clause-told
returns-in-Some-Link-clause-told g c = λ v told.
    let link = c.in-Some-Link in
    let here = subst (IsNode v.now (v.now.at c.args.at.now)) (link.is ∙ ap Some link.field-0-is) (c.in_ok-meta.ensures.answer v told).1 in
    let there = c.stands_link.ensures.told v (c.in_ok-meta.ensures.quiet.view ∙ told) in
    link_objects v.now (v.now.at c.args.at.now) (v.now.at (leaf_path c.args.csum.now)) link.meta link.target here c.stands_link.result
    (subst (λ p. IfOk c.stands_link.result (λ b. IsTrue b ↔ (shows v.now p ≡ Symlink link.meta link.target))) c.in_ok-object.ensures there)
