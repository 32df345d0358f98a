use Rattle.std.proofs.Common.{rules, ◌≡◌, true, subst}
use Rattle.checkout_compare.specs.Looking.{IsAs}
use Rattle.checkout_compare.proofs.Listings.{leaf_inside}
use Rattle.checkout_compare.proofs.Values.{leaf_as}
use Rattle.checkout_compare.proofs.look.look.Goals as goal

pub returns-in-Leaf-clause-told : goal.returns-in-Leaf-clause-told
returns-in-Leaf-clause-told g c = λ v told.
    let yes : c.in_ok-stands.stands ≡ true = search rules in
    let here = subst (λ p. IsAs v.now p c.args.node.now) c.in_ok-at.ensures ((c.in_ok-stands.ensures.told v told).0 yes) in
    (here, leaf_inside v.now (g.met.F.Fs.tree c.args.fs.now v told) c.args.into.now c.args.path.now c.args.tree.now (leaf_as v.now _ c.args.node.now c.in-Leaf.field-0 c.in-Leaf.is here))
