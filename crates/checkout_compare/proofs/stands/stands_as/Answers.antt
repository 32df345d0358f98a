use Rattle.std.proofs.Common.{◌↔◌, IfOk, IsTrue, sym, subst}
use Rattle.ost_types.specs.declared.node.NodeName.{NodeName}
use Rattle.checkout_compare.specs.Looking.{IsAs}
use Rattle.checkout_compare.proofs.stands.stands_as.Goals as goal

pub returns-in-Leaf-clause-told : goal.returns-in-Leaf-clause-told
returns-in-Leaf-clause-told g c = λ v told.
    subst (λ (n : NodeName). IfOk c.stands_leaf.result (λ b. IsTrue b ↔ IsAs v.now c.args.at.now n)) (sym c.in-Leaf.is) (c.stands_leaf.ensures.told v told)
