use Rattle.std.proofs.Common.{subst, arith}
use Rattle.gv_core.specs.Kind.{kind_of}
use Rattle.gv_core.specs.Stack.{OnlyKind}
use Rattle.gv_core.proofs.Stacks.{held_kind}
use Rattle.gv_core.proofs.type_string.read_type_string.Goals as goal

pub invariant_of-result : goal.invariant_of-result
invariant_of-result c =
    let h = subst (λ o. OnlyKind o (kind_of c.args.text.now)) c.in-Some.is c.in_ok-node.ensures in
    let known = held_kind c.args.text.now h.0 c.in-Some.node c.in-Some.depth h.1.0 h.1.1 (omega arith) in
    rw (c.in_ok-parts.ensures.ok, c.in_ok-text.ensures.items) known

pub returns : goal.returns
returns c =
    let h = subst (λ o. OnlyKind o (kind_of c.args.text.now)) c.in-Some.is c.in_ok-node.ensures in
    let known = held_kind c.args.text.now h.0 c.in-Some.node c.in-Some.depth h.1.0 h.1.1 (omega arith) in
    rw c.in_ok-parts.ensures.ok (c.in_ok-text.ensures.items, (c.in-Some.node, known))
