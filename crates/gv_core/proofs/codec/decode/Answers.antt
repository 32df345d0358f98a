use Rattle.std.proofs.Common.{refl, sym, ◌∙◌, inr}
use Rattle.gv_core.specs.Tree.{view}
use Rattle.gv_core.proofs.Sizes.{some_is}
use Rattle.gv_core.proofs.Inverse.{only_read, fails_some, fails_cause, same_true, found_again, not_normal}
use Rattle.gv_core.proofs.codec.decode.Goals as goal

pub returns-in-Err-clause-only : goal.returns-in-Err-clause-only
returns-in-Err-clause-only c = λ v n. fails_some c.in-Err.fault _ v (only_read c.args.kind.now c.node-node.result.now v c.args.bytes.now c.node-node.ensures n) c.in-Err.ensures

pub returns-in-Err-clause-fault : goal.returns-in-Err-clause-fault
returns-in-Err-clause-fault c = fails_cause c.in-Err.fault c.args.kind.now c.node-node.result.now c.args.bytes.now c.node-node.ensures c.in-Err.ensures

pub returns-then-is_same-clause-form : goal.returns-then-is_same-clause-form
returns-then-is_same-clause-form c =
    found_again c.args.kind.now c.node-node.result.now (view c.in-Ok.value) c.args.bytes.now c.node-node.ensures c.in-Ok.ensures (c.in_ok-encoded.ensures ∙ same_true _ _ (sym c.if-is_same.ensures))

pub returns-then-is_same-clause-only : goal.returns-then-is_same-clause-only
returns-then-is_same-clause-only c = λ v n.
    some_is (view c.in-Ok.value) v (sym c.in-Ok.ensures ∙ only_read c.args.kind.now c.node-node.result.now v c.args.bytes.now c.node-node.ensures n)

pub returns-else-is_same-clause-only : goal.returns-else-is_same-clause-only
returns-else-is_same-clause-only c = λ v n.
    absurd (not_normal c.args.kind.now c.node-node.result.now (view c.in-Ok.value) v c.args.bytes.now _ c.node-node.ensures c.in-Ok.ensures c.in_ok-encoded.ensures (sym c.if-is_same.ensures) n)

pub returns-else-is_same-clause-fault : goal.returns-else-is_same-clause-fault
returns-else-is_same-clause-fault c = inr (
  refl,
  λ v n.
      not_normal c.args.kind.now c.node-node.result.now (view c.in-Ok.value) v c.args.bytes.now _ c.node-node.ensures c.in-Ok.ensures c.in_ok-encoded.ensures (sym c.if-is_same.ensures) n,
)
