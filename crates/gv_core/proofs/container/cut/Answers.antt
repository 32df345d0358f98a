use Rattle.std.proofs.Common.{◌≡◌, map, refl, sym, ap, ◌∙◌, inr}
use Rattle.std.specs.Prelude.{option_map}
use Rattle.gv_core.specs.Container.{raws, container}
use Rattle.gv_core.proofs.Inverse.{fails_some}
use Rattle.gv_core.proofs.Raws.{only_cut, same_cut, no_cut, cut_fails}
use Rattle.gv_core.proofs.container.cut.Goals as goal

pub returns-in-Err-clause-only : goal.returns-in-Err-clause-only
returns-in-Err-clause-only c = λ rs n. fails_some c.in-Err.fault _ (raws rs) (only_cut c.args.kind.now c.node-node.result.now rs c.args.bytes.now c.node-node.ensures n) c.in-Err.ensures

pub returns-in-Err-clause-fault : goal.returns-in-Err-clause-fault
returns-in-Err-clause-fault c = cut_fails c.in-Err.fault c.args.kind.now c.node-node.result.now c.args.bytes.now c.node-node.ensures c.in-Err.ensures

pub returns-then-is_same-clause-only : goal.returns-then-is_same-clause-only
returns-then-is_same-clause-only c = λ rs n. same_cut c.args.kind.now c.node-node.result.now rs _ c.args.bytes.now c.node-node.ensures n c.in-Ok.ensures

pub returns-clause-only : goal.returns-clause-only
returns-clause-only c = λ rs n.
    let members : container c.node-node.result.now (map (λ b. b.now) c.in-Ok.members.items) ≡ option_map (λ v. v.items) c.in_ok-joined.joined = ap (λ x. container c.node-node.result.now (map (λ b. b.now) x)) (sym c.deref.ensures.value) ∙ c.in_ok-joined.ensures in
    absurd (no_cut c.args.kind.now c.node-node.result.now rs _ c.args.bytes.now _ c.node-node.ensures n c.in-Ok.ensures members (sym c.if-is_same.ensures))

pub returns-clause-fault : goal.returns-clause-fault
returns-clause-fault c = inr (
  refl,
  λ rs n.
      let members : container c.node-node.result.now (map (λ b. b.now) c.in-Ok.members.items) ≡ option_map (λ v. v.items) c.in_ok-joined.joined = ap (λ x. container c.node-node.result.now (map (λ b. b.now) x)) (sym c.deref.ensures.value) ∙ c.in_ok-joined.ensures in
      no_cut c.args.kind.now c.node-node.result.now rs _ c.args.bytes.now _ c.node-node.ensures n c.in-Ok.ensures members (sym c.if-is_same.ensures),
)
