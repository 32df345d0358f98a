use Rattle.std.proofs.Common.{◌≤◌, sym, subst, arith, length}
use Rattle.ost_types.specs.Path.{IsPath}
use Rattle.ost_types.specs.PathMap.{Nodes}
use Rattle.ost_types.proofs.Ascending.{fits_first}
use Rattle.checkout_check.proofs.Making.{new_placed}
use Rattle.checkout_check.proofs.sketch.Sketch.new.Goals as goal

pub push-requires-clause-fits : goal.push-requires-clause-fits
push-requires-clause-fits c = fits_first c.new-tree.result c.root.result (subst (λ (m : Nodes). length m ≤ 0) (sym c.new-tree.ensures) (omega arith))

pub invariant_of-result : goal.invariant_of-result
invariant_of-result c = (
  c.in_ok-into.ensures,
  new_placed c.in_ok-into.into c.args.meta c.new-tree.result _ c.root.result c.new-tree.ensures c.root.ensures c.in_ok-push.ensures.ok (subst IsPath (sym c.in_ok-into.ensures) (c.can_hold.ensures.0 c.if-not-can_hold.false)),
)
