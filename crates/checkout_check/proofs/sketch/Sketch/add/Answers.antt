use Rattle.checkout_check.proofs.Making.{add_placed}
use Rattle.checkout_check.proofs.sketch.Sketch.add.Goals as goal

pub invariant_of-self-2 : goal.invariant_of-self-2
invariant_of-self-2 c = (
  c.self.invariant.0,
  add_placed c.self.inside.into _ _ c.self.view_is c.self.invariant.0 c.self.invariant.1 c.args.folder.now c.args.name.now _ c.in_ok-path.ensures c.args.node (c.takes.ensures c.if-not-takes.false) _ c.in_ok-push.ensures.ok,
)
