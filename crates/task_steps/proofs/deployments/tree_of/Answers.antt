use Rattle.std.proofs.Common.{IfOk, subst}
use Rattle.checkout.specs.CheckoutWork.{IsPlaced}
use Rattle.task_steps.proofs.deployments.tree_of.Goals as goal

pub returns-clause-placed : goal.returns-clause-placed
returns-clause-placed c = subst (λ at. IfOk c.small_tree.result (IsPlaced at)) c.in_ok-folder.ensures c.small_tree.ensures.placed
