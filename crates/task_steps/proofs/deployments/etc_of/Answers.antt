use Rattle.std.proofs.Common.{IfOk, codes, subst, ap, ◌∙◌}
use Rattle.ost_types.specs.Path.{Path, under}
use Rattle.checkout.specs.CheckoutWork.{IsPlaced}
use Rattle.task_steps.proofs.deployments.etc_of.Goals as goal

pub returns-clause-placed : goal.returns-clause-placed
returns-clause-placed c = subst (λ at. IfOk c.small_tree.result (IsPlaced at)) (c.in_ok-etc.ensures ∙ ap (λ (f : Path). under f (codes "etc")) c.in_ok-folder.ensures) c.small_tree.ensures.placed
