use Rattle.std.proofs.Common.{refl}
use Rattle.task_steps.proofs.deployments.new_deployment.Goals as goal

pub returns : goal.returns
returns c = record {
  staging = (0, refl);
  tree = c.in_ok-tree.ensures.placed;
  no_etc = c.in_ok-tree.ensures.no_etc;
  etc = c.in_ok-etc.ensures.placed;
  few = c.in_ok-etc.ensures.few;
  version = c.in_ok-kernel.ensures;
}
