use Rattle.std.proofs.Common.{sym, subst}
use Rattle.deployment_build.specs.Deployment.{MayBuild}
use Rattle.task_steps.proofs.deployments.build.Goals as goal

pub new-requires : goal.new-requires
new-requires g c = subst (λ stage. MayBuild stage c.in_ok-new.new) (sym c.in_ok-stage.ensures) c.in_ok-new.ensures
