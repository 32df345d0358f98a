use Rattle.durable_deployments.proofs.Same.{same_deployment}
use Rattle.durable_deployments.proofs.laws.deployments_are_read.Goals as goal

pub returns : goal.returns
returns c limits d e id bootcsum same is = same_deployment limits d e id bootcsum same is
