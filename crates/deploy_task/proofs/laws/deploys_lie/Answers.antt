use Rattle.deploy_task.proofs.DeployLies.{deploy_lies, deploy_spares_list}
use Rattle.deploy_task.proofs.laws.deploys_lie.Goals as goal

pub returns-clause-lies : goal.returns-clause-lies
returns-clause-lies c = deploy_lies

pub returns-clause-spares : goal.returns-clause-spares
returns-clause-spares c = deploy_spares_list
