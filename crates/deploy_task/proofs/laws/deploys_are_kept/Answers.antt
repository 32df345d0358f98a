use Rattle.deploy_task.proofs.DeployKept.{deploy_kept}
use Rattle.deploy_task.proofs.laws.deploys_are_kept.Goals as goal

pub returns : goal.returns
returns g c = λ t v w tree writes spares needs. deploy_kept g.S.Writing.writes t v w tree writes spares needs
