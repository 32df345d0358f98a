use Rattle.deploy_task.proofs.LeftLists.{leaves_list}
use Rattle.deploy_task.proofs.laws.leaves_a_list.Goals as goal

pub returns : goal.returns
returns c = leaves_list
