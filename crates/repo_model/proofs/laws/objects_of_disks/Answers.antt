use Rattle.repo_model.proofs.Stored.{stores_map, stores_same}
use Rattle.repo_model.proofs.laws.objects_of_disks.Goals as goal

pub returns-clause-one : goal.returns-clause-one
returns-clause-one c = stores_map

pub returns-clause-same : goal.returns-clause-same
returns-clause-same c = stores_same
