use Rattle.deployment_check.proofs.Once.{judged_once}
use Rattle.deployment_check.proofs.laws.judgements_are_told_once.Goals as goal

pub returns : goal.returns
returns c = judged_once c.trees_boot_once.ensures
