use Rattle.list_swap.proofs.Deploying.{deploys_publish, deploys_settle}
use Rattle.list_swap.proofs.laws.deploys_publish.Goals as goal

pub returns-clause-begins : goal.returns-clause-begins
returns-clause-begins c t v w rows tree needs shows writes readable stands = deploys_publish t v w rows tree needs shows writes readable stands

pub returns-clause-settles : goal.returns-clause-settles
returns-clause-settles c t v w link old new before after needs syncs writes deployed readable ids swapped = deploys_settle t v w link old new before after needs syncs writes deployed readable ids swapped
