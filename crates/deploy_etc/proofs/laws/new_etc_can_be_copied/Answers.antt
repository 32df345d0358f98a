use Rattle.deploy_etc.proofs.EtcLemmas.{etc_placed, leaf_from}
use Rattle.deploy_etc.proofs.laws.new_etc_can_be_copied.Goals as goal

pub returns-clause-placed : goal.returns-clause-placed
returns-clause-placed c = etc_placed

pub returns-clause-leaves : goal.returns-clause-leaves
returns-clause-leaves c = leaf_from
