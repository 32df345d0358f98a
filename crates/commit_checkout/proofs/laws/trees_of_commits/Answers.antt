use Rattle.repo_model.specs.Objects.{Stores}
use Rattle.repo_model.proofs.Stored.{stores_map}
use Rattle.commit_checkout.proofs.TreeMaps.{tree_placed, leaves_there, tree_folder}
use Rattle.commit_checkout.proofs.laws.trees_of_commits.Goals as goal

pub returns-clause-placed : goal.returns-clause-placed
returns-clause-placed c = λ d limits commit tree into map whole is room. tree_placed (Stores d) (stores_map d) limits commit tree map whole is into room

pub returns-clause-leaves : goal.returns-clause-leaves
returns-clause-leaves c = leaves_there

pub returns-clause-folder : goal.returns-clause-folder
returns-clause-folder c = λ d. tree_folder (Stores d)
