use Rattle.repo_model.specs.Objects.{Stores}
use Rattle.repo_model.proofs.Stored.{stores_map}
use Rattle.tree_reach.proofs.Commits.{held_all, held_whole}
use Rattle.tree_reach.proofs.laws.trees_are_held.Goals as goal

pub returns-clause-all : goal.returns-clause-all
returns-clause-all c = λ d limits items commit bytes has is kept. held_all (Stores d) limits items has commit bytes is kept

pub returns-clause-whole : goal.returns-clause-whole
returns-clause-whole c = λ d limits items commit bytes has is kept. held_whole (Stores d) limits items has commit bytes is kept (stores_map d)
