use Rattle.repo_model.specs.Objects.{Stores}
use Rattle.tree_build.proofs.Shown.{complete, shows_same}
use Rattle.tree_build.proofs.laws.tree_is_whole.Goals as goal

pub returns-clause-whole : goal.returns-clause-whole
returns-clause-whole c = λ d. complete (Stores d)

pub returns-clause-shows : goal.returns-clause-shows
returns-clause-shows c = λ d. shows_same (Stores d)
