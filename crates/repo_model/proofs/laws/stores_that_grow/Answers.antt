use Rattle.repo_model.specs.Objects.{Stores}
use Rattle.repo_model.proofs.Stored.{stores_map}
use Rattle.repo_model.proofs.Grown.{tree_up, complete_up}
use Rattle.repo_model.proofs.laws.stores_that_grow.Goals as goal

pub returns-clause-shows : goal.returns-clause-shows
returns-clause-shows c = λ d e commit p n more shown. tree_up (Stores d) (Stores e) more commit p n shown

pub returns-clause-whole : goal.returns-clause-whole
returns-clause-whole c = λ d e limits commit more whole. complete_up (Stores d) (Stores e) more (stores_map e) limits commit whole
