use Rattle.std.proofs.Common.{⊎_elim}
use Rattle.repo_model.specs.Objects.{Stores}
use Rattle.repo_model.proofs.Stored.{stores_map}
use Rattle.reach.specs.Reach.{Is, start}
use Rattle.reach.proofs.Reaching.{reach_kind}
use Rattle.reach.proofs.Commits.{named_reached, reached_has, reached_named}
use Rattle.reach.proofs.laws.commits_reach.Goals as goal

pub returns-clause-named : goal.returns-clause-named
returns-clause-named c = λ d commit parts here o. (
  reached_named (Stores d) commit parts here (stores_map d) o,
  ⊎_elim (λ is. start o is) (λ way. named_reached (Stores d) commit parts here way.0 o way.1),
)

pub returns-clause-alone : goal.returns-clause-alone
returns-clause-alone c = λ d one. reach_kind (Stores d) (Is one)

pub returns-clause-whole : goal.returns-clause-whole
returns-clause-whole c = λ d. reached_has (Stores d) (stores_map d)
