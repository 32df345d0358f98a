use Rattle.std.specs.Prelude.{Contains}
use Rattle.repo_model.specs.Objects.{Stores}
use Rattle.reach.proofs.Reaching.{reach_back, reach_stays}
use Rattle.reach.proofs.laws.reach_needs.Goals as goal

pub returns-clause-stays : goal.returns-clause-stays
returns-clause-stays c = λ d e from. reach_stays (Stores d) (Stores e) (Contains from) (Contains from) (λ o has. has)

pub returns-clause-same : goal.returns-clause-same
returns-clause-same c = λ d e from same o. (
  reach_stays (Stores d) (Stores e) (Contains from) (Contains from) (λ x has. has) (λ x b reached. (same x b reached).0) o,
  reach_back (Stores d) (Stores e) (Contains from) (λ x b reached. (same x b reached).1) o,
)
