use Rattle.std.specs.Prelude.{Contains}
use Rattle.repo_model.specs.Objects.{Stores}
use Rattle.reach.proofs.Reaching.{reach_least, reach_up}
use Rattle.reach.proofs.laws.reach_is_least.Goals as goal

pub returns-clause-least : goal.returns-clause-least
returns-clause-least c = λ d from keep. reach_least (Stores d) (Contains from) (Contains keep)

pub returns-clause-more : goal.returns-clause-more
returns-clause-more c = λ d e from to. reach_up (Stores d) (Stores e) (Contains from) (Contains to)
