use Rattle.repo_model.specs.Objects.{Stores}
use Rattle.part_reach.proofs.Readings.{reading_reached}
use Rattle.part_reach.proofs.laws.readings_need.Goals as goal

pub returns : goal.returns
returns c = λ d t knows. reading_reached (Stores d) t knows
