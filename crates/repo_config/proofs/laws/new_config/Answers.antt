use Rattle.repo_config.proofs.NewConfig.{new_is}
use Rattle.repo_config.proofs.laws.new_config.Goals as goal

pub returns : goal.returns
returns c = new_is
