use Rattle.deployment_build.proofs.PathBounds.{etc-name}
use Rattle.deployment_build.proofs.paths.etc_path.Goals as goal

pub known_name-requires : goal.known_name-requires
known_name-requires c = etc-name
