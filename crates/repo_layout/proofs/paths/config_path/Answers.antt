use Rattle.std.proofs.Common.{refl}
use Rattle.ost_types.specs.Path.{joined}
use Rattle.repo_layout.specs.Paths.{config_path}
use Rattle.repo_layout.proofs.KnownPaths.{parsed, config-known}
use Rattle.repo_layout.proofs.paths.config_path.Goals as goal

pub known_path-requires : goal.known_path-requires
unfolding joined
known_path-requires c = (config_path, parsed config_path _ config-known refl)

pub returns : goal.returns
unfolding joined
returns c = c.known_path.ensures config_path (parsed config_path _ config-known refl)
