use Rattle.std.proofs.Common.{◌≡◌}
use Rattle.std.specs.Prelude.{map, take}
use Rattle.repo_model.specs.Objects.{path_of}
use Rattle.prune_sweep.proofs.plan.paths_of.Given as goal

-- the paths so far
abbrev pub invariant-loop-name : goal.invariant-loop-name
invariant-loop-name l = l.paths.items ≡ map path_of (take l.name-index l.names)
