use Rattle.std.proofs.Common.{◌≡◌, ◌++◌}
use Rattle.std.specs.Prelude.{map, take}
use Rattle.prune_command.specs.Learned.{commit_of, deployed_of}
use Rattle.prune_command.proofs.known.commits_of.Given as goal

abbrev pub invariant-loop-id : goal.invariant-loop-id
invariant-loop-id l = l.names ≡ map commit_of l.rows ++ map deployed_of (take l.id-index l.deployments)
