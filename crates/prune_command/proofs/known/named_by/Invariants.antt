use Rattle.std.proofs.Common.{◌≡◌}
use Rattle.std.specs.Prelude.{map, take}
use Rattle.prune_command.specs.Learned.{commit_of}
use Rattle.prune_command.proofs.known.named_by.Given as goal

abbrev pub invariant-loop-commit : goal.invariant-loop-commit
invariant-loop-commit l = l.names ≡ map commit_of (take l.commit-index l.rows)
