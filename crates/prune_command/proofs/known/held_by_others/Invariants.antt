use Rattle.std.proofs.Common.{◌≡◌}
use Rattle.std.specs.Prelude.{map, take}
use Rattle.rely_guarantee.specs.Pinning.{without}
use Rattle.prune_command.specs.Learned.{object_of}
use Rattle.prune_command.proofs.known.held_by_others.Given as goal

abbrev pub invariant-loop-pin : goal.invariant-loop-pin
invariant-loop-pin l = l.names ≡ map object_of (without l.lane (take l.pin-index l.pins))
