use Rattle.std.proofs.Common.{◌≡◌, take}
use Rattle.read_command.specs.Listing.{rows_below}
use Rattle.read_command.proofs.rows.rows_below.Given as goal

abbrev pub invariant-loop-at : goal.invariant-loop-at
invariant-loop-at l = l.rows.items ≡ rows_below l.path (take l.at-index l.at-items)
