use Rattle.std.proofs.Common.{◌≡◌, length, drop}
use Rattle.commands.proofs.Rooms.{Filled}
use Rattle.commands.proofs.lanes.replies_of.Given as goal

abbrev pub invariant-loop-lane : goal.invariant-loop-lane
invariant-loop-lane l = record {
  place : l.place ≡ length l.yielded;
  filled : Filled l.yielded (drop (length l.yielded) l.fn.lanes.items) l.rows.items;
}
