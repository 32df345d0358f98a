use Rattle.std.proofs.Common.{◌≡◌, take}
use Rattle.ref_room.proofs.folder.front.Given as goal

abbrev pub invariant-loop-name : goal.invariant-loop-name
invariant-loop-name l = l.front ≡ take l.name-index l.name-items
