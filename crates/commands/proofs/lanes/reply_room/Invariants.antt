use Rattle.std.proofs.Common.{take}
use Rattle.commands.specs.Lanes.{HasRoom, counts_of, words_in}
use Rattle.commands.proofs.lanes.reply_room.Given as goal

abbrev pub invariant-loop-lane : goal.invariant-loop-lane
invariant-loop-lane l = HasRoom (counts_of (words_in (take l.lane-index l.lanes))) l.room.items
