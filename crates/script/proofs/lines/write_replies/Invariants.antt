use Rattle.std.proofs.Common.{◌≡◌, map, take}
use Rattle.script.specs.Lines.{lines_from}
use Rattle.script.proofs.lines.write_replies.Given as goal

abbrev pub invariant-loop-lane : goal.invariant-loop-lane
invariant-loop-lane l = l.text ≡ lines_from 0 (map (λ replies. replies.items) (take l.lane l.lanes))
