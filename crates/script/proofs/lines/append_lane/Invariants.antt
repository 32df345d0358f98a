use Rattle.std.proofs.Common.{◌≡◌, ◌++◌, take}
use Rattle.script.specs.Lines.{lane_lines}
use Rattle.script.proofs.lines.append_lane.Given as goal

abbrev pub invariant-loop-command : goal.invariant-loop-command
invariant-loop-command l = l.text ≡ l.fn.text ++ lane_lines l.lane 0 (take l.command l.replies)
