use Rattle.std.proofs.Common.{◌++◌, sym, ◌∙◌, ap}
use Rattle.script.specs.Lines.{lane_lines}
use Rattle.script.proofs.LineLemmas.{lines_from-nil, lines_step}
use Rattle.script.proofs.lines.write_replies.Goals as goal

pub loop-lane-init : goal.loop-lane-init
loop-lane-init c = c.new-text.ensures ∙ sym (lines_from-nil 0)

pub loop-lane-preserved : goal.loop-lane-preserved
loop-lane-preserved c =
    lines_step (λ r. r.items) c.loop-lane.text _ c.loop-lane.lane c.args.lanes.now c.index-lanes-lane.result c.loop-lane-test.true c.index-lanes-lane.is c.loop-lane.invariant
    (c.in_ok-append_lane.ensures ∙ ap (λ r. c.loop-lane.text ++ lane_lines c.loop-lane.lane 0 r) c.deref.ensures.value)
