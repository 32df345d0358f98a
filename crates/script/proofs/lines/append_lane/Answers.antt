use Rattle.std.proofs.Common.{◌++◌, sym, ◌∙◌, ap, append-nil}
use Rattle.script.proofs.LineLemmas.{lane_lines-nil, lane_step}
use Rattle.script.proofs.lines.append_lane.Goals as goal

pub loop-command-init : goal.loop-command-init
loop-command-init c = sym (ap (λ t. c.args.text.now ++ t) (lane_lines-nil c.args.lane 0) ∙ append-nil c.args.text.now)

pub loop-command-preserved : goal.loop-command-preserved
loop-command-preserved c =
    lane_step c.args.text.now c.loop-command.text _ c.args.lane c.loop-command.command c.args.replies.now c.index-replies-command.result c.loop-command-test.true c.index-replies-command.is c.loop-command.invariant
    c.in_ok-append_reply.ensures
