use Rattle.std.proofs.Common.{rules, ◌∙◌}
use Rattle.top_call.specs.Status.{answer_status}
use Rattle.top_call.proofs.Greatest.{step}
use Rattle.top_call.proofs.status.lane_status.Goals as goal

pub loop-reply-preserved : goal.loop-reply-preserved
loop-reply-preserved c =
    c.max-status.ensures
    ∙ step (λ reply. answer_status reply.answer) c.args.replies.now c.loop-reply.reply-index c.reply-item.result _ _ (search rules) c.reply-item.is c.loop-reply.invariant c.answer_status.ensures
