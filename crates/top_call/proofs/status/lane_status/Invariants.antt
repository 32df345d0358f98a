use Rattle.std.proofs.Common.{◌≡◌, take}
use Rattle.top_call.specs.Status.{lane_status}
use Rattle.top_call.proofs.status.lane_status.Given as goal

abbrev pub invariant-loop-reply : goal.invariant-loop-reply
invariant-loop-reply l = l.status ≡ lane_status (take l.reply-index l.replies)
