use Rattle.std.proofs.Common.{◌≡◌, map, take}
use Rattle.top_call.specs.Status.{greatest, lane_status}
use Rattle.top_call.proofs.status.replies_status.Given as goal

abbrev pub invariant-loop-replies : goal.invariant-loop-replies
invariant-loop-replies l = l.status ≡ greatest (map (λ lane. lane_status lane.items) (take l.replies-index l.lanes))
