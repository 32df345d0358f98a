use Rattle.std.proofs.Common.{rules, ◌∙◌, ap, sym, map}
use Rattle.std.proofs.lemmas.List.{take_all}
use Rattle.std.proofs.lemmas.Simd.{map-map}
use Rattle.top_call.specs.Status.{greatest, lane_status}
use Rattle.top_call.proofs.Greatest.{step}
use Rattle.top_call.proofs.status.replies_status.Goals as goal

pub loop-replies-preserved : goal.loop-replies-preserved
loop-replies-preserved c =
    c.max-status.ensures
    ∙ step (λ lane. lane_status lane.items) c.args.lanes.now c.loop-replies.replies-index c.replies-item.result _ _ (search rules) c.replies-item.is c.loop-replies.invariant
    (c.lane_status.ensures ∙ ap lane_status c.deref.ensures.value)

pub returns : goal.returns
returns c =
    c.loop-replies.invariant ∙ ap (λ l. greatest (map (λ lane. lane_status lane.items) l)) (take_all _ c.args.lanes.now (search rules))
    ∙ ap greatest (sym (map-map lane_status (λ lane. lane.items) c.args.lanes.now))
