use Rattle.std.proofs.Common.{refl, ap, arith}
use Rattle.std.proofs.lemmas.List.{length-map}
use Rattle.script_reader.specs.Drafts.{lanes_of}
use Rattle.script_reader.specs.Script.{in_lane}
use Rattle.script_reader.proofs.step.open_lane.Goals as goal

pub returns-then-len-ge-LANE_LIMIT : goal.returns-then-len-ge-LANE_LIMIT
returns-then-len-ge-LANE_LIMIT c = (refl, omega (arith, length-map c.args.sections.lanes.items (λ lane. lane.commands.items), c.if-len-ge-LANE_LIMIT.true, c.len.ensures))

pub returns : goal.returns
returns c =
    (omega (arith, length-map c.args.sections.lanes.items (λ lane. lane.commands.items), c.if-len-ge-LANE_LIMIT.false, c.len.ensures), ap (in_lane c.args.sections.trees.items (lanes_of c.args.sections)) c.new.ensures.items)
