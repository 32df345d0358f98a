use Rattle.std.proofs.Common.{◌≤◌, ◌+◌, sym, subst, arith, rules, length, take}
use Rattle.std.proofs.lemmas.List.{take_all}
use Rattle.std.specs.Prelude.{vec_capacity}
use Rattle.commands.specs.Lanes.{HasRoom, counts_of, words_in}
use Rattle.commands.proofs.Rooms.{room_next}
use Rattle.commands.proofs.lanes.reply_room.Goals as goal

pub loop-lane-init : goal.loop-lane-init
loop-lane-init c = subst (λ rows. HasRoom (counts_of (words_in (take 0 c.args.lanes.now))) rows) (sym c.in_ok-room.ensures.items) tt

pub loop-lane-preserved : goal.loop-lane-preserved
loop-lane-preserved c =
    let row = c.in_ok-with_capacity.field-0 in
    let lane = c.lane-item.result in
    let enough : length lane.words.items ≤ vec_capacity row = search rules in
    subst (λ rows. HasRoom (counts_of (words_in (take (c.loop-lane.lane-index + 1) c.args.lanes.now))) rows) (sym c.in_ok-push.ensures.items)
    (room_next c.args.lanes.now c.loop-lane.lane-index lane c.loop-lane.room.items row c.loop-lane-test.true c.lane-item.is c.loop-lane.invariant c.in_ok-with_capacity.ensures.items enough)

pub returns : goal.returns
returns c = subst (λ lanes. HasRoom (counts_of (words_in lanes)) c.loop-lane.room.items) (take_all c.loop-lane.lane-index c.args.lanes.now (omega (arith, c.loop-lane-test.false))) c.loop-lane.invariant
