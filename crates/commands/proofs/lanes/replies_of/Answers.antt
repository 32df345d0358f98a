use Rattle.std.proofs.Common.{◌<◌, ◌≤◌, ◌+◌, ap, sym, ◌∙◌, ◌++◌, ◌∷◌, [], arith, rules, length, subst, drop, get_or, set, refl}
use Rattle.std.proofs.lemmas.List.{drop_all, length_push, map-id}
use Rattle.std.proofs.lemmas.Iterator.Consumers.{YieldsList-end, YieldsList-turn}
use Rattle.std.proofs.lemmas.Iterator.Adapters.{YieldsList-from_vec}
use Rattle.std.specs.Prelude.{vec_capacity}
use Rattle.std.specs.Global.{Vec}
use Rattle.script.specs.declared.answer.Reply.{Reply}
use Rattle.commands.proofs.Rooms.{Filled, filled_all, filled_more, filled_next, filled_within, rest_at}
use Rattle.commands.proofs.lanes.replies_of.Goals as goal

pub loop-lane-init : goal.loop-lane-init
loop-lane-init c = record { place = refl; filled = c.requires }

pub index_mut-requires : goal.index_mut-requires
index_mut-requires c =
    let turn = YieldsList-turn (YieldsList-from_vec {s = c.into_iter-lane-iterator.result} c.args.lanes.items (search rules) (search rules)) c.loop-lane.yielded c.loop-lane.lane-iterator c.loop-lane.yielded_by c.next.result c.next.new.self c.in-Some.lane c.in-Some.is c.next.ensures.steps in
    let filled = subst (λ rest. Filled c.loop-lane.yielded rest c.loop-lane.rows.items) (rest_at c.args.lanes.items (length c.loop-lane.yielded) c.in-Some.lane turn) c.loop-lane.invariant.filled in
    omega (arith, filled_within c.loop-lane.yielded c.in-Some.lane (drop (length c.loop-lane.yielded + 1) c.args.lanes.items) c.loop-lane.rows.items filled, c.loop-lane.invariant.place, c.loop-lane.rows.ok.0)

pub put_replies-requires : goal.put_replies-requires
put_replies-requires c =
    let turn = YieldsList-turn (YieldsList-from_vec {s = c.into_iter-lane-iterator.result} c.args.lanes.items (search rules) (search rules)) c.loop-lane.yielded c.loop-lane.lane-iterator c.loop-lane.yielded_by c.next.result c.next.new.self c.in-Some.lane c.in-Some.is c.next.ensures.steps in
    let filled = subst (λ rest. Filled c.loop-lane.yielded rest c.loop-lane.rows.items) (rest_at c.args.lanes.items (length c.loop-lane.yielded) c.in-Some.lane turn) c.loop-lane.invariant.filled in
    let next = filled_next c.loop-lane.yielded c.in-Some.lane (drop (length c.loop-lane.yielded + 1) c.args.lanes.items) c.loop-lane.rows.items c.index_mut.result.now filled in
    let at = c.index_mut.ensures.value ∙ ap (λ n. get_or c.loop-lane.rows.items n c.index_mut.result.now) c.loop-lane.invariant.place in
    record {
      empty = ap (λ (r : Vec Reply). r.items) at ∙ next.0;
      room = subst (λ (r : Vec Reply). length c.in-Some.lane.replies.items ≤ vec_capacity r) (sym at) next.1;
    }

pub loop-lane-preserved : goal.loop-lane-preserved
loop-lane-preserved c =
    let turn = YieldsList-turn (YieldsList-from_vec {s = c.into_iter-lane-iterator.result} c.args.lanes.items (search rules) (search rules)) c.loop-lane.yielded c.loop-lane.lane-iterator c.loop-lane.yielded_by c.next.result c.next.new.self c.in-Some.lane c.in-Some.is c.next.ensures.steps in
    let filled = subst (λ rest. Filled c.loop-lane.yielded rest c.loop-lane.rows.items) (rest_at c.args.lanes.items (length c.loop-lane.yielded) c.in-Some.lane turn) c.loop-lane.invariant.filled in
    let done = c.loop-lane.yielded ++ c.in-Some.lane ∷ [] in
    record {
      place = omega (arith, c.loop-lane.invariant.place, length_push c.loop-lane.yielded c.in-Some.lane);
      filled = subst (λ n. Filled done (drop n c.args.lanes.items) (set c.loop-lane.rows.items c.loop-lane.place c.put_replies.new.row)) (sym (length_push c.loop-lane.yielded c.in-Some.lane))
          (subst (λ p. Filled done (drop (length c.loop-lane.yielded + 1) c.args.lanes.items) (set c.loop-lane.rows.items p c.put_replies.new.row)) (sym c.loop-lane.invariant.place)
          (filled_more c.loop-lane.yielded c.in-Some.lane (drop (length c.loop-lane.yielded + 1) c.args.lanes.items) c.loop-lane.rows.items c.put_replies.new.row filled c.put_replies.ensures));
    }

pub returns : goal.returns
returns c =
    let end = YieldsList-end (YieldsList-from_vec {s = c.into_iter-lane-iterator.result} c.args.lanes.items (search rules) (search rules)) c.loop-lane.yielded c.loop-lane.lane-iterator c.loop-lane.yielded_by c.next.result c.next.new.self c.in-None.is c.next.ensures.steps in
    let none = drop_all (length c.loop-lane.yielded) c.args.lanes.items (omega (arith, end.1)) in
    filled_all c.args.lanes.items c.loop-lane.rows.items
    (subst (λ done. Filled done [] c.loop-lane.rows.items) (sym (map-id c.loop-lane.yielded) ∙ end.0)
    (subst (λ rest. Filled c.loop-lane.yielded rest c.loop-lane.rows.items) none c.loop-lane.invariant.filled))
