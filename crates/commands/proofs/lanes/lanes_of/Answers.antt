use Rattle.std.proofs.Common.{◌≤◌, ap, sym, ◌∙◌, ◌++◌, ◌∷◌, [], rules, length, map, subst, arith}
use Rattle.std.proofs.lemmas.List.{map-id, map_push}
use Rattle.std.proofs.lemmas.List.Elements.{All-push}
use Rattle.std.proofs.lemmas.Iterator.Consumers.{YieldsList-end, YieldsList-turn}
use Rattle.std.proofs.lemmas.Iterator.Adapters.{YieldsList-from_vec}
use Rattle.std.specs.Prelude.{All}
use Rattle.script.specs.declared.command.Lane as script
use Rattle.commands.specs.Family.{Lane}
use Rattle.commands.specs.Lanes.{IsUnbegun}
use Rattle.commands.specs.Words.{words_of}
use Rattle.commands.proofs.lanes.lanes_of.Goals as goal

pub loop-lane-init : goal.loop-lane-init
loop-lane-init c = record {
  words = ap (map (λ (lane : Lane). lane.words.items)) c.in_ok-all.ensures.items;
  unbegun = subst (λ lanes. All IsUnbegun lanes) (sym c.in_ok-all.ensures.items) (λ i lane less. absurd (omega (arith, less)));
}

pub lane_of-requires : goal.lane_of-requires
lane_of-requires c =
    let turn = YieldsList-turn (YieldsList-from_vec {s = c.into_iter-lane-iterator.result} c.args.lanes.items (search rules) (search rules)) c.loop-lane.yielded c.loop-lane.lane-iterator c.loop-lane.yielded_by c.next.result c.next.new.self c.in-Some.lane c.in-Some.is c.next.ensures.steps in
    record { short = subst (λ (lane : script.Lane). length lane.commands.items ≤ 64) (sym turn.1) (c.requires.short (length c.loop-lane.yielded) c.in-Some.lane turn.0) }

pub loop-lane-preserved : goal.loop-lane-preserved
loop-lane-preserved c = record {
  words = ap (map (λ (lane : Lane). lane.words.items)) c.in_ok-push.ensures.items
      ∙ map_push (λ (lane : Lane). lane.words.items) c.loop-lane.all.items c.in_ok-lane_of.field-0
      ∙ ap (λ xs. xs ++ c.in_ok-lane_of.field-0.words.items ∷ []) c.loop-lane.invariant.words
      ∙ ap (λ x. map (λ (lane : script.Lane). map words_of lane.commands.items) c.loop-lane.yielded ++ x ∷ []) c.in_ok-lane_of.ensures.words
      ∙ sym (map_push (λ (lane : script.Lane). map words_of lane.commands.items) c.loop-lane.yielded c.in-Some.lane);
  unbegun = subst (λ lanes. All IsUnbegun lanes) (sym c.in_ok-push.ensures.items) (All-push IsUnbegun c.loop-lane.all.items c.in_ok-lane_of.field-0 c.loop-lane.invariant.unbegun c.in_ok-lane_of.ensures.unbegun);
}

pub returns-clause-words : goal.returns-clause-words
returns-clause-words c =
    let end = YieldsList-end (YieldsList-from_vec {s = c.into_iter-lane-iterator.result} c.args.lanes.items (search rules) (search rules)) c.loop-lane.yielded c.loop-lane.lane-iterator c.loop-lane.yielded_by c.next.result c.next.new.self c.in-None.is c.next.ensures.steps in
    c.loop-lane.invariant.words ∙ ap (map (λ (lane : script.Lane). map words_of lane.commands.items)) (sym (map-id c.loop-lane.yielded) ∙ end.0)
