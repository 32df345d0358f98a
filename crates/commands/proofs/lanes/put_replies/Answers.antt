use Rattle.std.proofs.Common.{ap, sym, ◌∙◌, ◌++◌, ◌∷◌, [], arith, rules, length, map}
use Rattle.std.proofs.lemmas.List.{length-map, map-id, map_push}
use Rattle.std.proofs.lemmas.Iterator.Consumers.{YieldsList-end, YieldsList-turn}
use Rattle.std.proofs.lemmas.Iterator.Adapters.{YieldsList-from_vec}
use Rattle.commands.specs.Answers.{reply_of}
use Rattle.commands.proofs.lanes.put_replies.Goals as goal

pub loop-reply-init : goal.loop-reply-init
loop-reply-init c = record { put = c.requires.empty; room = c.requires.room }

pub push_reserved-requires : goal.push_reserved-requires
push_reserved-requires c =
    let turn = YieldsList-turn (YieldsList-from_vec {s = c.into_iter-reply-iterator.result} c.args.replies.items (search rules) (search rules)) c.loop-reply.yielded c.loop-reply.reply-iterator c.loop-reply.yielded_by c.next.result c.next.new.self c.in-Some.reply c.in-Some.is c.next.ensures.steps in
    omega (arith, turn.0, ap length c.loop-reply.invariant.put, length-map c.loop-reply.yielded reply_of, c.loop-reply.row.ok.0, c.loop-reply.invariant.room)

pub loop-reply-preserved : goal.loop-reply-preserved
loop-reply-preserved c = record {
  put = c.push_reserved.ensures.items ∙ ap (λ y. c.loop-reply.row.items ++ y ∷ []) c.reply_of.ensures ∙ ap (λ xs. xs ++ reply_of c.in-Some.reply ∷ []) c.loop-reply.invariant.put ∙ sym (map_push reply_of c.loop-reply.yielded c.in-Some.reply);
  room = omega (arith, c.loop-reply.invariant.room, c.push_reserved.ensures.capacity);
}

pub returns : goal.returns
returns c =
    let end = YieldsList-end (YieldsList-from_vec {s = c.into_iter-reply-iterator.result} c.args.replies.items (search rules) (search rules)) c.loop-reply.yielded c.loop-reply.reply-iterator c.loop-reply.yielded_by c.next.result c.next.new.self c.in-None.is c.next.ensures.steps in
    c.loop-reply.invariant.put ∙ ap (map reply_of) (sym (map-id c.loop-reply.yielded) ∙ end.0)
