use Rattle.std.proofs.Common.{rules, sym}
use Rattle.std.proofs.lemmas.Iterator.Consumers.{YieldsList-turn}
use Rattle.std.proofs.lemmas.Iterator.Adapters.{YieldsList-from_vec}
use Rattle.store_check.proofs.Keeps.{kept_more}
use Rattle.store_check.proofs.kept.Kept.add_all.Goals as goal

pub loop-entry-preserved-in-Continue-1 : goal.loop-entry-preserved-in-Continue-1
loop-entry-preserved-in-Continue-1 c = λ d kept stored.
    let turn = YieldsList-turn (YieldsList-from_vec {s = c.into_iter-entry-iterator.result} c.args.entries.items (search rules) (search rules)) c.loop-entry.yielded c.loop-entry.entry-iterator c.loop-entry.yielded_by c.next.result c.next.new.self c.in-Some.entry c.in-Some.is c.next.ensures.steps in
    kept_more d c.loop-entry.self c.add.new.self c.in-Some.entry.name c.in-Some-bytes.bytes c.in_ok-add.ensures (c.loop-entry.invariant d kept stored)
    (stored c.in-Some.entry c.in-Some-bytes.bytes (_, turn.0, sym turn.1) c.in-Some-bytes.is)
