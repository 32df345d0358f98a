use Rattle.std.proofs.Common.{rules, ◌≡◌, ◌∙◌, ap, map}
use Rattle.std.proofs.lemmas.Map.Iter.{iter_end}
use Rattle.ref_book.specs.Rows.{rows_of}
use Rattle.ref_book.proofs.Rows.{lists, push_row}
use Rattle.ref_book.proofs.book.RefBook.rows.Goals as goal

pub loop-name-preserved-in_ok-push : goal.loop-name-preserved-in_ok-push
loop-name-preserved-in_ok-push c = rw (push_row (λ e. (e.0.now, e.1.now)) c.loop-name.yielded (c.in-Some.name, c.in-Some.value)) (search rules)

pub loop-name-preserved : goal.loop-name-preserved
loop-name-preserved c = rw (push_row (λ e. (e.0.now, e.1.now)) c.loop-name.yielded (c.in-Some.name, c.in-Some.value)) (search rules)

pub returns : goal.returns
returns c = λ s tracks.
    let all : map (λ e. (e.0.now, e.1.now)) c.loop-name.yielded ≡ c.args.self.now.refs.entries = search (rules, iter_end) in
    lists c.args.self.now s c.loop-name.rows.items (search rules) (c.loop-name.invariant ∙ ap rows_of all) tracks
