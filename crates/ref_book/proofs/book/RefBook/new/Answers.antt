use Rattle.std.proofs.Common.{rules, ◌≡◌, ◌∙◌, ◌-◌, ◌∷◌, ap, sym, arith, drop, Some}
use Rattle.rely_guarantee.specs.State.{RefOf, first}
use Rattle.ref_book.proofs.Keyed.{updated, one_more, one_back}
use Rattle.ref_book.proofs.book.RefBook.new.Goals as goal

pub loop-left-preserved : goal.loop-left-preserved
loop-left-preserved c =
    let row = c.index-start-left.result in
    let rest = drop c.loop-left.left c.args.start.now in
    let e : drop (c.loop-left.left - 1) c.args.start.now ≡ row ∷ rest = one_back c.args.start.now c.loop-left.left row (search rules) c.loop-left.invariant.within (search rules) in
    record {
      tracks = λ name. one_more row.0 row.1 name rest _ _ (c.loop-left.invariant.tracks name) (updated row.0 c.loop-left.refs c.insert.new.self (Some (Some row.1)) (search rules) name) ∙ sym (ap (λ l. first l (RefOf name)) e);
      within = omega (arith, c.loop-left.invariant.within);
    }
