use Rattle.std.proofs.Common.{◌≡◌, ◌<◌, ◌+◌, ◌++◌, arith, get_or, length, take, drop, rules, subst}
use Rattle.boot_compare.proofs.Taking.{taken_at}
use Rattle.boot_compare.proofs.texts.take_text.Goals as goal

pub returns-then-eq : goal.returns-then-eq
returns-then-eq c =
    let i = c.loop-index.index in
    let same = c.loop-index.invariant.same in
    let less : i < length c.args.texts.now.items = omega (arith, c.loop-index-test.true, c.loop-index.auto.index-end, c.len-index-end.ensures) in
    let there : get_or c.loop-index.texts.items i c.args.text.now ≡ c.args.text.now = search rules in
    taken_at c.args.text.now c.args.texts.now.items c.remove.new.self.items i less (subst (λ l. get_or l i c.args.text.now ≡ c.args.text.now) same there) c.loop-index.invariant.none
    (subst (λ l. c.remove.new.self.items ≡ take i l ++ drop (i + 1) l) same c.remove.ensures.by_index.2)
