use Rattle.std.proofs.Common.{◌≡◌, true, [], ◌∷◌, ◌++◌, length, sym, ap, ◌∙◌, rules}
use Rattle.gv_core.specs.Gives.{views}
use Rattle.gv_core.specs.Reading.{as_pair}
use Rattle.gv_core.proofs.Steps.{pair_long}
use Rattle.gv_core.proofs.reading.entry_of.Goals as goal

pub returns-then-not-is_empty : goal.returns-then-not-is_empty
returns-then-not-is_empty c =
    let rest = c.pop-2.new.self.items in
    let is : c.args.values.items ≡ (rest ++ c.in-Some-pop.key ∷ []) ++ c.in-Some.value ∷ [] = c.in-Some.ensures.items ∙ ap (λ x. x ++ c.in-Some.value ∷ []) c.in-Some-pop.ensures.items in
    ap (λ x. as_pair (views x)) is ∙ pair_long rest c.in-Some-pop.key c.in-Some.value (λ e. let z : length rest ≡ 0 = e in let y : c.is_empty.result ≡ true = search rules in let x = sym y ∙ c.if-not-is_empty.true in cc)
