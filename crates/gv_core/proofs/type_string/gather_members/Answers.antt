use Rattle.std.proofs.Common.{◌≡◌, max, [], ◌∷◌, ◌++◌, length, ap, ◌∙◌, rules}
use Rattle.std.proofs.lemmas.List.{nil_from_length}
use Rattle.gv_core.proofs.Stacks.{gathering_next, gathered, gather_curly, gather_nil}
use Rattle.gv_core.proofs.type_string.gather_members.Goals as goal

pub loop-item-preserved : goal.loop-item-preserved
loop-item-preserved c = λ st s.
    let larger : c.max-deepest.result ≡ max c.loop-item.deepest c.in-One.depth = search rules in
    gathering_next _ _ _ _ _ _ _ _ st (c.loop-item.invariant st s) (c.in-Some.ensures.items ∙ ap (λ e. c.pop.new.self.items ++ e ∷ []) c.in-One.is) c.in_ok-push-in-One.ensures.items larger

pub returns-in-Round : goal.returns-in-Round
returns-in-Round c = λ st s. gathered _ _ _ _ st (c.loop-item.invariant st s) (c.in-Some.ensures.items ∙ ap (λ e. c.pop.new.self.items ++ e ∷ []) c.in-Round.is)

pub returns-in-Curly : goal.returns-in-Curly
returns-in-Curly c = λ st s. gather_curly _ _ _ _ st (c.loop-item.invariant st s) (c.in-Some.ensures.items ∙ ap (λ e. c.pop.new.self.items ++ e ∷ []) c.in-Curly.is)

pub returns : goal.returns
returns c = λ st s. gather_nil _ _ _ st (c.loop-item.invariant st s) (let none : length c.loop-item.stack.items ≡ 0 = search rules in nil_from_length _ none)
