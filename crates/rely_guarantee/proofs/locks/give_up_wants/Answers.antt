use Rattle.std.proofs.Common.{rules, Bool, List, ℕ, Contains, not, nat_eq, subst, sym}
use Rattle.std.proofs.lemmas.Fn.{filter_same}
use Rattle.rely_guarantee.specs.declared.books.Want.{Want}
use Rattle.rely_guarantee.proofs.Lists.{apart_test, contains_filter}
use Rattle.rely_guarantee.proofs.locks.give_up_wants.Goals as goal

abbrev others : ℕ → Want → Bool
others lane x = not (nat_eq x.lane lane)

pub returns : goal.returns
returns c =
    let f = filter_same _ (others c.args.lane) _ (λ x b f' k. search rules) _ _ c.retain.ensures.filtered in
    λ x other has. subst (λ (l : List Want). Contains l x) (sym f) (contains_filter (others c.args.lane) c.args.wants.now.items x (apart_test x.lane c.args.lane other) has)
