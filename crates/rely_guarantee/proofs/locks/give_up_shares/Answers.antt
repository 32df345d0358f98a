use Rattle.std.proofs.Common.{rules, Bool, List, ℕ, Contains, not, nat_eq, subst, sym}
use Rattle.std.proofs.lemmas.Fn.{filter_same}
use Rattle.rely_guarantee.specs.declared.books.Share.{Share}
use Rattle.rely_guarantee.proofs.Lists.{apart_test, contains_filter, filter_contains, filter_test, test_apart}
use Rattle.rely_guarantee.proofs.locks.give_up_shares.Goals as goal

abbrev others : ℕ → Share → Bool
others lane x = not (nat_eq x.lane lane)

pub returns-clause-kept : goal.returns-clause-kept
returns-clause-kept c =
    let f = filter_same _ (others c.args.lane) _ (λ x b f' k. search rules) _ _ c.retain.ensures.filtered in
    λ x other has. subst (λ (l : List Share). Contains l x) (sym f) (contains_filter (others c.args.lane) c.args.shares.now.items x (apart_test x.lane c.args.lane other) has)

pub returns-clause-no_more : goal.returns-clause-no_more
returns-clause-no_more c =
    let f = filter_same _ (others c.args.lane) _ (λ x b f' k. search rules) _ _ c.retain.ensures.filtered in
    λ x has. filter_contains (others c.args.lane) c.args.shares.now.items x (subst (λ (l : List Share). Contains l x) f has)

pub returns-clause-given_up : goal.returns-clause-given_up
returns-clause-given_up c =
    let f = filter_same _ (others c.args.lane) _ (λ x b f' k. search rules) _ _ c.retain.ensures.filtered in
    λ x has. test_apart x.lane c.args.lane (filter_test (others c.args.lane) c.args.shares.now.items x (subst (λ (l : List Share). Contains l x) f has))
