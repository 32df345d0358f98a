use Rattle.std.proofs.Common.{rules, List, Contains, subst, sym}
use Rattle.std.proofs.lemmas.Fn.{filter_same}
use Rattle.rely_guarantee.specs.declared.books.Pin.{Pin}
use Rattle.rely_guarantee.specs.Pinning.{is_others}
use Rattle.rely_guarantee.proofs.Lists.{apart_test, contains_filter, filter_contains}
use Rattle.rely_guarantee.proofs.locks.give_up_pins.Goals as goal

pub returns-clause-left : goal.returns-clause-left
returns-clause-left c = filter_same _ (is_others c.args.lane) _ (λ x b f' k. search rules) _ _ c.retain.ensures.filtered

pub returns-clause-kept : goal.returns-clause-kept
returns-clause-kept c =
    let f = filter_same _ (is_others c.args.lane) _ (λ x b f' k. search rules) _ _ c.retain.ensures.filtered in
    λ x other has. subst (λ (l : List Pin). Contains l x) (sym f) (contains_filter (is_others c.args.lane) c.args.pins.now.items x (apart_test x.lane c.args.lane other) has)

pub returns-clause-no_more : goal.returns-clause-no_more
returns-clause-no_more c =
    let f = filter_same _ (is_others c.args.lane) _ (λ x b f' k. search rules) _ _ c.retain.ensures.filtered in
    λ x has. filter_contains (is_others c.args.lane) c.args.pins.now.items x (subst (λ (l : List Pin). Contains l x) f has)
