-- Which pins there are after an act.
use Rattle.std.proofs.Common.{◌≡◌, ◌≢◌, ◌⊎◌, inl, inr, ⊎_elim, ℕ, true, nat_eq, refl, sym, ◌∙◌, ap, arith, List, [], ◌∷◌, ◌++◌, append-nil, Contains, Option, Some, None}
use Rattle.std.proofs.lemmas.Bool.Decides.{nat_tests}
use Rattle.std.proofs.lemmas.List.Elements.{filter-append}
use Rattle.ost_types.specs.declared.object.ObjName.{ObjName}
use Rattle.rely_guarantee.specs.declared.books.Pin.{Pin}
use Rattle.rely_guarantee.specs.declared.kind.Outcome.{Outcome}
use Rattle.rely_guarantee.specs.declared.kind.Outcome.TheVariants as came
use Rattle.rely_guarantee.specs.Pinning.{ArePinned, is_others, with_pin, without}
use Rattle.rely_guarantee.proofs.Lists.{added_cases, filter_contains, filter_test, test_apart}

-- a lane's own pin is none of the others'
own_goes : (lane : ℕ) (object : ObjName) → without lane (record { lane = lane; object = object } ∷ []) ≡ []
own_goes lane object = let same : nat_eq lane lane ≡ true = grind (arith, nat_tests) in rw same refl

pub without_pin : (pin : Option ObjName) (lane : ℕ) (pins : List Pin) → without lane (with_pin pin lane pins) ≡ without lane pins
without_pin None lane pins = refl
without_pin (Some object) lane pins =
    filter-append (is_others lane) pins (record { lane = lane; object = object } ∷ [])
    ∙ ap (λ (l : List Pin). without lane pins ++ l) (own_goes lane object)
    ∙ append-nil (without lane pins)

-- a pin that was taken first, and then the rest of the step
pub pinned_then : (pin : Option ObjName) (lane : ℕ) (outcome : Outcome) (old mid new : List Pin) → outcome ≢ came.Blocked → mid ≡ with_pin pin lane old → ArePinned None lane outcome mid new → ArePinned pin lane outcome old new
pinned_then pin lane came.More old mid new goes is so = so ∙ is
pinned_then pin lane (came.Halted why) old mid new goes is so = so ∙ is
pinned_then pin lane came.Done old mid new goes is so = so ∙ ap (without lane) is ∙ without_pin pin lane old
pinned_then pin lane (came.Refused e) old mid new goes is so = so ∙ ap (without lane) is ∙ without_pin pin lane old
pinned_then pin lane came.Blocked old mid new goes is so = absurd (goes refl)

-- each pin is an old one, or the lane's of this object
pub with_cases : (pin : Option ObjName) (lane : ℕ) (pins : List Pin) (p : Pin) → Contains (with_pin pin lane pins) p → Contains pins p ⊎ ((p.lane ≡ lane) × (pin ≡ Some p.object))
with_cases None lane pins p has = inl has
with_cases (Some object) lane pins p has = ⊎_elim
    (λ was. inl was)
    (λ is. inr (sym (ap (λ (x : Pin). x.lane) is), ap (λ (x : Pin). Some x.object) is))
    (added_cases pins (record { lane = lane; object = object }) p has)

-- and each pin of the others is an old one, and not the lane's
pub without_cases : (lane : ℕ) (pins : List Pin) (p : Pin) → Contains (without lane pins) p → (p.lane ≢ lane) × Contains pins p
without_cases lane pins p has = (test_apart p.lane lane (filter_test (is_others lane) pins p has), filter_contains (is_others lane) pins p has)
