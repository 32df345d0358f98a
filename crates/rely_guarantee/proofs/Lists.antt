-- Lists from which some were taken, or to which one was added.
use Rattle.std.proofs.Common.{◌≡◌, ◌≢◌, ◌⊎◌, inl, inr, ⊎_elim, ℕ, zero, suc, Bool, true, false, not, nat_eq, refl, sym, ◌∙◌, ap, arith, List, [], ◌∷◌, ◌++◌, All, Contains}
use Rattle.std.specs.List.{filter}
use Rattle.std.proofs.lemmas.Bool.Decides.{nat_tests}
use Rattle.std.proofs.lemmas.List.Elements.{Contains-get_or}

pub apart_test : (a b : ℕ) → a ≢ b → not (nat_eq a b) ≡ true
apart_test a b other = by (nat_eq a b) refl
  where
    by : (t : Bool) → nat_eq a b ≡ t → not (nat_eq a b) ≡ true
    by true is = absurd (other (let e : a ≡ b = grind (arith, nat_tests) in e))
    by false is = ap not is

pub test_apart : (a b : ℕ) → not (nat_eq a b) ≡ true → a ≢ b
test_apart a b is same =
    let here : nat_eq a b ≡ true = grind (arith, nat_tests) in
    let n : false ≡ true = sym (ap not here) ∙ is in cc

-- two numbers that are the same unless they differ
pub other_or_own : (a b : ℕ) → (a ≢ b → a ≡ b) → a ≡ b
other_or_own a b h = by (nat_eq a b) refl
  where
    by : (t : Bool) → nat_eq a b ≡ t → a ≡ b
    by true e = grind (arith, nat_tests)
    by false e = h (λ same. let z : true ≡ false = sym (let k : nat_eq b b ≡ true = grind (arith, nat_tests) in k) ∙ ap (λ y. nat_eq y b) (sym same) ∙ e in cc)

module _ {X : Type 0} where
  contains_here : (xs : List X) (y x : X) → y ≡ x → Contains (y ∷ xs) x
  contains_here xs y x e = (0, omega arith, e)

  contains_later : (xs : List X) (y x : X) → Contains xs x → Contains (y ∷ xs) x
  contains_later xs y x h = let lt = h.1 in (suc h.0, omega arith, h.2)

  pub contains_cases : (xs : List X) (y x : X) → Contains (y ∷ xs) x → (y ≡ x) ⊎ Contains xs x
  contains_cases xs y x (zero, lt, e) = inl e
  contains_cases xs y x (suc k, lt, e) = inr (k, omega arith, e)

  -- the last element of a list that was added
  pub added_cases : (xs : List X) (y x : X) → Contains (xs ++ y ∷ []) x → Contains xs x ⊎ (y ≡ x)
  added_cases [] y x has = ⊎_elim (λ here. inr here) (λ later. inl later) (contains_cases [] y x has)
  added_cases (z ∷ xs) y x has = ⊎_elim
      (λ here. inl (contains_here xs z x here))
      (λ later. ⊎_elim (λ was. inl (contains_later xs z x was)) (λ is. inr is) (added_cases xs y x later))
      (contains_cases (xs ++ y ∷ []) z x has)

  pub contains_added : (xs : List X) (y : X) → Contains (xs ++ y ∷ []) y
  contains_added [] y = contains_here [] y y refl
  contains_added (z ∷ xs) y = contains_later (xs ++ y ∷ []) z y (contains_added xs y)

  pub added_contains : (xs : List X) (y x : X) → Contains xs x → Contains (xs ++ y ∷ []) x
  added_contains [] y x has = contains_later [] y x has
  added_contains (z ∷ xs) y x has = ⊎_elim
      (λ here. contains_here (xs ++ y ∷ []) z x here)
      (λ later. contains_later (xs ++ y ∷ []) z x (added_contains xs y x later))
      (contains_cases xs z x has)

  pub contains_filter : (test : X → Bool) (xs : List X) (x : X) → test x ≡ true → Contains xs x → Contains (filter test xs) x
  contains_filter test [] x is has = has
  contains_filter test (y ∷ xs) x is has = by (test y) refl (contains_filter test xs x is) (contains_cases xs y x has)
    where
      by : (b : Bool) → test y ≡ b → (Contains xs x → Contains (filter test xs) x) → (y ≡ x) ⊎ Contains xs x → Contains (filter test (y ∷ xs)) x
      by true e rest (inl here) = rw e (contains_here (filter test xs) y x here)
      by true e rest (inr later) = rw e (contains_later (filter test xs) y x (rest later))
      by false e rest (inl here) = let z : true ≡ false = sym is ∙ ap test (sym here) ∙ e in cc
      by false e rest (inr later) = rw e (rest later)

  pub filter_contains : (test : X → Bool) (xs : List X) (x : X) → Contains (filter test xs) x → Contains xs x
  filter_contains test [] x has = has
  filter_contains test (y ∷ xs) x has = by (test y) refl (filter_contains test xs x)
    where
      by : (b : Bool) → test y ≡ b → (Contains (filter test xs) x → Contains xs x) → Contains (y ∷ xs) x
      by true e rest = ⊎_elim (λ here. contains_here xs y x here) (λ later. contains_later xs y x (rest later)) (contains_cases (filter test xs) y x (let h : Contains (y ∷ filter test xs) x = rw e at has in h))
      by false e rest = contains_later xs y x (rest (let h : Contains (filter test xs) x = rw e at has in h))

  pub filter_test : (test : X → Bool) (xs : List X) (x : X) → Contains (filter test xs) x → test x ≡ true
  filter_test test [] x (k, lt, e) = absurd (omega (arith, lt))
  filter_test test (y ∷ xs) x has = by (test y) refl (filter_test test xs x)
    where
      by : (b : Bool) → test y ≡ b → (Contains (filter test xs) x → test x ≡ true) → test x ≡ true
      by true e rest = ⊎_elim (λ here. sym (ap test here) ∙ e) (λ later. rest later) (contains_cases (filter test xs) y x (let h : Contains (y ∷ filter test xs) x = rw e at has in h))
      by false e rest = rest (let h : Contains (filter test xs) x = rw e at has in h)

  pub all_of : (P : X → Type 0) (xs : List X) → ((x : X) → Contains xs x → P x) → All P xs
  all_of P xs each = λ k d lt. each _ (Contains-get_or xs k d lt)
