-- What lists have, and what comes after a name of a list in order.
use Rattle.std.proofs.Common.{◌≡◌, ◌⊎◌, inl, inr, ⊎_elim, arith, refl, sym, ◌∙◌, ap, subst, ℕ, ◌<◌, ◌+◌, List, [], ◌∷◌, ◌++◌, take, drop, length, get_or}
use Rattle.std.specs.Prelude.{Contains}
use Rattle.std.specs.List.{AllByRecursion}
use Rattle.std.specs.List.Sorted.{IsStrictlySortedBy}
use Rattle.std.specs.declared.cmp.Ordering.{Ordering}
use Rattle.std.specs.declared.cmp.Ordering.TheVariants.{Less}
use Rattle.std.proofs.lemmas.List.{drop_more, take-append-drop, take_more}
use Rattle.std.proofs.lemmas.List.Elements.{All-contains, All-from_recursion, All-more, Contains-append_cases, Contains-append_right, Contains-push_cases, recursion_from_All}
use Rattle.checkout.proofs.RemoveLists.{cons_cases}

module _ {X : Type 0} where
  pub none_in : (x : X) → Contains [] x → ⊥
  none_in x (k, less, is) = omega (arith, less)

  pub all_has : (P : X → Type 0) (xs : List X) (x : X) → AllByRecursion P xs → Contains xs x → P x
  all_has P xs x all has = All-contains P xs x (All-from_recursion P xs all) has

  -- one element in the middle
  pub has_middle : (front : List X) (x : X) (rest : List X) → Contains (front ++ x ∷ rest) x
  has_middle front x rest = Contains-append_right front (x ∷ rest) x (0, omega arith, refl)

  sorted_behind : (R : X → X → Ordering) (front rest : List X) → IsStrictlySortedBy R (front ++ rest) → IsStrictlySortedBy R rest
  unfolding IsStrictlySortedBy
  sorted_behind R [] rest sorted = sorted
  sorted_behind R (x ∷ front) rest sorted = sorted_behind R front rest sorted.1

  sorted_head : (R : X → X → Ordering) (x : X) (rest : List X) → IsStrictlySortedBy R (x ∷ rest) → AllByRecursion (λ y. R x y ≡ Less) rest
  unfolding IsStrictlySortedBy
  sorted_head R x rest sorted = sorted.0

  -- what a list in order has stands before one of its elements, or is that, or comes after it
  pub by_middle : (R : X → X → Ordering) (front : List X) (x : X) (rest : List X) (y : X) → IsStrictlySortedBy R (front ++ x ∷ rest) → Contains (front ++ x ∷ rest) y
      → Contains front y ⊎ (y ≡ x) ⊎ (R x y ≡ Less)
  by_middle R front x rest y sorted has = ⊎_elim
      (λ earlier. inl earlier)
      (λ h. ⊎_elim
      (λ is. inr (inl is))
      (λ later. inr (inr (all_has (λ z. R x z ≡ Less) rest y (sorted_head R x rest (sorted_behind R front (x ∷ rest) sorted)) later)))
      (cons_cases y x rest h))
      (Contains-append_cases front (x ∷ rest) y has)

  -- a list around the element with this number
  pub around : (xs : List X) (k : ℕ) (x : X) → k < length xs → x ≡ get_or xs k x → xs ≡ take k xs ++ x ∷ drop (k + 1) xs
  around xs k x inside is = sym (take-append-drop k xs) ∙ ap (λ l. take k xs ++ l) (drop_more xs k x inside ∙ ap (λ y. y ∷ drop (k + 1) xs) (sym is))

  -- one element more of the front
  pub more_cases : (xs : List X) (k : ℕ) (x y : X) → k < length xs → x ≡ get_or xs k x → Contains (take (k + 1) xs) y → Contains (take k xs) y ⊎ (y ≡ x)
  more_cases xs k x y inside is has = ⊎_elim
      (λ before. inl before)
      (λ same. inr (sym same))
      (Contains-push_cases (take k xs) x y (subst (λ l. Contains l y) (take_more xs k x inside ∙ ap (λ z. take k xs ++ z ∷ []) (sym is)) has))

  pub all_more : (P : X → Type 0) (xs : List X) (k : ℕ) (x : X) → k < length xs → x ≡ get_or xs k x → AllByRecursion P (take k xs) → P x → AllByRecursion P (take (k + 1) xs)
  all_more P xs k x inside is all has = recursion_from_All P (take (k + 1) xs) (All-more P xs k x inside (All-from_recursion P (take k xs) all) (subst P is has))
