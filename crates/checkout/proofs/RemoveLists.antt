-- What a list has, and what it has the other way round.
use Rattle.std.proofs.Common.{◌≡◌, ◌⊎◌, inl, inr, ⊎_elim, zero, suc, arith, refl, sym, subst, List, [], ◌∷◌, ◌++◌, reverse}
use Rattle.std.specs.Prelude.{Contains}
use Rattle.std.proofs.lemmas.List.Elements.{Contains-append_left, Contains-append_right, Contains-append_cases}
use Rattle.std.proofs.lemmas.List.{reverse-append}

module _ {X : Type 0} where
  pub one : (x : X) → Contains (x ∷ []) x
  one x = (0, omega arith, refl)

  Contains-one : (x y : X) → Contains (y ∷ []) x → x ≡ y
  Contains-one x y (zero, less, is) = sym is
  Contains-one x y (suc k, less, is) = absurd (omega (arith, less))

  pub tail_in : (x y : X) (xs : List X) → Contains xs x → Contains (y ∷ xs) x
  tail_in x y xs has = Contains-append_right (y ∷ []) xs x has

  pub cons_cases : (x y : X) (xs : List X) → Contains (y ∷ xs) x → (x ≡ y) ⊎ Contains xs x
  cons_cases x y xs has = ⊎_elim (λ a. inl (Contains-one x y a)) (λ b. inr b) (Contains-append_cases (y ∷ []) xs x has)

  pub reverse-first : (x : X) (xs : List X) → reverse (x ∷ xs) ≡ reverse xs ++ x ∷ []
  reverse-first x xs = reverse-append (x ∷ []) xs

  pub reverse-last : (xs : List X) (x : X) → reverse (xs ++ x ∷ []) ≡ x ∷ reverse xs
  reverse-last xs x = reverse-append xs (x ∷ [])

  pub Contains-reverse : (xs : List X) (x : X) → Contains xs x → Contains (reverse xs) x
  Contains-reverse [] x has = has
  Contains-reverse (y ∷ xs) x has = subst (λ l. Contains l x) (sym (reverse-first y xs))
      (⊎_elim
      (λ e. Contains-append_right (reverse xs) (y ∷ []) x (subst (λ z. Contains (y ∷ []) z) (sym e) (one y)))
      (λ a. Contains-append_left (reverse xs) (y ∷ []) x (Contains-reverse xs x a))
      (cons_cases x y xs has))

  pub reverse-contains : (xs : List X) (x : X) → Contains (reverse xs) x → Contains xs x
  reverse-contains [] x has = has
  reverse-contains (y ∷ xs) x has =
      ⊎_elim
      (λ a. tail_in x y xs (reverse-contains xs x a))
      (λ b. subst (λ z. Contains (y ∷ xs) z) (sym (Contains-one x y b)) (Contains-append_left (y ∷ []) xs y (one y)))
      (Contains-append_cases (reverse xs) (y ∷ []) x (subst (λ l. Contains l x) (reverse-first y xs) has))
