-- The last item of a vector is the first of its view.
use Rattle.std.proofs.Common.{◌≡◌, ◌-◌, ℕ, suc, refl, sym, ◌∙◌, ap, subst, arith, List, [], ◌∷◌, ◌++◌, length, length-append, take, drop, reverse, Some, None}
use Rattle.std.specs.List.{slice_get}
use Rattle.std.proofs.Math.Seq.{take-append_seam}
use Rattle.checkout.proofs.RemoveLists.{reverse-last}

module _ {X : Type 0} where
  one : (x y : X) → y ≡ x → y ∷ [] ≡ x ∷ []
  one x y h = ap (λ z. z ∷ []) h

  more : (y : X) (xs ys : List X) → xs ≡ ys → y ∷ xs ≡ y ∷ ys
  more y xs ys h = ap (λ l. y ∷ l) h

  front_last : (xs : List X) (x : X) → slice_get xs (length xs - 1) ≡ Some x → (front : List X) × (xs ≡ front ++ x ∷ [])
  front_last [] x is = let n : None ≡ Some x = is in cc
  front_last (y ∷ []) x is = let s : Some y ≡ Some x = is in let h : y ≡ x = cc in ([], one x y h)
  front_last (y ∷ z ∷ xs) x is =
      let e : length (y ∷ z ∷ xs) - 1 ≡ suc (length (z ∷ xs) - 1) = omega arith in
      let r = front_last (z ∷ xs) x (subst (λ n. slice_get (y ∷ z ∷ xs) n ≡ Some x) e is) in
      (y ∷ r.0, more y (z ∷ xs) (r.0 ++ x ∷ []) r.1)

  pub last_first : (items l : List X) (x : X) → l ≡ items → Some x ≡ slice_get l (length l - 1) → reverse items ≡ x ∷ drop 1 (reverse items)
  last_first items l x same is =
      let f = front_last l x (sym is) in
      let e : reverse items ≡ x ∷ reverse f.0 = ap reverse (sym same ∙ f.1) ∙ reverse-last f.0 x in
      e ∙ ap (λ ys. x ∷ ys) (sym (ap (λ ys. drop 1 ys) e))

  pub last_rest : (items l new : List X) (x : X) (n : ℕ) → l ≡ items → Some x ≡ slice_get l (length l - 1) → n ≡ length items → new ≡ take (n - 1) items → reverse new ≡ drop 1 (reverse items)
  last_rest items l new x n same is count rest =
      let f = front_last l x (sym is) in
      let whole : items ≡ f.0 ++ x ∷ [] = sym same ∙ f.1 in
      let e : reverse items ≡ x ∷ reverse f.0 = ap reverse whole ∙ reverse-last f.0 x in
      let less : n - 1 ≡ length f.0 = omega (arith, count, ap length whole, length-append f.0 (x ∷ [])) in
      let seam : take (length f.0) (f.0 ++ x ∷ []) ≡ f.0 = take-append_seam f.0 (x ∷ []) in
      ap reverse (rest ∙ ap (λ k. take k items) less ∙ ap (λ l. take (length f.0) l) whole ∙ seam) ∙ sym (ap (λ ys. drop 1 ys) e)

  none_left : (xs : List X) → None ≡ slice_get xs (length xs - 1) → xs ≡ []
  none_left [] is = refl
  none_left (y ∷ []) is = let n : None ≡ Some y = is in cc
  none_left (y ∷ z ∷ xs) is =
      let e : length (y ∷ z ∷ xs) - 1 ≡ suc (length (z ∷ xs) - 1) = omega arith in
      let r : z ∷ xs ≡ [] = none_left (z ∷ xs) (subst (λ n. None ≡ slice_get (y ∷ z ∷ xs) n) e is) in
      cc

  pub last_none : (items l : List X) → l ≡ items → None ≡ slice_get l (length l - 1) → reverse items ≡ []
  last_none items l same is = ap reverse (sym same ∙ none_left l is)
