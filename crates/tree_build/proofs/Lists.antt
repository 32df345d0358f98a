-- Lists, and what a filter leaves of them.
use Rattle.std.proofs.Common.{◌≡◌, ◌⊎◌, inl, inr, ℕ, zero, suc, ◌<◌, Bool, true, false, cond, List, [], ◌∷◌, ◌++◌, length, get_or, Option, None, refl, sym, ◌∙◌, ap, subst, arith}
use Rattle.std.specs.Prelude.{Contains}
use Rattle.std.specs.List.{AllByRecursion, filter, filter_map, cons_option}
use Rattle.std.proofs.lemmas.List.{get_or_at, length-append}

module _ {A : Type 0} where
  -- x is among them
  abbrev pub Among : A → List A → Type 0
  Among x [] = ⊥
  Among x (y ∷ ys) = (y ≡ x) ⊎ Among x ys

  pub among_from : (x : A) (xs : List A) (k : ℕ) → k < length xs → get_or xs k x ≡ x → Among x xs
  among_from x [] k inside is = omega (arith, inside)
  among_from x (y ∷ ys) zero inside is = inl is
  among_from x (y ∷ ys) (suc k) inside is = inr (among_from x ys k (omega (arith, inside)) is)

  pub contained_among : (x : A) (xs : List A) → Contains xs x → Among x xs
  contained_among x xs c = among_from x xs c.0 c.1 c.2

  pub among_contained : (x : A) (xs : List A) → Among x xs → Contains xs x
  among_contained x [] a = absurd a
  among_contained x (y ∷ ys) (inl e) = (0, omega arith, e)
  among_contained x (y ∷ ys) (inr a) = let c = among_contained x ys a in (suc c.0, omega (arith, c.1), c.2)

  pub among_left : (x : A) (xs ys : List A) → Among x xs → Among x (xs ++ ys)
  among_left x [] ys a = absurd a
  among_left x (z ∷ xs) ys (inl e) = inl e
  among_left x (z ∷ xs) ys (inr a) = inr (among_left x xs ys a)

  pub among_right : (x : A) (xs ys : List A) → Among x ys → Among x (xs ++ ys)
  among_right x [] ys a = a
  among_right x (z ∷ xs) ys a = inr (among_right x xs ys a)

  pub all_from : (P : A → Type 0) (xs : List A) → ((x : A) → Among x xs → P x) → AllByRecursion P xs
  all_from P [] h = tt
  all_from P (x ∷ xs) h = (h x (inl refl), all_from P xs (λ y a. h y (inr a)))

  pub all_at : (P : A → Type 0) (x : A) (xs : List A) → AllByRecursion P xs → Among x xs → P x
  all_at P x [] h a = absurd a
  all_at P x (y ∷ ys) h (inl e) = subst P e h.0
  all_at P x (y ∷ ys) h (inr a) = all_at P x ys h.1 a

  pub all_more : (P Q : A → Type 0) → ((x : A) → P x → Q x) → (xs : List A) → AllByRecursion P xs → AllByRecursion Q xs
  all_more P Q f [] h = tt
  all_more P Q f (x ∷ xs) h = (f x h.0, all_more P Q f xs h.1)

  pub all_left : (P : A → Type 0) (xs ys : List A) → AllByRecursion P (xs ++ ys) → AllByRecursion P xs
  all_left P [] ys h = tt
  all_left P (x ∷ xs) ys h = (h.0, all_left P xs ys h.1)

  pub all_right : (P : A → Type 0) (xs ys : List A) → AllByRecursion P (xs ++ ys) → AllByRecursion P ys
  all_right P [] ys h = h
  all_right P (x ∷ xs) ys h = all_right P xs ys h.1

  pub all_joined : (P : A → Type 0) (xs ys : List A) → AllByRecursion P xs → AllByRecursion P ys → AllByRecursion P (xs ++ ys)
  all_joined P [] ys g h = h
  all_joined P (x ∷ xs) ys g h = (g.0, all_joined P xs ys g.1 h)

  kept_one : (Q : A → Type 0) (x : A) (xs : List A) (b : Bool) → (b ≡ true → Q x) → AllByRecursion Q xs → AllByRecursion Q (cond b (x ∷ xs) xs)
  kept_one Q x xs true q h = (q refl, h)
  kept_one Q x xs false q h = h

  pub all_kept : (P Q : A → Type 0) (t : A → Bool) → ((x : A) → P x → t x ≡ true → Q x) → (xs : List A) → AllByRecursion P xs → AllByRecursion Q (filter t xs)
  all_kept P Q t f [] h = tt
  all_kept P Q t f (x ∷ xs) h = kept_one Q x (filter t xs) (t x) (f x h.0) (all_kept P Q t f xs h.1)

  pub filter_all : (t : A → Bool) (xs : List A) → AllByRecursion (λ x. t x ≡ true) xs → filter t xs ≡ xs
  filter_all t [] h = refl
  filter_all t (x ∷ xs) h = ap (λ b. cond b (x ∷ filter t xs) (filter t xs)) h.0 ∙ ap (λ r. x ∷ r) (filter_all t xs h.1)

  pub filter_none : (t : A → Bool) (xs : List A) → AllByRecursion (λ x. t x ≡ false) xs → filter t xs ≡ []
  filter_none t [] h = refl
  filter_none t (x ∷ xs) h = ap (λ b. cond b (x ∷ filter t xs) (filter t xs)) h.0 ∙ filter_none t xs h.1

  pub maps_none : {B : Type 0} (h : A → Option B) (xs : List A) → AllByRecursion (λ x. h x ≡ None) xs → filter_map h xs ≡ []
  maps_none h [] a = refl
  maps_none h (x ∷ xs) a = ap (λ o. cons_option o (filter_map h xs)) a.0 ∙ maps_none h xs a.1

  -- a filter that takes only what h gives nothing of
  pub maps_kept : {B : Type 0} (h : A → Option B) (t : A → Bool) → ((x : A) → t x ≡ false → h x ≡ None) → (xs : List A) → filter_map h (filter t xs) ≡ filter_map h xs
  maps_kept h t f [] = refl
  maps_kept h t f (x ∷ xs) = one (t x) refl (maps_kept h t f xs)
    where
      one : (b : Bool) → t x ≡ b → filter_map h (filter t xs) ≡ filter_map h xs → filter_map h (filter t (x ∷ xs)) ≡ filter_map h (x ∷ xs)
      one true e rest = ap (λ b. filter_map h (cond b (x ∷ filter t xs) (filter t xs))) e ∙ ap (λ r. cons_option (h x) r) rest
      one false e rest = ap (λ b. filter_map h (cond b (x ∷ filter t xs) (filter t xs))) e ∙ rest ∙ ap (λ o. cons_option o (filter_map h xs)) (sym (f x e))

  pub number_at : (xs : List A) (x : A) (ys : List A) (n : ℕ) → n ≡ length xs → (n < length (xs ++ x ∷ ys)) × (get_or (xs ++ x ∷ ys) n x ≡ x)
  number_at xs x ys n e = (omega (arith, length-append xs (x ∷ ys), e), get_or_at xs x ys x n (sym e))
