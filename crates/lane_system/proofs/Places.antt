-- Lists with one more element or another one, and the replies with one more; and whether a step was held off.
use Rattle.std.proofs.Common.{◌≡◌, ◌≢◌, ◌⊎◌, inl, inr, ⊎_elim, ◌<◌, ◌≤◌, ◌+◌, ℕ, zero, suc, Bool, nat_eq, nat_lt, true, false, refl, sym, ◌∙◌, ap, arith, List, [], ◌∷◌, ◌++◌, length, length-append, length-take, take, subst, get_or, set, length-set, get_or-set_same, get_or-set_other}
use Rattle.std.proofs.lemmas.Bool.Decides.{nat_tests}
use Rattle.std.proofs.lemmas.List.{get_or_default, get_or_append_left}
use Rattle.std.proofs.Math.Seq.{get_or-append_seam}
use Rattle.rely_guarantee.specs.declared.kind.Outcome.{Outcome}
use Rattle.rely_guarantee.specs.declared.kind.Outcome.TheVariants as came
use Rattle.lane_system.specs.Lanes.{IsAt}

pub below_or_at : (i n : ℕ) → i < n + 1 → (i < n) ⊎ (i ≡ n)
below_or_at i n lt = go (nat_lt i n) refl
  where
    go : (t : Bool) → nat_lt i n ≡ t → (i < n) ⊎ (i ≡ n)
    go true is = inl (grind (arith, nat_tests))
    go false is = inr (let more : n ≤ i = grind (arith, nat_tests) in omega (arith, more, lt))

-- what a test found
pub fewer : (a b : ℕ) → true ≡ nat_lt a b → a < b
fewer a b is = grind (arith, nat_tests)

pub not_fewer : (a b : ℕ) → false ≡ nat_lt a b → b ≤ a
not_fewer a b is = grind (arith, nat_tests)

-- at a place, and elsewhere
pub here_or_apart : {P : Type 0} (l lane : ℕ) → (l ≡ lane → P) → (l ≢ lane → P) → P
here_or_apart {P} l lane here apart = go (nat_eq l lane) refl
  where
    go : (t : Bool) → nat_eq l lane ≡ t → P
    go true is = here (grind (arith, nat_tests))
    go false is = apart (λ e. absurd (grind (arith, nat_tests)))

-- held off, or not
pub held_or : (outcome : Outcome) → (outcome ≡ came.Blocked) ⊎ (outcome ≡ came.Blocked → ⊥)
held_or came.Blocked = inl refl
held_or came.More = inr (λ is. cc)
held_or came.Done = inr (λ is. cc)
held_or (came.Halted why) = inr (λ is. cc)
held_or (came.Refused e) = inr (λ is. cc)

module _ {X : Type 0} (xs : List X) where
  pub at_front : (ys : List X) (i : ℕ) (x : X) → IsAt xs i x → IsAt (xs ++ ys) i x
  at_front ys i x at = (omega (arith, at.0, length-append xs ys), get_or_append_left xs ys x i at.0 ∙ at.1)

  pub at_end : (x : X) → IsAt (xs ++ x ∷ []) (length xs) x
  at_end x = (omega (arith, length-append xs (x ∷ [])), get_or-append_seam xs x [] x)

  pub at_split : (x y : X) (i : ℕ) → IsAt (xs ++ x ∷ []) i y → IsAt xs i y ⊎ ((i ≡ length xs) × (y ≡ x))
  at_split x y i at = ⊎_elim
      (λ below. inl (below, sym (get_or_append_left xs (x ∷ []) y i below) ∙ at.1))
      (λ e. inr (e, sym at.1 ∙ ap (λ k. get_or (xs ++ x ∷ []) k y) e ∙ get_or-append_seam xs x [] y))
      (below_or_at i (length xs) (omega (arith, at.0, length-append xs (x ∷ []))))

  pub at_one : (i : ℕ) (x y : X) → IsAt xs i x → IsAt xs i y → x ≡ y
  at_one i x y a b = sym a.1 ∙ get_or_default xs i x y a.0 ∙ b.1

  pub at_is : (i : ℕ) (d : X) → i < length xs → IsAt xs i (get_or xs i d)
  at_is i d lt = (lt, get_or_default xs i _ d lt)

  pub at_set : (i : ℕ) (x : X) → i < length xs → IsAt (set xs i x) i x
  at_set i x lt = (omega (arith, length-set xs i x, lt), get_or-set_same xs i x x lt)

  pub at_set_is : (i : ℕ) (x y : X) → i < length xs → IsAt (set xs i x) i y → y ≡ x
  at_set_is i x y lt at = sym at.1 ∙ get_or-set_same xs i x y lt

  pub at_set_back : (i k : ℕ) (x y : X) → k ≢ i → IsAt (set xs i x) k y → IsAt xs k y
  at_set_back i k x y ne at = (omega (arith, length-set xs i x, at.0), sym (get_or-set_other xs i k x y ne) ∙ at.1)

  pub at_set_stays : (i k : ℕ) (x y : X) → k ≢ i → IsAt xs k y → IsAt (set xs i x) k y
  at_set_stays i k x y ne at = (omega (arith, length-set xs i x, at.0), get_or-set_other xs i k x y ne ∙ at.1)

-- what stands at a place stands there in a longer front
at_take : {X : Type 0} (xs : List X) (k n : ℕ) (e : X) → IsAt xs k e → k < n → IsAt (take n xs) k e
at_take [] k n e at lt = absurd (omega (arith, at.0))
at_take (x ∷ xs) k zero e at lt = absurd (omega (arith, lt))
at_take (x ∷ xs) zero (suc n) e at lt = (omega arith, at.1)
at_take (x ∷ xs) (suc k) (suc n) e at lt = let rest = at_take xs k n e (omega (arith, at.0), at.1) (omega (arith, lt)) in (omega (arith, rest.0), rest.1)

-- so it is the last one of the shortest such front
pub front_last : {X : Type 0} (xs before : List X) (k : ℕ) (e last : X) → IsAt xs k e → take (k + 1) xs ≡ before ++ last ∷ [] → e ≡ last
front_last {X} xs before k e last at is = ⊎_elim
    (λ early. absurd (omega (arith, early.0, ap length is, length-append before (last ∷ []), length-take (k + 1) xs)))
    (λ here. here.1)
    (at_split before last e k (subst (λ (l : List X). IsAt l k e) is (at_take xs k (k + 1) e at (omega arith))))
