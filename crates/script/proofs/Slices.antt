-- Slices one by one: the first of some, two, and five.
use Rattle.std.proofs.Common.{◌≡◌, ◌<◌, ◌≤◌, ◌+◌, ◌-◌, ℕ, List, [], ◌∷◌, ◌++◌, length, get_or, map, take, drop, Option, Some, None, MatchOption, refl, sym, ◌∙◌, ap, subst, arith}
use Rattle.std.proofs.lemmas.List.{take_all, take_more, map_push}

-- the first of some slices, and the others
pub first_of : {V : Type 0} (now : V → List ℕ) (fs : List V) (d : V) → 1 ≤ length fs → map now fs ≡ now (get_or fs 0 d) ∷ map now (take (length fs - 1) (drop 1 fs))
first_of now [] d some = absurd (omega (arith, some))
first_of now (v ∷ fs) d some = ap (λ t. now v ∷ map now t) (sym (take_all (length (v ∷ fs) - 1) fs (omega arith)))

pub slices_step : {V : Type 0} (now : V → List ℕ) (had new : List V) (x : V) (i : ℕ) (words : List (List ℕ)) (w : List ℕ) → i < length words → w ≡ get_or words i w
    → map now had ≡ take i words → new ≡ had ++ x ∷ [] → now x ≡ w → map now new ≡ take (i + 1) words
slices_step now had new x i words w less is before more same =
    ap (map now) more ∙ map_push now had x ∙ ap (λ y. map now had ++ y ∷ []) (same ∙ is) ∙ ap (λ t. t ++ get_or words i w ∷ []) before ∙ sym (take_more words i w less)

pub two_of : {V : Type 0} (now : V → List ℕ) (fs : List V) (a b : V) → length fs ≡ 2 → map now fs ≡ now (get_or fs 0 a) ∷ now (get_or fs 1 b) ∷ []
two_of now [] a b e = absurd (omega (arith, e))
two_of now (v ∷ []) a b e = absurd (omega (arith, e))
two_of now (v ∷ w ∷ []) a b e = refl
two_of now (v ∷ w ∷ x ∷ fs) a b e = absurd (omega (arith, e))

pub five_of : {V : Type 0} (now : V → List ℕ) (fs : List V) (a b c d e : V) → length fs ≡ 5
    → map now fs ≡ now (get_or fs 0 a) ∷ now (get_or fs 1 b) ∷ now (get_or fs 2 c) ∷ now (get_or fs 3 d) ∷ now (get_or fs 4 e) ∷ []
five_of now (v ∷ w ∷ x ∷ y ∷ z ∷ []) a b c d e l = refl
five_of now [] a b c d e l = absurd (omega (arith, l))
five_of now (v ∷ []) a b c d e l = absurd (omega (arith, l))
five_of now (v ∷ w ∷ []) a b c d e l = absurd (omega (arith, l))
five_of now (v ∷ w ∷ x ∷ []) a b c d e l = absurd (omega (arith, l))
five_of now (v ∷ w ∷ x ∷ y ∷ []) a b c d e l = absurd (omega (arith, l))
five_of now (v ∷ w ∷ x ∷ y ∷ z ∷ u ∷ fs) a b c d e l = absurd (omega (arith, l))

-- what is said of five fields, as of their list
abbrev pub At5 : {X : Type 0} (R : List ℕ → List ℕ → List ℕ → List ℕ → List ℕ → X → Type 0) (y : X) → List (List ℕ) → Type 0
At5 R y [] = ⊥
At5 R y (a ∷ []) = ⊥
At5 R y (a ∷ b ∷ []) = ⊥
At5 R y (a ∷ b ∷ c ∷ []) = ⊥
At5 R y (a ∷ b ∷ c ∷ d ∷ []) = ⊥
At5 R y (a ∷ b ∷ c ∷ d ∷ e ∷ []) = R a b c d e y
At5 R y (a ∷ b ∷ c ∷ d ∷ e ∷ f ∷ more) = ⊥

pub five_gives : {X : Type 0} (R : List ℕ → List ℕ → List ℕ → List ℕ → List ℕ → X → Type 0) (fields : List (List ℕ)) (p u g m x : List ℕ) (o : Option X) → fields ≡ p ∷ u ∷ g ∷ m ∷ x ∷ [] → MatchOption o ((y : X) → ¬ (R p u g m x y)) (R p u g m x)
    → MatchOption o ((y : X) → ¬ ((p u g m x : List ℕ) × (fields ≡ p ∷ u ∷ g ∷ m ∷ x ∷ []) × R p u g m x y)) (λ y. (p u g m x : List ℕ) × (fields ≡ p ∷ u ∷ g ∷ m ∷ x ∷ []) × R p u g m x y)
five_gives R fields p u g m x None e none = λ y is. none y (subst (At5 R y) (sym is.5 ∙ e) is.6)
five_gives R fields p u g m x (Some y) e found = (p, u, g, m, x, e, found)

-- what an answer says by its case
pub reads_none : {X : Type 0} (P : X → Type 0) (o : Option X) → MatchOption o ((x : X) → ¬ (P x)) P → o ≡ None → (x : X) → ¬ (P x)
reads_none P o g is = subst (λ o. MatchOption o ((x : _) → ¬ (P x)) P) is g

pub reads_other : {X : Type 0} (P : X → Type 0) (o : Option X) → MatchOption o ((x : X) → ¬ (P x)) P → ((x : X) → o ≡ Some x → ⊥) → (x : X) → ¬ (P x)
reads_other P None g other = g
reads_other P (Some v) g other = absurd (other v refl)
