-- Different elements that a list holds are no more than it is long.
use Rattle.std.proofs.Common.{◌≡◌, ◌≢◌, ◌⊎◌, inl, inr, ⊎_elim, ◌+◌, ◌<◌, List, [], ◌∷◌, length, sym, ◌∙◌, subst, arith, Contains}
use Rattle.std.proofs.Math.Logic.{∥∥₁_elim, ∥∥₁_prop}
use Rattle.std.specs.List.{AllByRecursion}
use Rattle.std.specs.List.Sorted.{IsStrictlySortedBy}
use Rattle.std.specs.declared.cmp.Ordering.{Ordering}
use Rattle.std.specs.declared.cmp.Ordering.TheVariants.{Less}
use Rattle.tree_read.proofs.Merged.{head_or_tail, head_in, tail_in}

abbrev pub AreDistinct : {X : Type 0} → List X → Type 0
AreDistinct [] = Unit {0}
AreDistinct (x ∷ xs) = ((q : _) → Contains xs q → x ≢ q) × AreDistinct xs

none_in : {X : Type 0} (x : X) → Contains [] x → ⊥
none_in x h = omega (arith, h.1)

-- a list without one of its elements
record Without {X : Type 0} (ys : List X) (x : X) : Type 0 where
  pub rest : List X
  pub shorter : length ys ≡ length rest + 1
  pub others : (q : X) → Contains ys q → (x ≡ q) ⊎ Contains rest q

without : {X : Type 0} (ys : List X) (x : X) → Contains ys x → Without ys x
without [] x h = absurd (none_in x h)
without (y ∷ ys) x h = by (head_or_tail y ys x h) (λ t. without ys x t)
  where
    by : (y ≡ x) ⊎ Contains ys x → (Contains ys x → Without ys x) → Without (y ∷ ys) x
    by (inl same) again = record {
      rest = ys;
      shorter = omega arith;
      others = λ q h. ⊎_elim (λ e. inl (sym same ∙ e)) (λ t. inr t) (head_or_tail y ys q h);
    }
    by (inr t) again =
        let w = again t in
        record {
          rest = y ∷ w.rest;
          shorter = omega (arith, w.shorter);
          others = λ q h. ⊎_elim
              (λ e. inr (subst (Contains (y ∷ w.rest)) e (head_in y w.rest)))
              (λ t. ⊎_elim (λ e. inl e) (λ u. inr (tail_in y q w.rest u)) (w.others q t))
              (head_or_tail y ys q h);
        }

-- no more different elements are each, as a fact, in a list
pub too_many : {X : Type 0} (xs ys : List X) → AreDistinct xs → ((q : X) → Contains xs q → ∥ Contains ys q ∥₁) → length ys < length xs → ⊥
too_many [] ys distinct all more = omega (arith, more)
too_many (x ∷ xs) ys distinct all more = ∥∥₁_elim (all x (head_in x xs)) (λ a b. absurd a) (λ here.
    let w = without ys x here in
    too_many xs w.rest distinct.1
    (λ q h. ∥∥₁_elim (all q (tail_in x q xs h)) ∥∥₁_prop (λ k. ⊎_elim (λ same. absurd (distinct.0 q h same)) (λ t. ∣ t ∣₁) (w.others q k)))
    (omega (arith, more, w.shorter)))

module _ {X : Type 0} (cmp : X → X → Ordering) (irreflexive : (x : X) → cmp x x ≡ Less → ⊥) where
  later : (x : X) (xs : List X) (q : X) → AllByRecursion (λ z. cmp x z ≡ Less) xs → Contains xs q → cmp x q ≡ Less
  later x [] q all h = absurd (none_in q h)
  later x (z ∷ xs) q all h = ⊎_elim (λ same. subst (λ w. cmp x w ≡ Less) same all.0) (λ t. later x xs q all.1 t) (head_or_tail z xs q h)

  pub sorted_distinct : (xs : List X) → IsStrictlySortedBy cmp xs → AreDistinct xs
  unfolding IsStrictlySortedBy
  sorted_distinct [] sorted = tt
  sorted_distinct (x ∷ xs) sorted = ((λ q h same. irreflexive x (subst (λ z. cmp x z ≡ Less) (sym same) (later x xs q sorted.0 h))), sorted_distinct xs sorted.1)
