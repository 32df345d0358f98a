-- Names in order.
use Rattle.std.proofs.Common.{◌≡◌, ℕ, zero, suc, ◌+◌, ◌-◌, true, false, ◌<◌, ◌≤◌, List, [], ◌∷◌, length, get_or, refl, sym, ap, subst, ◌∙◌, arith, inl, inr}
use Rattle.std.specs.Prelude.{Contains, ◌⊎◌}
use Rattle.std.specs.Ordering.{nat_cmp, is_lt}
use Rattle.std.specs.Cmp.{IsTotalOrder}
use Rattle.std.specs.Cmp.Lexicographic.{slice_cmp}
use Rattle.std.specs.FinMap.{nat_cmp-IsAntisymmetric, slice_cmp-IsAntisymmetric}
use Rattle.std.specs.List.Sorted.{IsStrictlySortedBy}
use Rattle.std.specs.declared.cmp.Ordering.{Ordering}
use Rattle.std.specs.declared.cmp.Ordering.TheVariants.{Less, Equal, Greater}
use Rattle.std.proofs.lemmas.Cmp.{nat_list_cmp_total}
use Rattle.std.proofs.lemmas.Map.Keys.{Less-from_sorted, sorted_from_all_adjacent}
use Rattle.std.proofs.lemmas.Bool.{cases_lt}
use Rattle.std.proofs.lemmas.List.{get_or-map, length-map}
use Rattle.ost_forms.specs.DirTree.{IsAscending, AreApart}
use Rattle.ost_forms.proofs.Parts.{Slice, slices}

abbrev pub name_cmp : List ℕ → List ℕ → Ordering
name_cmp = slice_cmp nat_cmp

-- what is left of two lists is apart exactly where they are
pub record SameApart (xs ys left right : List (List ℕ)) : Type 0 where
  pub ascending_left : IsAscending left
  pub ascending_right : IsAscending right
  pub from : AreApart left right → AreApart xs ys
  pub to : AreApart xs ys → AreApart left right

name_order : IsTotalOrder name_cmp
name_order = nat_list_cmp_total

not_itself : (x : List ℕ) → name_cmp x x ≡ Less → ⊥
not_itself x e = let f = name_order.antisymm x x in let g : Less ≡ Greater = sym e ∙ rw (f, e) refl in cc

below_at : (x y : List ℕ) (rs : List (List ℕ)) (k : ℕ) → IsAscending (y ∷ rs) → name_cmp x y ≡ Less → k < length (y ∷ rs) → get_or (y ∷ rs) k x ≡ x → ⊥
below_at x y rs zero h less lt is = not_itself x (ap (λ z. name_cmp x z) (sym is) ∙ less)
below_at x y rs (suc k) h less lt is =
    let above : name_cmp y (get_or (y ∷ rs) (suc k) x) ≡ Less = Less-from_sorted name_cmp (y ∷ rs) 0 (suc k) x h (omega arith) lt in
    not_itself x (name_order.trans x y x less (ap (λ z. name_cmp y z) (sym is) ∙ above))

cases_at : (x n : List ℕ) (xs : List (List ℕ)) (k : ℕ) → k < length (x ∷ xs) → get_or (x ∷ xs) k n ≡ n → (x ≡ n) ⊎ Contains xs n
cases_at x n xs zero lt is = inl is
cases_at x n xs (suc k) lt is = inr (k, omega (arith, lt), is)

contains_more : (x n : List ℕ) (xs : List (List ℕ)) → Contains xs n → Contains (x ∷ xs) n
contains_more x n xs h = (suc h.0, omega (arith, h.1), h.2)

apart_more : (x y : List ℕ) (xs ys : List (List ℕ)) → IsAscending (y ∷ ys) → name_cmp x y ≡ Less → AreApart xs (y ∷ ys) → AreApart (x ∷ xs) (y ∷ ys)
apart_more x y xs ys h less apart n p q = elim (cases_at x n xs p.0 p.1 p.2) [
  | inl is ↦ below_at x y ys q.0 h less q.1 (ap (λ z. get_or (y ∷ ys) q.0 z) is ∙ q.2 ∙ sym is)
  | inr rest ↦ apart n rest q
]

pub apart_start : (xs ys : List (List ℕ)) → IsAscending xs → IsAscending ys → SameApart xs ys xs ys
apart_start xs ys h g = record { ascending_left = h; ascending_right = g; from = λ a. a; to = λ a. a }

apart_swap : (xs ys left right : List (List ℕ)) → SameApart xs ys left right → SameApart ys xs right left
apart_swap xs ys left right s = record {
  ascending_left = s.ascending_right;
  ascending_right = s.ascending_left;
  from = λ a n p q. s.from (λ m u v. a m v u) n q p;
  to = λ a n p q. s.to (λ m u v. a m v u) n q p;
}

first_less : (xs ys : List (List ℕ)) (x y : List ℕ) (left right : List (List ℕ)) → SameApart xs ys (x ∷ left) (y ∷ right) → name_cmp x y ≡ Less → SameApart xs ys left (y ∷ right)
unfolding IsStrictlySortedBy
first_less xs ys x y left right s less = record {
  ascending_left = s.ascending_left.1;
  ascending_right = s.ascending_right;
  from = λ a. s.from (apart_more x y left right s.ascending_right less a);
  to = λ a n p q. s.to a n (contains_more x n left p) q;
}

pub apart_less : (xs ys : List (List ℕ)) (x y : List ℕ) (left ls right rs : List (List ℕ)) → SameApart xs ys left right → left ≡ x ∷ ls → right ≡ y ∷ rs → name_cmp x y ≡ Less → SameApart xs ys ls right
apart_less xs ys x y left ls right rs s e f less = subst (λ r. SameApart xs ys ls r) (sym f) (first_less xs ys x y ls rs (subst (λ r. SameApart xs ys (x ∷ ls) r) f (subst (λ l. SameApart xs ys l right) e s)) less)

pub apart_greater : (xs ys : List (List ℕ)) (x y : List ℕ) (left ls right rs : List (List ℕ)) → SameApart xs ys left right → left ≡ x ∷ ls → right ≡ y ∷ rs → name_cmp x y ≡ Greater → SameApart xs ys left rs
apart_greater xs ys x y left ls right rs s e f greater =
    let less : name_cmp y x ≡ Less = name_order.antisymm y x ∙ rw greater refl in
    apart_swap ys xs rs left (apart_less ys xs y x right rs left ls (apart_swap xs ys left right s) f e less)

pub apart_equal : (xs ys : List (List ℕ)) (x y : List ℕ) (left ls right rs : List (List ℕ)) → SameApart xs ys left right → left ≡ x ∷ ls → right ≡ y ∷ rs → name_cmp x y ≡ Equal → AreApart xs ys → ⊥
apart_equal xs ys x y left ls right rs s e f equal apart =
    let same : x ≡ y = slice_cmp-IsAntisymmetric nat_cmp-IsAntisymmetric x y equal in
    s.to apart x (subst (λ l. Contains l x) (sym e) (0, omega arith, refl)) (subst (λ r. Contains r x) (sym f) (0, omega arith, sym same))

nothing_in : (n : List ℕ) → Contains [] n → ⊥
nothing_in n h = absurd (omega (arith, h.1))

pub apart_left_end : (xs ys left right : List (List ℕ)) → SameApart xs ys left right → left ≡ [] → AreApart xs ys
apart_left_end xs ys left right s e = s.from (λ n p q. nothing_in n (subst (λ l. Contains l n) e p))

pub apart_right_end : (xs ys left right : List (List ℕ)) → SameApart xs ys left right → right ≡ [] → AreApart xs ys
apart_right_end xs ys left right s e = s.from (λ n p q. nothing_in n (subst (λ r. Contains r n) e q))

-- neighbours decide whether a list ascends
pub ascending_from : (xs : List (List ℕ)) → ((k : ℕ) → k + 1 < length xs → name_cmp (get_or xs k []) (get_or xs (k + 1) []) ≡ Less) → IsAscending xs
ascending_from xs h = sorted_from_all_adjacent name_order xs [] h

pub ascending_at : (xs : List (List ℕ)) (k : ℕ) → IsAscending xs → k + 1 < length xs → name_cmp (get_or xs k []) (get_or xs (k + 1) []) ≡ Less
ascending_at xs k h lt = Less-from_sorted name_cmp xs k (k + 1) [] h (omega arith) lt

-- ---- as slices

-- a name among the slices
pub name_at : (names : List Slice) (i : ℕ) (d : Slice) → i < length names → get_or (slices names) i [] ≡ (get_or names i d).now
name_at names i d lt = get_or-map (λ b. b.now) names i d [] lt

pub pair_at : (names : List Slice) (at : ℕ) (d : Slice) → 0 < at → at < length names → name_cmp (get_or (slices names) (at - 1) []) (get_or (slices names) (at - 1 + 1) []) ≡ name_cmp (get_or names (at - 1) d).now (get_or names at d).now
pair_at names at d positive inside =
    let before : at - 1 < length names = omega arith in
    let here : at - 1 + 1 ≡ at = omega arith in
    ap (λ x. name_cmp x (get_or (slices names) (at - 1 + 1) [])) (name_at names (at - 1) d before)
    ∙ ap (λ i. name_cmp (get_or names (at - 1) d).now (get_or (slices names) i [])) here
    ∙ ap (λ y. name_cmp (get_or names (at - 1) d).now y) (name_at names at d inside)

-- the neighbours up to a place ascend
abbrev pub AscendsTo : List Slice → ℕ → Type 0
AscendsTo names at = (k : ℕ) → k + 1 < at → k + 1 < length (slices names) → name_cmp (get_or (slices names) k []) (get_or (slices names) (k + 1) []) ≡ Less

pub ascends_more : (names : List Slice) (at : ℕ) (d : Slice) → 0 < at → at < length names → AscendsTo names at → name_cmp (get_or names (at - 1) d).now (get_or names at d).now ≡ Less → AscendsTo names (at + 1)
ascends_more names at d positive inside so_far less k below within = elim (cases_lt (k + 1) at) [
  | inl lt ↦ so_far k lt within
  | inr le ↦
      let last : k ≡ at - 1 = omega arith in
      subst (λ i. name_cmp (get_or (slices names) i []) (get_or (slices names) (i + 1) []) ≡ Less) (sym last) (pair_at names at d positive inside ∙ less)
]

pub not_ascending : (names : List Slice) (at : ℕ) (d : Slice) → 0 < at → at < length names → (name_cmp (get_or names (at - 1) d).now (get_or names at d).now ≡ Less → ⊥) → IsAscending (slices names) → ⊥
not_ascending names at d positive inside never h =
    let within : at - 1 + 1 < length (slices names) = omega (arith, length-map names (λ (b : Slice). b.now)) in
    never (sym (pair_at names at d positive inside) ∙ ascending_at (slices names) (at - 1) h within)

pub ascends_all : (names : List Slice) (at : ℕ) → length names ≤ at → AscendsTo names at → IsAscending (slices names)
ascends_all names at le h = ascending_from (slices names) (λ k within. h k (omega (arith, within, length-map names (λ (b : Slice). b.now))) within)

pub less_from : (o : Ordering) → is_lt o ≡ true → o ≡ Less
less_from Less e = refl
less_from Equal e = absurd cc
less_from Greater e = absurd cc

pub not_less_from : (o : Ordering) → is_lt o ≡ false → o ≡ Less → ⊥
not_less_from Less e f = absurd cc
not_less_from Equal e f = absurd cc
not_less_from Greater e f = absurd cc

pub ascending_none : IsAscending []
unfolding IsStrictlySortedBy
ascending_none = tt
