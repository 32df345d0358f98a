-- From the parts that are listed to the names of all objects.
use Rattle.std.proofs.Common.{◌≡◌, ◌⊎◌, inl, inr, ℕ, ◌+◌, ◌<◌, ◌≤◌, List, [], ◌∷◌, ◌++◌, take, slice_index, refl, sym, ◌∙◌, ap, subst, arith}
use Rattle.std.specs.Prelude.{Contains}
use Rattle.std.specs.List.{AllByRecursion}
use Rattle.std.specs.List.Sorted.{IsStrictlySortedBy}
use Rattle.std.specs.declared.cmp.Ordering.{Ordering}
use Rattle.std.specs.declared.cmp.Ordering.TheVariants.{Less}
use Rattle.std.proofs.lemmas.List.Elements.{Contains-append_left, Contains-append_right, Contains-append_cases}
use Rattle.ost_types.specs.declared.object.ObjName.{ObjName}
use Rattle.fs_trait.specs.View.{Disk}
use Rattle.repo_layout.specs.RefFile.{IsSum}
use Rattle.obj_store.specs.Listing.{IsList, name_cmp}
use Rattle.store_check.specs.Listing.{AreAll, AreBelow, IsThere, head_of}
use Rattle.store_check.proofs.Orders.{first_byte_less}

none_sorted : {X : Type 0} (c : X → X → Ordering) → IsStrictlySortedBy c []
unfolding IsStrictlySortedBy
none_sorted c = tt

none_in : {X : Type 0} (x : X) → Contains {X = X} [] x → ⊥
none_in x (k, less, is) = omega (arith, less)

pub none_below : (d : Disk) (names : List ObjName) → names ≡ [] → AreBelow d 0 names
none_below d names empty = record {
  ascending = subst (IsStrictlySortedBy name_cmp) (sym empty) (none_sorted name_cmp);
  here = λ o has. absurd (none_in o (subst (λ l. Contains l o) empty has));
  all = λ o there less. absurd (omega (arith, less));
}

module _ {X : Type 0} where
  both : (P : X → Type 0) (xs ys : List X) → AllByRecursion P xs → AllByRecursion P ys → AllByRecursion P (xs ++ ys)
  both P [] ys a b = b
  both P (x ∷ xs) ys a b = (a.0, both P xs ys a.1 b)

  each : (P : X → Type 0) (ys : List X) → ((y : X) → Contains ys y → P y) → AllByRecursion P ys
  each P [] of = tt
  each P (y ∷ ys) of = (of y (0, omega arith, refl), each P ys (λ z has. of z (Contains-append_right (y ∷ []) ys z has)))

  pub sorted_append : (c : X → X → Ordering) (xs ys : List X) → IsStrictlySortedBy c xs → IsStrictlySortedBy c ys → ((x y : X) → Contains xs x → Contains ys y → c x y ≡ Less) → IsStrictlySortedBy c (xs ++ ys)
  unfolding IsStrictlySortedBy
  sorted_append c [] ys s t apart = t
  sorted_append c (x ∷ xs) ys s t apart = (
    both (λ y. c x y ≡ Less) xs ys s.0 (each (λ y. c x y ≡ Less) ys (λ y has. apart x y (0, omega arith, refl) has)),
    sorted_append c xs ys s.1 t (λ a b has other. apart a b (Contains-append_right (x ∷ []) xs a has) other),
  )

head_takes : (s : List ℕ) (n : ℕ) → take 1 s ≡ n ∷ [] → head_of s ≡ n
head_takes [] n e = let m : [] ≡ n ∷ [] = e in cc
head_takes (x ∷ s) n e = ap (λ l. slice_index l 0) e

takes_head : (s : List ℕ) → IsSum s → take 1 s ≡ head_of s ∷ []
takes_head [] sum = absurd (omega (arith, sum.whole))
takes_head (x ∷ s) sum = refl

module _ (d : Disk) (n : ℕ) (names part : List ObjName) (so_far : AreBelow d n names) (list : IsList d n part) where
  ascends : IsStrictlySortedBy name_cmp (names ++ part)
  ascends = sorted_append name_cmp names part so_far.ascending list.ascending (λ a b has other.
      let here = so_far.here a has in
      let there = list.here b other in
      first_byte_less a b here.0.sum there.sum (omega (arith, here.1, head_takes b.csum n there.begins)))

  stands : (o : ObjName) → Contains (names ++ part) o → IsThere d o × (head_of o.csum < n + 1)
  stands o has = by (Contains-append_cases names part o has)
    where
      by : Contains names o ⊎ Contains part o → IsThere d o × (head_of o.csum < n + 1)
      by (inl a) = let here = so_far.here o a in (here.0, omega (arith, here.1))
      by (inr b) = let there = list.here o b in (record { sum = there.sum; there = there.there }, omega (arith, head_takes o.csum n there.begins))

  pub more_below : (m : ℕ) (all : List ObjName) → m ≡ n + 1 → all ≡ names ++ part → AreBelow d m all
  more_below m all next are = subst (λ k. AreBelow d k all) (sym next) (subst (AreBelow d (n + 1)) (sym are) (record {
    ascending = ascends;
    here = stands;
    all = λ o there less. by o there (order (head_of o.csum) n less);
  }))
    where
      order : (k n : ℕ) → k < n + 1 → (k < n) ⊎ (k ≡ n)
      order k n less = grind (arith, less)

      by : (o : ObjName) → IsThere d o → (head_of o.csum < n) ⊎ (head_of o.csum ≡ n) → Contains (names ++ part) o
      by o there (inl less) = Contains-append_left names part o (so_far.all o there less)
      by o there (inr same) = Contains-append_right names part o (list.all o (record { sum = there.sum; begins = takes_head o.csum there.sum ∙ ap (λ k. k ∷ []) same; there = there.there }))

pub all_names : (d : Disk) (n : ℕ) (names : List ObjName) → 256 ≤ n → AreBelow d n names → AreAll d names
all_names d n names whole are = record {
  ascending = are.ascending;
  here = λ o has. (are.here o has).0;
  all = λ o there. are.all o there (let byte = there.sum.bytes 0 in omega (arith, whole, byte));
}
