-- Lists that are gone through from the front, in the order of names.
use Rattle.std.proofs.Common.{◌≡◌, ◌⊎◌, inl, inr, ℕ, zero, suc, ◌+◌, ◌<◌, ◌≤◌, List, [], ◌∷◌, ◌++◌, map, length, get_or, take, filter, if◌then◌else◌, Bool, true, false, refl, sym, ◌∙◌, ap, subst, arith, All}
use Rattle.std.specs.Prelude.{Contains}
use Rattle.std.specs.Cmp.Lexicographic.{slice_cmp}
use Rattle.std.specs.Ordering.{nat_cmp}
use Rattle.std.specs.List.Sorted.{IsStrictlySortedBy}
use Rattle.std.specs.declared.cmp.Ordering.TheVariants.{Less, Equal}
use Rattle.std.proofs.lemmas.Cmp.{nat_list_cmp_total, tied_itself}
use Rattle.std.proofs.lemmas.List.{get_or_default, get_or-map, length-map, length-take-le, map_push, take_all, take_more}
use Rattle.std.proofs.lemmas.List.Elements.{All-contains, All-nil, All-push}
use Rattle.std.proofs.lemmas.Map.Keys.{Less-from_sorted}
use Rattle.ost_types.specs.Path.{Name}
use Rattle.boot_read.specs.Rules.{ComesBefore, IsFirst}

-- ---- the order of names

pub before_self : (x : Name) → ComesBefore x x → ⊥
before_self x e = let n : Equal ≡ Less = sym (tied_itself nat_list_cmp_total x) ∙ e in cc

pub not_both : (x y : Name) → ComesBefore x y → ComesBefore y x → ⊥
not_both x y a b = before_self x (nat_list_cmp_total.trans x y x a b)

order : (j k : ℕ) → (j < k) ⊎ (j ≡ k) ⊎ (k < j)
order j k = grind arith

-- the first of a list in this order of which something is so
module _ (P : Name → Type 0) (names : List Name) (k : ℕ) (x : Name) (sorted : IsStrictlySortedBy (slice_cmp nat_cmp) names) (inside : k < length names) (is : x ≡ get_or names k x)
    (none : (j : ℕ) (y : Name) → j < k → get_or names j y ≡ y → ¬ (P y)) where
  not_earlier : (y : Name) → ComesBefore y x → P y → (j : ℕ) → j < length names → get_or names j y ≡ y → (j < k) ⊎ (j ≡ k) ⊎ (k < j) → ⊥
  not_earlier y before bad j within here (inl earlier) = none j y earlier here bad
  not_earlier y before bad j within here (inr (inl same)) =
      let e : y ≡ x = sym here ∙ get_or_default names j y x within ∙ ap (λ n. get_or names n x) same ∙ sym is in
      before_self x (subst (λ z. ComesBefore z x) e before)
  not_earlier y before bad j within here (inr (inr later)) =
      let less : slice_cmp nat_cmp (get_or names k x) (get_or names j x) ≡ Less = Less-from_sorted (slice_cmp nat_cmp) names k j x sorted later within in
      let there : ComesBefore x y = subst (λ z. ComesBefore x z) (get_or_default names j x y within ∙ here) (subst (λ z. ComesBefore z (get_or names j x)) (sym is) less) in
      not_both x y there before

  pub first_of : ((y : Name) → P y → Contains names y) → P x → IsFirst P x
  first_of among has = record { has = has; least = λ y before bad. let c = among y bad in not_earlier y before bad c.0 c.1 c.2 (order c.0 k) }

-- ---- maps

pub mapped : {X Y : Type 0} (g : X → Y) (xs : List X) (y : Y) → Contains (map g xs) y → (x : X) × Contains xs x × (g x ≡ y)
mapped g [] y c = absurd (omega (arith, c.1))
mapped g (x ∷ xs) y (zero, lt, e) = (x, (0, omega arith, refl), e)
mapped g (x ∷ xs) y (suc k, lt, e) = let r = mapped g xs y (k, omega (arith, lt), e) in (r.0, (suc r.1.0, omega (arith, r.1.1), r.1.2), r.2)

pub in_map : {X Y : Type 0} (g : X → Y) (xs : List X) (x : X) → Contains xs x → Contains (map g xs) (g x)
in_map g [] x c = absurd (omega (arith, c.1))
in_map g (z ∷ xs) x (zero, lt, e) = (0, omega arith, ap g e)
in_map g (z ∷ xs) x (suc k, lt, e) = let r = in_map g xs x (k, omega (arith, lt), e) in (suc r.0, omega (arith, r.1), r.2)

pub in_filter : {X : Type 0} (p : X → Bool) (xs : List X) (x : X) → Contains xs x → p x ≡ true → Contains (filter p xs) x
in_filter p [] x c passes = absurd (omega (arith, c.1))
in_filter p (z ∷ xs) x (zero, lt, e) passes = rw (ap p e ∙ passes) ((0, omega arith, e))
in_filter p (z ∷ xs) x (suc k, lt, e) passes = by (p z) (in_filter p xs x (k, omega (arith, lt), e) passes)
  where
    by : (t : Bool) → Contains (filter p xs) x → Contains (if t then z ∷ filter p xs else filter p xs) x
    by true c = (suc c.0, omega (arith, c.1), c.2)
    by false c = c

-- ---- what a loop has made of the first elements

-- Of each of the first k elements one was made, which has its name and is as it should be.
pub record SoFar {X Y : Type 0} (f : X → Name) (g : Y → Name) (Good : Y → Type 0) (xs : List X) (k : ℕ) (ys : List Y) : Type 0 where
  pub names : map g ys ≡ take k (map f xs)
  pub good : All Good ys

module _ {X Y : Type 0} (f : X → Name) (g : Y → Name) (Good : Y → Type 0) (xs : List X) where
  pub none_so_far : (ys : List Y) → ys ≡ [] → SoFar f g Good xs 0 ys
  none_so_far ys none = subst (SoFar f g Good xs 0) (sym none) (record { names = refl; good = All-nil Good })

  pub one_more : (k : ℕ) (x : X) (ys zs : List Y) (y : Y) → k < length xs → x ≡ get_or xs k x → g y ≡ f x → Good y → zs ≡ ys ++ y ∷ [] → SoFar f g Good xs k ys → SoFar f g Good xs (k + 1) zs
  one_more k x ys zs y inside is named good pushed so_far = subst (SoFar f g Good xs (k + 1)) (sym pushed) (record {
    names =
        map_push g ys y ∙ ap (λ l. l ++ g y ∷ []) so_far.names
        ∙ ap (λ n. take k (map f xs) ++ n ∷ []) (named ∙ ap f is ∙ sym (get_or-map f xs k x (f x) inside))
        ∙ sym (take_more (map f xs) k (f x) (omega (arith, inside, length-map xs f)));
    good = All-push Good ys y so_far.good good;
  })

  pub names_all : (k : ℕ) (ys : List Y) → length xs ≤ k → SoFar f g Good xs k ys → map g ys ≡ map f xs
  names_all k ys whole so_far = so_far.names ∙ take_all k (map f xs) (omega (arith, whole, length-map xs f))

  pub length_all : (k : ℕ) (ys : List Y) → length xs ≤ k → SoFar f g Good xs k ys → length ys ≡ length xs
  length_all k ys whole so_far = sym (length-map ys g) ∙ ap length (names_all k ys whole so_far) ∙ length-map xs f

  -- the next one is the first of which this is so
  module _ (P : Name → Type 0) (sorted : IsStrictlySortedBy (slice_cmp nat_cmp) (map f xs)) (among : (y : Name) → P y → Contains (map f xs) y) (fine : (y : Y) → Good y → ¬ (P (g y)))
      (k : ℕ) (x : X) (ys : List Y) (inside : k < length xs) (is : x ≡ get_or xs k x) (so_far : SoFar f g Good xs k ys) where
    none_before : (j : ℕ) (y : Name) → j < k → get_or (map f xs) j y ≡ y → ¬ (P y)
    none_before j y earlier here bad =
        let long : length (take k (map f xs)) ≡ k = length-take-le k (map f xs) (omega (arith, inside, length-map xs f)) in
        let front : Contains (take k (map f xs)) y = (j, omega (arith, earlier, long), taken (map f xs) k j y (omega (arith, earlier, inside, length-map xs f)) earlier ∙ here) in
        let m = mapped g ys y (subst (λ l. Contains l y) (sym so_far.names) front) in
        fine m.0 (All-contains Good ys m.0 so_far.good m.1) (subst P (sym m.2) bad)
      where
        taken : (l : List Name) (k j : ℕ) (y : Name) → j < length l → j < k → get_or (take k l) j y ≡ get_or l j y
        taken [] k j y less earlier = absurd (omega (arith, less))
        taken (z ∷ l) zero j y less earlier = absurd (omega (arith, earlier))
        taken (z ∷ l) (suc k) zero y less earlier = refl
        taken (z ∷ l) (suc k) (suc j) y less earlier = taken l k j y (omega (arith, less)) (omega (arith, earlier))

    pub first_so_far : P (f x) → IsFirst P (f x)
    first_so_far has = first_of P (map f xs) k (f x) sorted (omega (arith, inside, length-map xs f)) (ap f is ∙ sym (get_or-map f xs k x (f x) inside)) none_before among has
