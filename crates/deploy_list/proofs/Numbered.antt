-- As many numbers as are taken, so many deployments there are.
use Rattle.std.proofs.Common.{◌≡◌, ◌+◌, ◌<◌, ◌≤◌, ◌==◌, ◌&&◌, ◌||◌, ℕ, zero, suc, Bool, true, false, nat_lt, cond, List, [], ◌∷◌, length, refl, sym, ◌∙◌, ap, subst, arith, rules}
use Rattle.std.specs.List.{list_any}
use Rattle.std.proofs.lemmas.Bool.Decides.{nat_tests}
use Rattle.ost_types.specs.Path.{same_name}
use Rattle.boot_model.specs.declared.item.DepId.{DepId}
use Rattle.deploy_list.specs.declared.dep.Dep.{Dep}
use Rattle.deploy_list.specs.Lists.{IsLeastFree, has_serial, is_id}

abbrev count : {X : Type 0} → (X → Bool) → List X → ℕ
count p [] = 0
count p (x ∷ xs) = cond (p x) 1 0 + count p xs

count_within : {X : Type 0} (p : X → Bool) (xs : List X) → count p xs ≤ length xs
count_within p [] = omega arith
count_within p (x ∷ xs) = by (p x) (count_within p xs)
  where
    by : (t : Bool) → count p xs ≤ length xs → cond t 1 0 + count p xs ≤ length (x ∷ xs)
    by true h = omega (arith, h)
    by false h = omega (arith, h)

module _ {X : Type 0} (p q r : X → Bool) (old : (x : X) → p x ≡ true → (r x ≡ true) × (q x ≡ false)) (new : (x : X) → q x ≡ true → r x ≡ true) where
  one_more : (a b c : Bool) → (a ≡ true → (c ≡ true) × (b ≡ false)) → (b ≡ true → c ≡ true) → cond a 1 0 + cond b 1 0 ≤ cond c 1 0
  one_more true true c f g = absurd (let h : false ≡ true = sym (f refl).1 in cc)
  one_more true false c f g = rw (f refl).0 (omega arith)
  one_more false true c f g = rw (g refl) (omega arith)
  one_more false false true f g = omega arith
  one_more false false false f g = omega arith

  both_within : (xs : List X) → count p xs + count q xs ≤ count r xs
  both_within [] = omega arith
  both_within (x ∷ xs) = let h = one_more (p x) (q x) (r x) (old x) (new x) in let t = both_within xs in omega (arith, h, t)

some_counts : {X : Type 0} (q : X → Bool) (xs : List X) → list_any q xs ≡ true → 0 < count q xs
some_counts q [] e = absurd (let h : false ≡ true = e in cc)
some_counts q (x ∷ xs) e = by (q x) refl (λ h. some_counts q xs h)
  where
    by : (t : Bool) → q x ≡ t → (list_any q xs ≡ true → 0 < count q xs) → 0 < cond (q x) 1 0 + count q xs
    by true is rest = rw is (omega arith)
    by false is rest = let h : 0 < count q xs = rest (sym (ap (λ t. t || list_any q xs) is) ∙ e) in omega (arith, h)

-- ---- deployments with a serial below a number

module _ (list : List Dep) (os : List ℕ) (commit : List ℕ) where
  abbrev is_below : ℕ → Dep → Bool
  is_below n dep = same_name dep.id.os os && same_name dep.id.commit commit && nat_lt dep.id.serial n

  below_old : (a b : Bool) (s n : ℕ) → (a && b && nat_lt s n) ≡ true → ((a && b && nat_lt s (n + 1)) ≡ true) × ((a && b && (s == n)) ≡ false)
  below_old true true s n h = (grind (arith, nat_tests, h), grind (arith, nat_tests, h))
  below_old true false s n h = absurd (let e : false ≡ true = h in cc)
  below_old false b s n h = absurd (let e : false ≡ true = h in cc)

  below_new : (a b : Bool) (s n : ℕ) → (a && b && (s == n)) ≡ true → (a && b && nat_lt s (n + 1)) ≡ true
  below_new true true s n h = grind (arith, nat_tests, h)
  below_new true false s n h = absurd (let e : false ≡ true = h in cc)
  below_new false b s n h = absurd (let e : false ≡ true = h in cc)

  all_below : (n : ℕ) → ((other : ℕ) → other < n → has_serial list os commit other ≡ true) → n ≤ count (is_below n) list
  all_below zero taken = omega arith
  all_below (suc n) taken =
      let rest = all_below n (λ other less. taken other (omega (arith, less))) in
      let here = some_counts (λ dep. is_id os commit n dep.id) list (taken n (omega arith)) in
      let step = both_within (is_below n) (λ dep. is_id os commit n dep.id) (is_below (n + 1)) (λ dep. below_old (same_name dep.id.os os) (same_name dep.id.commit commit) dep.id.serial n) (λ dep. below_new (same_name dep.id.os os) (same_name dep.id.commit commit) dep.id.serial n) list in
      let sum : suc n ≤ count (is_below (n + 1)) list = omega (arith, rest, here, step) in
      subst (λ m. suc n ≤ count (is_below m) list) (omega arith) sum

  pub taken_within : (n : ℕ) → ((other : ℕ) → other < n → has_serial list os commit other ≡ true) → n ≤ length list
  taken_within n taken = let a = all_below n taken in let b = count_within (is_below n) list in omega (arith, a, b)

-- the numbers below this one are taken
pub record Taken (list : List Dep) (os : List ℕ) (commit : List ℕ) (n : ℕ) : Type 0 where
  pub taken : (other : ℕ) → other < n → has_serial list os commit other ≡ true
  pub bound : n ≤ length list

pub taken_none : (list : List Dep) (os commit : List ℕ) → Taken list os commit 0
taken_none list os commit = record { taken = λ other less. absurd (omega (arith, less)); bound = omega arith }

pub taken_more : (list : List Dep) (os commit : List ℕ) (n : ℕ) (here : Bool) → here ≡ has_serial list os commit n → here ≡ true → Taken list os commit n → Taken list os commit (n + 1)
taken_more list os commit n here is holds t =
    let all : ((other : ℕ) → other < n + 1 → has_serial list os commit other ≡ true) = λ other less. by other less (other == n) refl in
    record { taken = all; bound = taken_within list os commit (n + 1) all }
  where
    by : (other : ℕ) → other < n + 1 → (b : Bool) → (other == n) ≡ b → has_serial list os commit other ≡ true
    by other less true same = let e : other ≡ n = grind (arith, nat_tests, same) in subst (λ k. has_serial list os commit k ≡ true) (sym e) (sym is ∙ holds)
    by other less false apart = t.taken other (grind (arith, nat_tests, apart, less))
