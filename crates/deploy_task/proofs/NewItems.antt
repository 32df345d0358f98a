-- The new list may boot, and its deployments are there.
use Rattle.std.proofs.Common.{◌≡◌, ◌⊎◌, inl, inr, ℕ, zero, suc, ◌+◌, ◌<◌, ◌≤◌, arith, Bool, true, false, cond, List, [], ◌∷◌, length, get_or, filter, slice_get, Option, Some, None, All, Contains, refl, sym, ◌∙◌, ap, subst}
use Rattle.std.specs.List.{cons_option, range_with_len}
use Rattle.std.proofs.lemmas.List.Elements.{All-cons, All-nil}
use Rattle.std.proofs.lemmas.Option.{slice_get_cases}
use Rattle.fs_trait.specs.View.{Disk}
use Rattle.fs_trait.specs.Seen.{IsDirectory, shows}
use Rattle.repo_layout.specs.Paths.{deploy_path}
use Rattle.boot_model.specs.declared.item.BootItem.{BootItem}
use Rattle.boot_model.specs.Items.{AreItems, IsAt, IsItem}
use Rattle.boot_swap.specs.Steps.{HasPlaces}
use Rattle.tree_read.proofs.Walk.{mapped}
use Rattle.deploy_task.specs.Listed.{ids_in, items_at}

-- ---- the members at some places of a list

-- each of the places is at least this one, and less than the next
abbrev pub AreFrom : ℕ → List ℕ → Type 0
AreFrom a [] = Unit {0}
AreFrom a (k ∷ ks) = (a ≤ k) × AreFrom (k + 1) ks

from_lower : (a b : ℕ) (ks : List ℕ) → a ≤ b → AreFrom b ks → AreFrom a ks
from_lower a b [] le from = tt
from_lower a b (k ∷ ks) le from = let h = from.0 in (omega (arith, le, h), from.1)

pub filter_from : (p : ℕ → Bool) (a n : ℕ) → AreFrom a (filter p (range_with_len a n))
filter_from p a zero = tt
filter_from p a (suc n) = by (p a) (filter_from p (a + 1) n)
  where
    by : (b : Bool) → AreFrom (a + 1) (filter p (range_with_len (a + 1) n)) → AreFrom a (cond b (a ∷ filter p (range_with_len (a + 1) n)) (filter p (range_with_len (a + 1) n)))
    by true rest = (omega arith, rest)
    by false rest = from_lower a (a + 1) _ (omega arith) rest

module _ (items : List BootItem) where
  at_here : (k : ℕ) (ks : List ℕ) (o : Option BootItem) → slice_get items k ≡ o → items_at items (k ∷ ks) ≡ cons_option o (items_at items ks)
  at_here k ks o is = ap (λ x. cons_option x (items_at items ks)) is

  abbrev Found : ℕ → Type 0
  Found k = ((x : BootItem) × (k < length items) × (slice_get items k ≡ Some x) × (get_or items k x ≡ x)) ⊎ ((length items ≤ k) × (slice_get items k ≡ None))

  found : (k : ℕ) → Found k
  found k = (slice_get_cases items k).1

  -- what is told of the places behind one
  abbrev Later : ℕ → List ℕ → BootItem → Type 0
  Later k ks x = (j : ℕ) → IsAt (items_at items ks) j x → (m : ℕ) × (k + 1 ≤ m) × IsAt items m x

  abbrev Follow : List ℕ → BootItem → BootItem → Type 0
  Follow ks x y = (m n : ℕ) → IsAt (items_at items ks) m x → IsAt (items_at items ks) n y → m ≡ n

  -- each is a member of the list, at one of the places
  pub member_at : (a : ℕ) (ks : List ℕ) → AreFrom a ks → (i : ℕ) (x : BootItem) → IsAt (items_at items ks) i x → (k : ℕ) × (a ≤ k) × IsAt items k x
  member_at a [] from i x at = let h : i < 0 = at.0 in absurd (omega (arith, h))
  member_at a (k ∷ ks) from i x at = by (found k) (λ j here. member_at (k + 1) ks from.1 j x here)
    where
      later : (m : ℕ) × (k + 1 ≤ m) × IsAt items m x → (m : ℕ) × (a ≤ m) × IsAt items m x
      later m = let over = m.1 in let le = from.0 in (m.0, omega (arith, over, le), m.2)

      first : (z : BootItem) → k < length items → get_or items k z ≡ z → Later k ks x → (j : ℕ) → IsAt (z ∷ items_at items ks) j x → (m : ℕ) × (a ≤ m) × IsAt items m x
      first z less is rest zero here = let same : z ≡ x = here.1 in (k, from.0, subst (IsAt items k) same (less, is))
      first z less is rest (suc j) here = let inside = here.0 in later (rest j (omega (arith, inside), here.1))

      by : Found k → Later k ks x → (m : ℕ) × (a ≤ m) × IsAt items m x
      by (inl (z, less, is, got)) rest = first z less got rest i (subst (λ l. IsAt l i x) (at_here k ks (Some z) is) at)
      by (inr (past, is)) rest = later (rest i (subst (λ l. IsAt l i x) (at_here k ks None is) at))

  pub few_at : (ks : List ℕ) → length (items_at items ks) ≤ length ks
  few_at [] = omega arith
  few_at (k ∷ ks) = by (slice_get items k) (few_at ks)
    where
      by : (o : Option BootItem) → length (items_at items ks) ≤ length ks → length (cons_option o (items_at items ks)) ≤ length (k ∷ ks)
      by (Some x) h = omega (arith, h)
      by None h = omega (arith, h)

  pub each_at : (P : BootItem → Type 0) → All P items → (ks : List ℕ) → All P (items_at items ks)
  each_at P all [] = All-nil P
  each_at P all (k ∷ ks) = by (found k) (each_at P all ks)
    where
      by : Found k → All P (items_at items ks) → All P (items_at items (k ∷ ks))
      by (inl (z, less, is, got)) rest = subst (All P) (sym (at_here k ks (Some z) is)) (All-cons P z (items_at items ks) (subst P got (all k z less)) rest)
      by (inr (past, is)) rest = subst (All P) (sym (at_here k ks None is)) rest

  -- no two of them are one deployment
  module _ (differ : (i j : ℕ) (a b : BootItem) → IsAt items i a → IsAt items j b → a.id ≡ b.id → i ≡ j) where
    apart : (k : ℕ) (ks : List ℕ) → AreFrom (k + 1) ks → (z : BootItem) → IsAt items k z → (j : ℕ) (y : BootItem) → IsAt (items_at items ks) j y → z.id ≡ y.id → ⊥
    apart k ks from z here j y there same =
        let m = member_at (k + 1) ks from j y there in
        let e : k ≡ m.0 = differ k m.0 z y here m.2 same in
        let over = m.1 in
        omega (arith, e, over)

    pub differ_at : (a : ℕ) (ks : List ℕ) → AreFrom a ks → (i j : ℕ) (x y : BootItem) → IsAt (items_at items ks) i x → IsAt (items_at items ks) j y → x.id ≡ y.id → i ≡ j
    differ_at a [] from i j x y at there same = let h : i < 0 = at.0 in absurd (omega (arith, h))
    differ_at a (k ∷ ks) from i j x y at there same = by (found k) (λ m n one two. differ_at (k + 1) ks from.1 m n x y one two same)
      where
        both : (z : BootItem) → IsAt items k z → Follow ks x y → (m n : ℕ) → IsAt (z ∷ items_at items ks) m x → IsAt (z ∷ items_at items ks) n y → m ≡ n
        both z here rest zero zero one two = refl
        both z here rest zero (suc n) one two =
            let first : z ≡ x = one.1 in
            let inside = two.0 in
            absurd (apart k ks from.1 z here n y (omega (arith, inside), two.1) (ap (λ (i : BootItem). i.id) first ∙ same))
        both z here rest (suc m) zero one two =
            let first : z ≡ y = two.1 in
            let inside = one.0 in
            absurd (apart k ks from.1 z here m x (omega (arith, inside), one.1) (ap (λ (i : BootItem). i.id) first ∙ sym same))
        both z here rest (suc m) (suc n) one two =
            let within = one.0 in
            let inside = two.0 in
            let e : m ≡ n = rest m n (omega (arith, within), one.1) (omega (arith, inside), two.1) in
            ap suc e

        by : Found k → Follow ks x y → i ≡ j
        by (inl (z, less, is, got)) rest = both z (less, got) rest i j (subst (λ l. IsAt l i x) (at_here k ks (Some z) is) at) (subst (λ l. IsAt l j y) (at_here k ks (Some z) is) there)
        by (inr (past, is)) rest = rest i j (subst (λ l. IsAt l i x) (at_here k ks None is) at) (subst (λ l. IsAt l j y) (at_here k ks None is) there)

-- ---- with a new one in front

module _ (items : List BootItem) (new : BootItem) (a : ℕ) (ks : List ℕ) (from : AreFrom a ks) where
  listed : (i : ℕ) (x : BootItem) → IsAt items i x → Contains (ids_in items) x.id
  listed i x at = let m = mapped (λ (item : BootItem). item.id) items x (i, at.0, at.1) in m

  pub new_are : AreItems items → IsItem new → ¬ (Contains (ids_in items) new.id) → length ks < 8 → AreItems (new ∷ items_at items ks)
  new_are are is other few = record {
    few = let h = few_at items ks in omega (arith, h, few);
    each = All-cons IsItem new (items_at items ks) is (each_at items IsItem are.each ks);
    differ = differ;
  }
    where
      unlike : (j : ℕ) (y : BootItem) → IsAt (items_at items ks) j y → new.id ≡ y.id → ⊥
      unlike j y at same = let m = member_at items a ks from j y at in other (subst (Contains (ids_in items)) (sym same) (listed m.0 y m.2))

      differ : (i j : ℕ) (x y : BootItem) → IsAt (new ∷ items_at items ks) i x → IsAt (new ∷ items_at items ks) j y → x.id ≡ y.id → i ≡ j
      differ zero zero x y at there same = refl
      differ zero (suc j) x y at there same =
          let first : new ≡ x = at.1 in
          let inside = there.0 in
          absurd (unlike j y (omega (arith, inside), there.1) (ap (λ (i : BootItem). i.id) first ∙ same))
      differ (suc i) zero x y at there same =
          let first : new ≡ y = there.1 in
          let inside = at.0 in
          absurd (unlike i x (omega (arith, inside), at.1) (ap (λ (i : BootItem). i.id) first ∙ sym same))
      differ (suc i) (suc j) x y at there same =
          let within = at.0 in
          let inside = there.0 in
          let e : i ≡ j = differ_at items are.differ a ks from i j x y (omega (arith, within), at.1) (omega (arith, inside), there.1) same in
          ap suc e

  pub new_places : (d : Disk) → HasPlaces items d → IsDirectory (shows d (deploy_path new.id.os new.id.commit new.id.serial)) → HasPlaces (new ∷ items_at items ks) d
  new_places d places there = record { boot = places.boot; ostree = places.ostree; deployments = each }
    where
      each : (i : ℕ) (x : BootItem) → IsAt (new ∷ items_at items ks) i x → IsDirectory (shows d (deploy_path x.id.os x.id.commit x.id.serial))
      each zero x at = let first : new ≡ x = at.1 in subst (λ (x : BootItem). IsDirectory (shows d (deploy_path x.id.os x.id.commit x.id.serial))) first there
      each (suc i) x at = let inside = at.0 in let m = member_at items a ks from i x (omega (arith, inside), at.1) in places.deployments m.0 x m.2
