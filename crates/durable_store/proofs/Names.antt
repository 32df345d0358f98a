-- Names in order: one more of them, and those that pass a test.
use Rattle.std.proofs.Common.{◌≡◌, ◌⊎◌, inl, inr, ⊎_elim, ◌≤◌, ◌+◌, Bool, true, false, List, [], ◌∷◌, length, refl, sym, ◌∙◌, ap, subst, arith}
use Rattle.std.specs.Prelude.{Contains}
use Rattle.std.specs.List.{filter}
use Rattle.std.specs.List.Sorted.{IsStrictlySortedBy}
use Rattle.std.specs.Cmp.{tied_itself}
use Rattle.std.specs.Ordering.{ordering_reverse}
use Rattle.std.specs.declared.cmp.Ordering.{Ordering}
use Rattle.std.specs.declared.cmp.Ordering.TheVariants.{Less, Equal, Greater}
use Rattle.std.proofs.lemmas.Bool.{cond_both}
use Rattle.std.proofs.lemmas.List.Kept.{IsStrictlySortedBy-filter}
use Rattle.ost_types.specs.declared.object.ObjName.{ObjName}
use Rattle.tree_build.proofs.Lists.{Among, contained_among, among_contained, all_from, all_at}
use Rattle.obj_store.specs.Listing.{name_cmp}
use Rattle.obj_store.proofs.NameOrder.{equal_names, name_order}

not_itself : (a : ObjName) → name_cmp a a ≡ Less → ⊥
not_itself a less = let n : Less ≡ Equal = sym less ∙ tied_itself name_order a in cc

-- The names with this one more.
pub record IsWith (x : ObjName) (xs ys : List ObjName) : Type 0 where
  pub ascending : IsStrictlySortedBy name_cmp ys
  pub had : (a : ObjName) → Among a xs → Among a ys
  pub has : Among x ys
  pub only : (a : ObjName) → Among a ys → Among a xs ⊎ (x ≡ a)
  pub apart : Among x xs → ⊥
  pub longer : length ys ≡ length xs + 1

alone : (x : ObjName) → IsStrictlySortedBy name_cmp [] → IsWith x [] (x ∷ [])
unfolding IsStrictlySortedBy
alone x sorted = record { ascending = (tt, sorted); had = λ a among. absurd among; has = inl refl; only = λ a among. ⊎_elim (λ e. inr e) (λ no_. absurd no_) among; apart = λ among. among; longer = omega arith }

in_front : (x y : ObjName) (ys : List ObjName) → name_cmp x y ≡ Less → IsStrictlySortedBy name_cmp (y ∷ ys) → IsWith x (y ∷ ys) (x ∷ y ∷ ys)
unfolding IsStrictlySortedBy
in_front x y ys less sorted = record {
  ascending = (all_from (λ z. name_cmp x z ≡ Less) (y ∷ ys) above, sorted);
  had = λ a among. inr among;
  has = inl refl;
  only = λ a among. ⊎_elim (λ e. inr e) (λ rest. inl rest) among;
  apart = λ among. not_itself x (above x among);
  longer = omega arith;
}
  where
    above : (z : ObjName) → Among z (y ∷ ys) → name_cmp x z ≡ Less
    above z (inl e) = subst (λ a. name_cmp x a ≡ Less) e less
    above z (inr among) = name_order.trans x y z less (all_at (λ a. name_cmp y a ≡ Less) z ys sorted.0 among)

behind : (x y : ObjName) (ys zs : List ObjName) → name_cmp x y ≡ Greater → IsStrictlySortedBy name_cmp (y ∷ ys) → IsWith x ys zs → IsWith x (y ∷ ys) (y ∷ zs)
unfolding IsStrictlySortedBy
behind x y ys zs greater sorted with_ = record {
  ascending = (all_from (λ z. name_cmp y z ≡ Less) zs above, with_.ascending);
  had = λ a among. ⊎_elim (λ e. inl e) (λ rest. inr (with_.had a rest)) among;
  has = inr with_.has;
  only = λ a among. ⊎_elim (λ e. inl (inl e)) (λ rest. ⊎_elim (λ old. inl (inr old)) (λ e. inr e) (with_.only a rest)) among;
  apart = λ among. ⊎_elim (λ e. not_itself y (subst (λ a. name_cmp y a ≡ Less) (sym e) less)) with_.apart among;
  longer = omega (arith, with_.longer);
}
  where
    less : name_cmp y x ≡ Less
    less = name_order.antisymm y x ∙ ap ordering_reverse greater

    above : (z : ObjName) → Among z zs → name_cmp y z ≡ Less
    above z among = ⊎_elim
        (λ old. all_at (λ a. name_cmp y a ≡ Less) z ys sorted.0 old)
        (λ e. subst (λ a. name_cmp y a ≡ Less) e less)
        (with_.only z among)

sorted_rest : (y : ObjName) (ys : List ObjName) → IsStrictlySortedBy name_cmp (y ∷ ys) → IsStrictlySortedBy name_cmp ys
unfolding IsStrictlySortedBy
sorted_rest y ys sorted = sorted.1

-- a name is among them, or may be put in its place
pub with_name : (x : ObjName) (xs : List ObjName) → IsStrictlySortedBy name_cmp xs → Among x xs ⊎ ((ys : List ObjName) × IsWith x xs ys)
with_name x [] sorted = inr (x ∷ [], alone x sorted)
with_name x (y ∷ ys) sorted = by (name_cmp x y) refl (with_name x ys (sorted_rest y ys sorted))
  where
    by : (r : Ordering) → name_cmp x y ≡ r → Among x ys ⊎ ((zs : List ObjName) × IsWith x ys zs) → Among x (y ∷ ys) ⊎ ((zs : List ObjName) × IsWith x (y ∷ ys) zs)
    by Less is rest = inr (x ∷ y ∷ ys, in_front x y ys is sorted)
    by Equal is rest = inl (inl (sym (equal_names x y is)))
    by Greater is (inl among) = inl (inr among)
    by Greater is (inr w) = inr (y ∷ w.0, behind x y ys w.0 is sorted w.1)

-- ---- different names are no more than those among which they are

less_in : (y : ObjName) (ys : List ObjName) → IsStrictlySortedBy name_cmp (y ∷ ys) → (a : ObjName) → Among a ys → name_cmp y a ≡ Less
unfolding IsStrictlySortedBy
less_in y ys sorted a among = all_at (λ z. name_cmp y z ≡ Less) a ys sorted.0 among

pub few_among : (ys xs : List ObjName) → IsStrictlySortedBy name_cmp ys → IsStrictlySortedBy name_cmp xs → ((a : ObjName) → Among a xs → Among a ys) → length xs ≤ length ys
few_among ys [] ascends rises all = omega arith
few_among [] (x ∷ xs) ascends rises all = absurd (all x (inl refl))
few_among (y ∷ ys) (x ∷ xs) ascends rises all = ⊎_elim
    (λ e. omega (
      arith,
      few_among ys xs (sorted_rest y ys ascends) (sorted_rest x xs rises) (λ a among. ⊎_elim
          (λ here. absurd (not_itself x (subst (λ z. name_cmp x z ≡ Less) (sym here ∙ e) (less_in x xs rises a among))))
          (λ rest. rest)
          (all a (inr among))),
    ))
    (λ later. omega (
      arith,
      few_among ys (x ∷ xs) (sorted_rest y ys ascends) rises (λ a among. ⊎_elim
          (λ here. absurd (not_itself y (subst (λ z. name_cmp y z ≡ Less) (sym here) (above (less_in y ys ascends x later) a among))))
          (λ rest. rest)
          (all a among)),
    ))
    (all x (inl refl))
  where
    above : name_cmp y x ≡ Less → (a : ObjName) → Among a (x ∷ xs) → name_cmp y a ≡ Less
    above less a (inl e) = subst (λ z. name_cmp y z ≡ Less) e less
    above less a (inr among) = name_order.trans y x a less (less_in x xs rises a among)

-- ---- those that pass a test

module _ (t : ObjName → Bool) where
  kept_in : (x : ObjName) (xs : List ObjName) → Among x xs → t x ≡ true → Among x (filter t xs)
  kept_in x [] among passes = absurd among
  kept_in x (y ∷ ys) (inl e) passes = cond_both (t y) (y ∷ filter t ys) (filter t ys) (Among x) (λ yes. inl e) (λ no_. absurd (let n : true ≡ false = sym passes ∙ ap t (sym e) ∙ no_ in cc))
  kept_in x (y ∷ ys) (inr among) passes = cond_both (t y) (y ∷ filter t ys) (filter t ys) (Among x) (λ yes. inr (kept_in x ys among passes)) (λ no_. kept_in x ys among passes)

  kept_from : (x : ObjName) (xs : List ObjName) → Among x (filter t xs) → Among x xs × (t x ≡ true)
  kept_from x [] among = absurd among
  kept_from x (y ∷ ys) among = cond_both (t y) (y ∷ filter t ys) (filter t ys) (λ l. Among x l → Among x (y ∷ ys) × (t x ≡ true))
      (λ yes a. ⊎_elim (λ e. (inl e, ap t (sym e) ∙ yes)) (λ rest. let k = kept_from x ys rest in (inr k.0, k.1)) a)
      (λ no_ a. let k = kept_from x ys a in (inr k.0, k.1))
      among

  few_kept : (xs : List ObjName) → length (filter t xs) ≤ length xs
  few_kept [] = omega arith
  few_kept (y ∷ ys) = cond_both (t y) (y ∷ filter t ys) (filter t ys) (λ l. length l ≤ length (y ∷ ys)) (λ yes. omega (arith, few_kept ys)) (λ no_. omega (arith, few_kept ys))

  pub kept_contains : (x : ObjName) (xs : List ObjName) → Contains xs x → t x ≡ true → Contains (filter t xs) x
  kept_contains x xs has passes = among_contained x (filter t xs) (kept_in x xs (contained_among x xs has) passes)

  pub contains_kept : (x : ObjName) (xs : List ObjName) → Contains (filter t xs) x → Contains xs x × (t x ≡ true)
  contains_kept x xs has = let k = kept_from x xs (contained_among x (filter t xs) has) in (among_contained x xs k.0, k.1)

  pub kept_ascends : (xs : List ObjName) → IsStrictlySortedBy name_cmp xs → IsStrictlySortedBy name_cmp (filter t xs)
  kept_ascends xs sorted = IsStrictlySortedBy-filter name_cmp t xs sorted

  pub kept_few : (xs : List ObjName) → length (filter t xs) ≤ length xs
  kept_few = few_kept

-- ---- all but one

abbrev not_equal : Ordering → Bool
not_equal Less = true
not_equal Equal = false
not_equal Greater = true

abbrev pub is_other : ObjName → ObjName → Bool
is_other one a = not_equal (name_cmp a one)

pub not_other : (one : ObjName) → is_other one one ≡ true → ⊥
not_other one is = let n : false ≡ true = sym (ap not_equal (tied_itself name_order one)) ∙ is in cc

pub other_or : (one a : ObjName) → (a ≡ one) ⊎ (is_other one a ≡ true)
other_or one a = by (name_cmp a one) refl
  where
    by : (r : Ordering) → name_cmp a one ≡ r → (a ≡ one) ⊎ (is_other one a ≡ true)
    by Less is = inr (ap not_equal is)
    by Equal is = inl (equal_names a one is)
    by Greater is = inr (ap not_equal is)
