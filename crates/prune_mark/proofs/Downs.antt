-- Names without a mark, one more of them.
use Rattle.std.proofs.Common.{◌≡◌, ◌⊎◌, inl, inr, ⊎_elim, ℕ, ◌<◌, ◌+◌, Bool, true, false, not, List, [], ◌∷◌, ◌++◌, length, get_or, refl, sym, ◌∙◌, ap, subst, arith, IsTrue}
use Rattle.std.specs.Prelude.{◌↔◌, Contains}
use Rattle.std.specs.List.{AllByRecursion}
use Rattle.std.specs.List.Sorted.{IsStrictlySortedBy}
use Rattle.std.specs.declared.cmp.Ordering.TheVariants.{Less}
use Rattle.std.proofs.lemmas.List.{get_or_default}
use Rattle.std.proofs.lemmas.List.Elements.{Contains-append_left, Contains-append_right, Contains-append_cases}
use Rattle.std.proofs.lemmas.Map.Keys.{Less-from_sorted}
use Rattle.ost_types.specs.declared.object.Kind.{Kind}
use Rattle.ost_types.specs.declared.object.Kind.TheVariants as kind
use Rattle.ost_types.specs.declared.object.ObjName.{ObjName}
use Rattle.obj_store.specs.Listing.{name_cmp}
use Rattle.prune_mark.specs.Flags.{AreAscending, IsDown, IsMarked}
use Rattle.prune_mark.specs.Doomed.{AreDown, AreUnmarked, IsOfKind}
use Rattle.prune_mark.proofs.Search.{one_place}

none_in : (x : ObjName) → Contains [] x → ⊥
none_in x h = omega (arith, h.1)

one_in : (x y : ObjName) → Contains (y ∷ []) x → x ≡ y
one_in x y (i, inside, is) = sym is ∙ ap (λ k. get_or (y ∷ []) k x) (first i inside)
  where
    first : (i : ℕ) → i < 1 → i ≡ 0
    first i inside = omega (arith, inside)

sorted_none : AreAscending []
unfolding IsStrictlySortedBy
sorted_none = tt

head_in : (x : ObjName) (xs : List ObjName) → Contains (x ∷ xs) x
head_in x xs = (0, omega arith, refl)

all_push : (P : ObjName → Type 0) (xs : List ObjName) (y : ObjName) → AllByRecursion P xs → P y → AllByRecursion P (xs ++ y ∷ [])
all_push P [] y all p = (p, tt)
all_push P (x ∷ xs) y all p = (all.0, all_push P xs y all.1 p)

sorted_push : (xs : List ObjName) (y : ObjName) → AreAscending xs → ((x : ObjName) → Contains xs x → name_cmp x y ≡ Less) → AreAscending (xs ++ y ∷ [])
unfolding IsStrictlySortedBy
sorted_push [] y sorted less = (tt, tt)
sorted_push (x ∷ xs) y sorted less = (all_push (λ z. name_cmp x z ≡ Less) xs y sorted.0 (less x (head_in x xs)), sorted_push xs y sorted.1 (λ z has. less z (Contains-append_right (x ∷ []) xs z has)))

module _ (names : List ObjName) (flags : List Bool) (commits : Bool) where
  pub down_none : (down : List ObjName) → down ≡ [] → AreDown names flags commits 0 down
  down_none down empty = subst (AreDown names flags commits 0) (sym empty) (record {
    each = λ o h. absurd (none_in o h);
    all = λ k o less is of. absurd (omega (arith, less));
    ascending = λ sorted. sorted_none;
  })

  module _ (i : ℕ) (down : List ObjName) (so : AreDown names flags commits i down) where
    order : (k : ℕ) → k < i + 1 → (k < i) ⊎ (k ≡ i)
    order k less = by k i less
      where
        by : (k i : ℕ) → k < i + 1 → (k < i) ⊎ (k ≡ i)
        by k i less = grind (arith, less)

    pub down_same : ((o : ObjName) → IsDown names flags o i → IsOfKind commits o → ⊥) → AreDown names flags commits (i + 1) down
    down_same other = record {
      each = λ o h. let e = so.each o h in (e.0, omega (arith, e.1), e.2, e.3);
      all = λ k o less is of. ⊎_elim (λ l. so.all k o l is of) (λ e. absurd (other o (subst (IsDown names flags o) e is) of)) (order k less);
      ascending = so.ascending;
    }

    pub down_more : (x : ObjName) → IsDown names flags x i → IsOfKind commits x → AreDown names flags commits (i + 1) (down ++ x ∷ [])
    down_more x is_x of_x = record {
      each = λ o h. ⊎_elim
          (λ old. let e = so.each o old in (e.0, omega (arith, e.1), e.2, e.3))
          (λ last. let e = one_in o x last in (i, omega arith, subst (λ (y : ObjName). IsDown names flags y i) (sym e) is_x, subst (IsOfKind commits) (sym e) of_x))
          (Contains-append_cases down (x ∷ []) o h);
      all = λ k o less is of. ⊎_elim
          (λ l. Contains-append_left down (x ∷ []) o (so.all k o l is of))
          (λ e. subst (Contains (down ++ x ∷ [])) (same o (subst (IsDown names flags o) e is)) (Contains-append_right down (x ∷ []) x (0, omega arith, refl)))
          (order k less);
      ascending = λ sorted. sorted_push down x (so.ascending sorted) (λ o h. let e = so.each o h in
          ap (λ a. name_cmp a x) (sym e.2.is) ∙ ap (λ b. name_cmp (get_or names e.0 o) b) (sym (place o)) ∙ Less-from_sorted name_cmp names e.0 i o sorted e.1 is_x.within);
    }
      where
        place : (o : ObjName) → get_or names i o ≡ x
        place o = get_or_default names i o x is_x.within ∙ is_x.is

        same : (o : ObjName) → IsDown names flags o i → x ≡ o
        same o is = sym (place o) ∙ is.is

-- what the test says, by cases
pub wanted_commit : (names : List ObjName) (flags : List Bool) (at : ℕ) (o : ObjName) (commits : Bool) → IsDown names flags o at → o.kind ≡ kind.Commit → IsTrue commits ↔ (IsDown names flags o at × IsOfKind commits o)
wanted_commit names flags at o true is k = ((λ t. (is, k)), (λ b. refl))
wanted_commit names flags at o false is k = ((λ t. let n : false ≡ true = t in cc), (λ b. absurd (b.1 k)))

pub wanted_other : (names : List ObjName) (flags : List Bool) (at : ℕ) (o : ObjName) (commits : Bool) → IsDown names flags o at → (o.kind ≡ kind.Commit → ⊥) → IsTrue (not commits) ↔ (IsDown names flags o at × IsOfKind commits o)
wanted_other names flags at o true is k = ((λ t. let n : false ≡ true = t in cc), (λ b. absurd (k b.1)))
wanted_other names flags at o false is k = ((λ t. (is, k)), (λ b. refl))

-- of each name the flag is up, or it is on the list
pub marked_or_listed : (names : List ObjName) (flags : List Bool) (doomed : List ObjName) → AreUnmarked names flags doomed → (o : ObjName) → Contains names o → IsMarked names flags o ⊎ Contains doomed o
marked_or_listed names flags doomed a o (k, inside, is) = flagged (get_or flags k false) refl
  where
    which : (j : Kind) → o.kind ≡ j → (o.kind ≡ kind.Commit) ⊎ (o.kind ≡ kind.Commit → ⊥)
    which kind.Commit e = inl e
    which kind.DirTree e = inr (λ f. let n : kind.DirTree ≡ kind.Commit = sym e ∙ f in cc)
    which kind.DirMeta e = inr (λ f. let n : kind.DirMeta ≡ kind.Commit = sym e ∙ f in cc)
    which kind.File e = inr (λ f. let n : kind.File ≡ kind.Commit = sym e ∙ f in cc)

    listed : IsDown names flags o k → Contains doomed o
    listed down = subst (λ l. Contains l o) (sym a.both) (⊎_elim
        (λ c. Contains-append_left a.commits a.others o (a.first.all k o inside down c))
        (λ c. Contains-append_right a.commits a.others o (a.rest.all k o inside down c))
        (which o.kind refl))

    flagged : (v : Bool) → get_or flags k false ≡ v → IsMarked names flags o ⊎ Contains doomed o
    flagged true e = inl (k, inside, is, e)
    flagged false e = inr (listed (record { within = inside; is = is; down = e }))

-- exactly the names without a mark are on the list
pub doomed_exact : (names : List ObjName) (flags : List Bool) (doomed : List ObjName) → AreUnmarked names flags doomed → AreAscending names → (o : ObjName) → Contains doomed o ↔ (Contains names o × (IsMarked names flags o → ⊥))
doomed_exact names flags doomed a sorted o = (to, from)
  where
    down : (k : ℕ) → IsDown names flags o k → Contains names o × (IsMarked names flags o → ⊥)
    down k is = (
      (k, is.within, is.is),
      (λ m.
          let e = one_place names o m.0 k sorted m.1 is.within m.2 is.is in
          let n : true ≡ false = sym m.3 ∙ ap (λ i. get_or flags i false) e ∙ is.down in cc),
    )

    to : Contains doomed o → Contains names o × (IsMarked names flags o → ⊥)
    to h = ⊎_elim
        (λ c. let e = a.first.each o c in down e.0 e.2)
        (λ r. let e = a.rest.each o r in down e.0 e.2)
        (Contains-append_cases a.commits a.others o (subst (λ l. Contains l o) a.both h))

    from : Contains names o × (IsMarked names flags o → ⊥) → Contains doomed o
    from b = ⊎_elim (λ marked. absurd (b.1 marked)) (λ listed. listed) (marked_or_listed names flags doomed a o b.0)
