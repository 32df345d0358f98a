-- The names that have more than one value, and what each takes.
use Rattle.std.proofs.Common.{◌≡◌, ◌≢◌, ◌⊎◌, inl, inr, ⊎_elim, ℕ, zero, suc, ◌+◌, ◌<◌, Bool, true, false, cond, if◌then◌else◌, List, [], ◌∷◌, ◌++◌, length, take, get_or, filter, Contains, refl, sym, ◌∙◌, ap, subst, arith, length-append}
use Rattle.std.specs.Bool.{Decides}
use Rattle.std.specs.Ordering.{ordering_reverse}
use Rattle.std.specs.declared.cmp.Ordering.TheVariants.{Less, Greater}
use Rattle.std.specs.List.Sorted.{IsStrictlySortedBy}
use Rattle.std.proofs.Math.Nat.{mod-lt}
use Rattle.std.proofs.lemmas.Cmp.{nat_list_cmp_total, lists_total}
use Rattle.std.proofs.lemmas.Map.Views.{All-after_first}
use Rattle.std.proofs.lemmas.Map.Keys.{sorted_tail}
use Rattle.ost_types.specs.Path.{Path, path_cmp, same_path}
use Rattle.ost_types.proofs.Paths.{same_path-Decides}
use Rattle.fs_trait.specs.declared.types.Value.{Value}
use Rattle.fs_trait.specs.declared.types.Value.TheVariants.{Absent}
use Rattle.fs_trait.specs.View.{View}
use Rattle.fs_trait.specs.Image.{Holds, Among}
use Rattle.memory_record.specs.Crash.{has_more, place, chosen, picked}

-- whether a name has more than one value
abbrev pub many : View → Path → Bool
many v p = has_more (v.older p)

pub more_some : (xs : List Value) → has_more xs ≡ true → xs ≢ []
more_some [] e = let n : false ≡ true = e in cc
more_some (x ∷ xs) e = λ is. cc

pub some_more : (xs : List Value) → xs ≢ [] → has_more xs ≡ true
some_more [] e = absurd (e refl)
some_more (x ∷ xs) e = refl

pub none_more : (xs : List Value) → xs ≡ [] → has_more xs ≡ false
none_more [] e = refl
none_more (x ∷ xs) e = let n : x ∷ xs ≡ [] = e in cc

pub Contains-first : {X : Type 0} (x : X) (xs : List X) → Contains (x ∷ xs) x
Contains-first x xs = (zero, omega arith, refl)

pub Contains-later : {X : Type 0} (x : X) (xs : List X) (y : X) → Contains xs y → Contains (x ∷ xs) y
Contains-later x xs y has = (suc has.0, let h = has.1 in omega (arith, h), has.2)

-- one of the values
one_of : (xs : List Value) (y : Value) (k : ℕ) → k < length (xs ++ y ∷ []) → (get_or (xs ++ y ∷ []) k Absent ≡ y) ⊎ Among xs (get_or (xs ++ y ∷ []) k Absent)
one_of [] y zero h = inl refl
one_of [] y (suc k) h = absurd (omega arith)
one_of (x ∷ xs) y zero h = inr (inl refl)
one_of (x ∷ xs) y (suc k) h = ⊎_elim (λ is. inl is) (λ among. inr (inr among)) (one_of xs y k (omega arith))

pub place-below : (ks : List ℕ) (i n : ℕ) → 0 < n → place ks i n < n
place-below [] i n some = omega (arith, some)
place-below (k ∷ ks) i n some = mod-lt _ some

module _ (ks : List ℕ) (v : View) where
  pub chosen-holds : (i : ℕ) (p : Path) → Holds v p (chosen ks v i p)
  chosen-holds i p =
      let l = length-append (v.older p) (v.now.at p ∷ []) in
      one_of (v.older p) (v.now.at p) _ (place-below ks i _ (omega (arith, l)))

  pub picked-holds : (i : ℕ) (qs : List Path) (p : Path) → Holds v p (picked ks v i qs p)
  unfolding picked
  picked-holds i [] p = inl refl
  picked-holds i (q ∷ qs) p = go (same_path q p) (same_path-Decides q p) (picked-holds (i + 1) qs p)
    where
      go : (b : Bool) → Decides b (q ≡ p) → Holds v p (picked ks v (i + 1) qs p) → Holds v p (if b then chosen ks v i q else picked ks v (i + 1) qs p)
      go true d later = subst (λ r. Holds v p (chosen ks v i r)) (sym (d.0 refl)) (chosen-holds i p)
      go false d later = later

  -- a name of one value keeps it
  pub picked-out : (i : ℕ) (ps : List Path) (p : Path) → many v p ≡ false → picked ks v i (filter (many v) ps) p ≡ v.now.at p
  unfolding picked
  picked-out i [] p one = refl
  picked-out i (q ∷ qs) p one = go (many v q) refl (λ j. picked-out j qs p one)
    where
      other : (b : Bool) → many v q ≡ true → Decides b (q ≡ p) → picked ks v (i + 1) (filter (many v) qs) p ≡ v.now.at p → (if b then chosen ks v i q else picked ks v (i + 1) (filter (many v) qs) p) ≡ v.now.at p
      other true more d later = let n : true ≡ false = sym more ∙ ap (many v) (d.0 refl) ∙ one in cc
      other false more d later = later

      go : (b : Bool) → many v q ≡ b → ((j : ℕ) → picked ks v j (filter (many v) qs) p ≡ v.now.at p) → picked ks v i (cond b (q ∷ filter (many v) qs) (filter (many v) qs)) p ≡ v.now.at p
      go true more later = other (same_path q p) more (same_path-Decides q p) (later (i + 1))
      go false more later = later i

  -- a path that isn't listed keeps its value
  pub picked-apart : (i : ℕ) (qs : List Path) (p : Path) → (Contains qs p → ⊥) → picked ks v i qs p ≡ v.now.at p
  unfolding picked
  picked-apart i [] p none = refl
  picked-apart i (q ∷ qs) p none = go (same_path q p) (same_path-Decides q p) (picked-apart (i + 1) qs p (λ has. none (Contains-later q qs p has)))
    where
      go : (b : Bool) → Decides b (q ≡ p) → picked ks v (i + 1) qs p ≡ v.now.at p → (if b then chosen ks v i q else picked ks v (i + 1) qs p) ≡ v.now.at p
      go true d later = absurd (none (subst (Contains (q ∷ qs)) (d.0 refl) (Contains-first q qs)))
      go false d later = later

  -- the name at the j-th of the paths takes the value that its number among the names gives it
  pub picked-at : (i j : ℕ) (ps : List Path) (d : Path) → IsStrictlySortedBy path_cmp ps → j < length ps → many v (get_or ps j d) ≡ true
      → picked ks v i (filter (many v) ps) (get_or ps j d) ≡ chosen ks v (i + length (filter (many v) (take j ps))) (get_or ps j d)
  unfolding picked
  picked-at i j [] d sorted less more = absurd (omega (arith, less))
  picked-at i zero (q ∷ qs) d sorted less more = go (many v q) more
    where
      same : (b : Bool) → b ≡ true → (if b then chosen ks v i q else picked ks v (i + 1) (filter (many v) qs) q) ≡ chosen ks v i q
      same true e = refl
      same false e = let n : false ≡ true = e in cc

      go : (b : Bool) → b ≡ true → picked ks v i (cond b (q ∷ filter (many v) qs) (filter (many v) qs)) q ≡ chosen ks v (i + 0) q
      go true e = same (same_path q q) ((same_path-Decides q q).1 refl) ∙ ap (λ k. chosen ks v k q) (let z : i ≡ i + 0 = omega arith in z)
      go false e = let n : false ≡ true = e in cc
  picked-at i (suc j) (q ∷ qs) d sorted less more =
      go (many v q) (λ k. picked-at k j qs d (sorted_tail path_cmp q qs sorted) (omega (arith, less)) more)
    where
      p : Path
      p = get_or qs j d

      apart : q ≢ p
      apart e = let l : path_cmp q p ≡ Less = All-after_first path_cmp q qs sorted j d (omega (arith, less)) in not_less q (subst (λ r. path_cmp q r ≡ Less) (sym e) l)
        where
          not_less : (r : Path) → path_cmp r r ≡ Less → ⊥
          not_less r l = let a = (lists_total nat_list_cmp_total).antisymm r r in let n : Less ≡ Greater = sym l ∙ a ∙ ap ordering_reverse l in cc

      other : (b : Bool) → Decides b (q ≡ p) → (if b then chosen ks v i q else picked ks v (i + 1) (filter (many v) qs) p) ≡ picked ks v (i + 1) (filter (many v) qs) p
      other true d' = absurd (apart (d'.0 refl))
      other false d' = refl

      go : (b : Bool) → ((k : ℕ) → picked ks v k (filter (many v) qs) p ≡ chosen ks v (k + length (filter (many v) (take j qs))) p) → picked ks v i (cond b (q ∷ filter (many v) qs) (filter (many v) qs)) p ≡ chosen ks v (i + length (cond b (q ∷ filter (many v) (take j qs)) (filter (many v) (take j qs)))) p
      go true later = other (same_path q p) (same_path-Decides q p) ∙ later (i + 1) ∙ ap (λ k. chosen ks v k p) (let e : i + 1 + length (filter (many v) (take j qs)) ≡ i + suc (length (filter (many v) (take j qs))) = omega arith in e)
      go false later = later i

  -- the only value is taken
  pub chosen-one : (i : ℕ) (p : Path) → v.older p ≡ [] → chosen ks v i p ≡ v.now.at p
  chosen-one i p one = ap (λ xs. get_or (xs ++ v.now.at p ∷ []) (place ks i (length (xs ++ v.now.at p ∷ []))) Absent) one ∙ ap (λ k. get_or (v.now.at p ∷ []) k Absent) (let b = place-below ks i 1 (omega arith) in let z : place ks i 1 ≡ 0 = omega (arith, b) in z)

  -- either way a path takes what is chosen for it
  pub picked-chosen : (j : ℕ) (ps : List Path) (d : Path) → IsStrictlySortedBy path_cmp ps → j < length ps → picked ks v 0 (filter (many v) ps) (get_or ps j d) ≡ chosen ks v (length (filter (many v) (take j ps))) (get_or ps j d)
  picked-chosen j ps d sorted less = go (v.older (get_or ps j d)) refl
    where
      go : (xs : List Value) → v.older (get_or ps j d) ≡ xs → picked ks v 0 (filter (many v) ps) (get_or ps j d) ≡ chosen ks v (length (filter (many v) (take j ps))) (get_or ps j d)
      go [] is = picked-out 0 ps (get_or ps j d) (none_more _ is) ∙ sym (chosen-one _ (get_or ps j d) is)
      go (x ∷ xs) is = picked-at 0 j ps d sorted less (ap has_more is) ∙ ap (λ k. chosen ks v k (get_or ps j d)) (let z : 0 + length (filter (many v) (take j ps)) ≡ length (filter (many v) (take j ps)) = omega arith in z)
