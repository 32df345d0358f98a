-- The places that stay, one after the other.
use Rattle.std.proofs.Common.{◌≡◌, ◌+◌, ◌<◌, ◌&&◌, ◌||◌, not, ℕ, zero, suc, Bool, true, false, cond, List, [], ◌∷◌, ◌++◌, length, take, get_or, filter, Option, Some, refl, sym, ◌∙◌, ap, arith}
use Rattle.std.specs.List.{list_any, range_with_len, slice_get}
use Rattle.std.proofs.lemmas.List.Elements.{filter-append}
use Rattle.std.proofs.lemmas.Option.{slice_get-get_or}
use Rattle.std.proofs.lemmas.List.Folds.{list_any_more}
use Rattle.boot_model.specs.declared.item.DepId.{DepId}
use Rattle.deploy_list.specs.declared.dep.Dep.{Dep}
use Rattle.deploy_list.specs.Lists.{is_of, is_used, places_kept, stays_at, stays_if}

range_more : (a n : ℕ) → range_with_len a (suc n) ≡ range_with_len a n ++ (a + n) ∷ []
range_more a zero = let e : a ≡ a + 0 = omega arith in ap (λ b. b ∷ []) e
range_more a (suc n) =
    let same : a + 1 + n ≡ a + suc n = omega arith in
    ap (λ r. a ∷ r) (range_more (a + 1) n ∙ ap (λ b. range_with_len (a + 1) n ++ b ∷ []) same)

-- the places below this one are told, and whether one of the stateroot stands there
pub record Told (list : List Dep) (os : List ℕ) (used : List DepId) (n : ℕ) (places : List ℕ) (source : Bool) : Type 0 where
  pub places_are : places ≡ filter (stays_at list os used) (range_with_len 0 n)
  pub source_is : source ≡ list_any (is_of os) (take n list)

filter_more : (p : ℕ → Bool) (n : ℕ) → filter p (range_with_len 0 (n + 1)) ≡ filter p (range_with_len 0 n) ++ cond (p n) (n ∷ []) []
filter_more p n =
    let one : n + 1 ≡ suc n = omega arith in
    let here : 0 + n ≡ n = omega arith in
    ap (λ k. filter p (range_with_len 0 k)) one ∙ ap (filter p) (range_more 0 n ∙ ap (λ k. range_with_len 0 n ++ k ∷ []) here) ∙ filter-append p (range_with_len 0 n) (n ∷ [])

pub told_none : (list : List Dep) (os : List ℕ) (used : List DepId) (places : List ℕ) (source : Bool) → places ≡ [] → source ≡ false → Told list os used 0 places source
told_none list os used places source none is = record { places_are = none; source_is = is }

module _ (list : List Dep) (os : List ℕ) (used : List DepId) (n : ℕ) (d : Dep) (less : n < length list) where
  abbrev dep : Dep
  dep = get_or list n d

  stays_here : (used_here source : Bool) → used_here ≡ is_used used dep.id → source ≡ list_any (is_of os) (take n list) → stays_at list os used n ≡ (not (is_of os dep) || used_here || not source)
  stays_here used_here source u s =
      ap (stays_if list os used n) (slice_get-get_or list n d less) ∙ ap (λ x. not (is_of os dep) || x || not (list_any (is_of os) (take n list))) (sym u) ∙ ap (λ x. not (is_of os dep) || used_here || not x) (sym s)

  source_here : (source : Bool) → source ≡ list_any (is_of os) (take n list) → (source || is_of os dep) ≡ list_any (is_of os) (take (n + 1) list)
  source_here source s = ap (λ x. x || is_of os dep) s ∙ sym (list_any_more (is_of os) list n d less)

  -- the place is told where it stays
  pub told_more : (places more : List ℕ) (source new of_here used_here stays_here : Bool) → of_here ≡ is_of os dep → used_here ≡ is_used used dep.id → stays_here ≡ (not of_here || used_here || not source) → new ≡ (source || of_here)
      → more ≡ places ++ cond stays_here (n ∷ []) [] → Told list os used n places source → Told list os used (n + 1) more new
  told_more places more source new of_here used_here stays i u s is m t =
      let same : stays ≡ stays_at list os used n = s ∙ ap (λ x. not x || used_here || not source) i ∙ sym (stays_here used_here source u t.source_is) in record {
        places_are = m ∙ ap (λ x. places ++ cond x (n ∷ []) []) same ∙ ap (λ p. p ++ cond (stays_at list os used n) (n ∷ []) []) t.places_are ∙ sym (filter_more (stays_at list os used) n);
        source_is = is ∙ ap (λ x. source || x) i ∙ source_here source t.source_is;
      }

pub told_all : (list : List Dep) (os : List ℕ) (used : List DepId) (n : ℕ) (places : List ℕ) (source : Bool) → Told list os used n places source → n ≡ length list → places ≡ places_kept list os used
told_all list os used n places source t is = t.places_are ∙ ap (λ k. filter (stays_at list os used) (range_with_len 0 k)) is
