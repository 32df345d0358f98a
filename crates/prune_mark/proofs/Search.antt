-- Names in order, and what a search among them finds.
use Rattle.std.proofs.Common.{◌≡◌, ◌⊎◌, inl, inr, ℕ, ◌<◌, ◌≤◌, List, get_or, length, refl, sym, ◌∙◌, ap, subst, arith, Err}
use Rattle.std.specs.Prelude.{Contains, HoldsAt}
use Rattle.std.specs.List.Sorted.{IsNonDecreasingBy, IsBinarySearchResult}
use Rattle.std.specs.Cmp.{tied_itself}
use Rattle.std.specs.Ordering.{ordering_index}
use Rattle.std.specs.declared.cmp.Ordering.{Ordering}
use Rattle.std.specs.declared.cmp.Ordering.TheVariants.{Less, Equal, Greater}
use Rattle.std.proofs.lemmas.Map.Keys.{Less-from_sorted}
use Rattle.ost_types.specs.declared.object.ObjName.{ObjName}
use Rattle.ost_types.specs.contracts.object.ObjNameOrd.TheImpl as ord
use Rattle.obj_store.specs.Listing.{name_cmp}
use Rattle.obj_store.proofs.NameOrder.{equal_names, name_order, same_cmp}
use Rattle.prune_mark.specs.Flags.{AreAscending}

rise : (a b p : ObjName) → name_cmp a b ≡ Less → ordering_index (name_cmp a p) ≤ ordering_index (name_cmp b p)
rise a b p less = go (name_cmp b p) refl
  where
    top : (o : Ordering) → ordering_index o ≤ 2
    top Less = omega arith
    top Equal = omega arith
    top Greater = omega arith

    go : (o : Ordering) → name_cmp b p ≡ o → ordering_index (name_cmp a p) ≤ ordering_index o
    go Less e = let l : name_cmp a p ≡ Less = name_order.trans a b p less e in omega (arith, ap ordering_index l)
    go Equal e = let l : name_cmp a p ≡ Less = ap (λ q. name_cmp a q) (sym (equal_names b p e)) ∙ less in omega (arith, ap ordering_index l)
    go Greater e = top (name_cmp a p)

names_rise : (names : List ObjName) (x : ObjName) → AreAscending names → IsNonDecreasingBy (λ y. ordering_index (name_cmp y x)) names
names_rise names x sorted i j d le inside = elim (apart i j le) [
  | inl less ↦ rise (get_or names i d) (get_or names j d) x (Less-from_sorted name_cmp names i j d sorted less inside)
  | inr same ↦ let e : ordering_index (name_cmp (get_or names i d) x) ≡ ordering_index (name_cmp (get_or names j d) x) = ap (λ k. ordering_index (name_cmp (get_or names k d) x)) same in omega (arith, e)
]
  where
    apart : (i j : ℕ) → i ≤ j → (i < j) ⊎ (i ≡ j)
    apart i j le = grind arith

-- what was found is the name
pub found_there : (names : List ObjName) (x : ObjName) (at : ℕ) → HoldsAt (λ y. (ord.cmp-value).it y x ≡ Equal) names at → get_or names at x ≡ x
found_there names x at holds = equal_names _ _ (subst (λ (r : ObjName → ObjName → Ordering). r (get_or names at x) x ≡ Equal) same_cmp (holds x))

-- and what wasn't is none of them
pub found_nowhere : (names : List ObjName) (x : ObjName) (at : ℕ) → AreAscending names → IsBinarySearchResult (λ y. (ord.cmp-value).it y x) names (Err at) → Contains names x → ⊥
found_nowhere names x at sorted searched has =
    let parted = subst (λ (r : ObjName → ObjName → Ordering). IsBinarySearchResult (λ y. r y x) names (Err at)) same_cmp searched in
    let parts = parted (names_rise names x sorted) in
    let equal : name_cmp (get_or names has.0 x) x ≡ Equal = ap (λ y. name_cmp y x) has.2 ∙ tied_itself name_order x in
    elim (side has.0 at) [
      | inl below ↦ let l = parts.0 has.0 x (omega arith) below in let n : Less ≡ Equal = sym l ∙ equal in cc
      | inr above ↦ let g = parts.1 has.0 x above has.1 in let n : Greater ≡ Equal = sym g ∙ equal in cc
    ]
  where
    side : (i at : ℕ) → (i < at) ⊎ (at ≤ i)
    side i at = grind arith

-- no two places have one name
pub one_place : (names : List ObjName) (o : ObjName) (i j : ℕ) → AreAscending names → i < length names → j < length names → get_or names i o ≡ o → get_or names j o ≡ o → i ≡ j
one_place names o i j sorted within inside first second = elim (side i j) [
  | inl less ↦ absurd (never i j less inside first second)
  | inr le ↦ elim (side j i) [
    | inl less ↦ absurd (never j i less within second first)
    | inr ge ↦ omega (arith, le, ge)
  ]
]
  where
    side : (i j : ℕ) → (i < j) ⊎ (j ≤ i)
    side i j = grind arith

    never : (i j : ℕ) → i < j → j < length names → get_or names i o ≡ o → get_or names j o ≡ o → ⊥
    never i j less inside a b =
        let l = Less-from_sorted name_cmp names i j o sorted less inside in
        let m : name_cmp o o ≡ Less = ap (λ x. name_cmp x o) (sym a) ∙ ap (λ x. name_cmp (get_or names i o) x) (sym b) ∙ l in
        let n : Less ≡ Equal = sym m ∙ tied_itself name_order o in cc
