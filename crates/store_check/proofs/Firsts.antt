-- The first object by path of which something isn't so, from the first in the order of names.
use Rattle.std.proofs.Common.{◌≡◌, ◌⊎◌, inl, inr, ℕ, ◌+◌, ◌<◌, ◌≤◌, List, length, get_or, sym, ◌∙◌, ap, subst, arith}
use Rattle.std.proofs.lemmas.List.{get_or_default}
use Rattle.std.proofs.lemmas.Map.Keys.{Less-from_sorted}
use Rattle.std.specs.declared.cmp.Ordering.TheVariants.{Less}
use Rattle.ost_types.specs.Path.{path_cmp}
use Rattle.ost_types.specs.declared.object.Kind.TheVariants.{DirTree, DirMeta}
use Rattle.ost_types.specs.declared.object.ObjName.{ObjName}
use Rattle.fs_trait.specs.View.{Disk}
use Rattle.repo_model.specs.Objects.{path_of}
use Rattle.obj_store.specs.Listing.{name_cmp}
use Rattle.store_check.specs.Listing.{IsThere, AreAll}
use Rattle.store_check.proofs.Orders.{before_cases, not_both, not_less_itself}

-- it is so of the first so many of a list
abbrev pub SoFar : {X : Type 0} → (X → Type 0) → List X → ℕ → Type 0
SoFar {X} So xs i = (k : ℕ) (x : X) → k < i → get_or xs k x ≡ x → So x

module _ {X : Type 0} (So : X → Type 0) (xs : List X) (i : ℕ) where
  pub one_more : (x : X) → i < length xs → x ≡ get_or xs i x → So x → SoFar So xs i → (j : ℕ) → j ≡ i + 1 → SoFar So xs j
  one_more x inside is here before j next k y less at = by (order k i (omega (arith, less, next)))
    where
      order : (k i : ℕ) → k < i + 1 → (k < i) ⊎ (k ≡ i)
      order k i less = grind (arith, less)

      by : (k < i) ⊎ (k ≡ i) → So y
      by (inl earlier) = before k y earlier at
      by (inr same) = subst So (is ∙ get_or_default xs i x y inside ∙ ap (λ n. get_or xs n y) (sym same) ∙ at) here

  pub so_all : length xs ≤ i → SoFar So xs i → (x : X) → (k : ℕ) × (k < length xs) × (get_or xs k x ≡ x) → So x
  so_all whole before x (k, less, at) = before k x (omega (arith, whole, less)) at

pub none_so_far : {X : Type 0} (So : X → Type 0) (xs : List X) → SoFar So xs 0
none_so_far So xs k x less at = absurd (omega (arith, less))

module _ (d : Disk) (names : List ObjName) (are : AreAll d names) (So : ObjName → Type 0) (i : ℕ) (x : ObjName) (inside : i < length names) (is : x ≡ get_or names i x) (before : SoFar So names i) where
  -- what comes before by path comes before by name, but for attributes beside entries of the same sum
  pub so_before : (o : ObjName) → IsThere d o → path_cmp (path_of o) (path_of x) ≡ Less → (o.csum ≡ x.csum → o.kind ≡ DirMeta → x.kind ≡ DirTree → So o) → So o
  so_before o there less beside = at (are.all o there)
    where
      order : (k i : ℕ) → (k < i) ⊎ (k ≡ i) ⊎ (i < k)
      order k i = grind arith

      x_there : IsThere d x
      x_there = are.here x (i, inside, sym is)

      same : (k : ℕ) → k < length names → get_or names k o ≡ o → k ≡ i → o ≡ x
      same k within here e = sym here ∙ ap (λ n. get_or names n o) e ∙ sym (get_or_default names i x o inside) ∙ sym is

      later : (k : ℕ) → k < length names → get_or names k o ≡ o → i < k → (name_cmp o x ≡ Less) ⊎ ((o.csum ≡ x.csum) × (o.kind ≡ DirMeta) × (x.kind ≡ DirTree)) → So o
      later k within here after (inl name) =
          let ahead : name_cmp (get_or names i o) (get_or names k o) ≡ Less = Less-from_sorted name_cmp names i k o are.ascending after within in
          let first : name_cmp x o ≡ Less = subst (λ y. name_cmp x y ≡ Less) here (subst (λ y. name_cmp y (get_or names k o) ≡ Less) (sym (get_or_default names i x o inside) ∙ sym is) ahead) in
          absurd (not_both o x name first)
      later k within here after (inr b) = beside b.0 b.1 b.2

      by : (k : ℕ) → k < length names → get_or names k o ≡ o → (k < i) ⊎ (k ≡ i) ⊎ (i < k) → So o
      by k within here (inl earlier) = before k o earlier here
      by k within here (inr (inl e)) = absurd (not_less_itself (path_of x) (subst (λ y. path_cmp (path_of y) (path_of x) ≡ Less) (same k within here e) less))
      by k within here (inr (inr after)) = later k within here after (before_cases o x there.sum x_there.sum less)

      at : (k : ℕ) × (k < length names) × (get_or names k o ≡ o) → So o
      at (k, within, here) = by k within here (order k i)
