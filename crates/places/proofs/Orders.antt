-- Places compare as their paths do.
use Rattle.std.proofs.Common.{◌≡◌, ℕ, Bool, true, false, nat_eq, List, refl, sym, ◌∙◌, ap}
use Rattle.std.specs.Bool.{Decides}
use Rattle.std.specs.Cmp.Lexicographic.{pointwise, slice_cmp}
use Rattle.std.specs.Ordering.{nat_cmp}
use Rattle.ost_types.specs.Path.{path_cmp, same_path}
use Rattle.ost_types.specs.Flat.{flat, names_of}
use Rattle.ost_types.proofs.Paths.{same_name-Decides, same_path-Decides}
use Rattle.ost_types.proofs.Flats.{flat-cmp}
use Rattle.places.specs.Text.{IsFlat}

same_test : {P Q : Type 0} (a b : Bool) → Decides a P → Decides b Q → (P → Q) → (Q → P) → a ≡ b
same_test true true d e to back = refl
same_test false false d e to back = refl
same_test true false d e to back = let n : false ≡ true = e.1 (to (d.0 refl)) in cc
same_test false true d e to back = let n : false ≡ true = d.1 (back (e.0 refl)) in cc

module _ (t s : List ℕ) (first : IsFlat t) (second : IsFlat s) where
  pub places_eq : pointwise nat_eq t s ≡ pointwise (pointwise nat_eq) (names_of t) (names_of s)
  unfolding same_path
  places_eq = same_test _ _ (same_name-Decides t s) (same_path-Decides (names_of t) (names_of s)) (ap names_of) (λ e. first.whole ∙ ap flat e ∙ sym second.whole)

  pub places_cmp : slice_cmp nat_cmp t s ≡ path_cmp (names_of t) (names_of s)
  places_cmp = ap (λ r. slice_cmp nat_cmp r s) first.whole ∙ ap (λ r. slice_cmp nat_cmp (flat (names_of t)) r) second.whole ∙ flat-cmp (names_of t) (names_of s) first.names second.names
