-- One flag is put up.
use Rattle.std.proofs.Common.{◌≡◌, ◌≢◌, ◌⊎◌, inl, inr, ⊎_elim, ℕ, zero, suc, ◌<◌, ◌≤◌, ◌+◌, Bool, true, false, List, [], ◌∷◌, length, get_or, sym, ◌∙◌, ap, subst, arith}
use Rattle.std.specs.Prelude.{slice_set}
use Rattle.std.proofs.lemmas.List.{get_or_default, get_or-set_other, get_or-set_same, length-set}
use Rattle.ost_types.specs.declared.object.ObjName.{ObjName}
use Rattle.prune_mark.specs.Flags.{IsDown, IsMarked, count_down}

side : (i at : ℕ) → (i < at) ⊎ (at ≤ i)
side i at = grind arith

pub apart : (i at : ℕ) → (i ≡ at) ⊎ (i ≢ at)
apart i at = elim (side i at) [
  | inl below ↦ inr (λ e. omega (arith, below, e))
  | inr above ↦ elim (side at i) [
    | inl less ↦ inr (λ e. omega (arith, less, e))
    | inr same ↦ inl (omega (arith, above, same))
  ]
]

pub count_set : (flags : List Bool) (at : ℕ) → at < length flags → get_or flags at false ≡ false → count_down (slice_set flags at true) + 1 ≡ count_down flags
count_set [] at less down = absurd (omega (arith, less))
count_set (true ∷ flags) zero less down = let n : true ≡ false = down in cc
count_set (false ∷ flags) zero less down = omega arith
count_set (true ∷ flags) (suc at) less down = count_set flags at (omega (arith, less)) down
count_set (false ∷ flags) (suc at) less down = let r = count_set flags at (omega (arith, less)) down in omega (arith, r)

module _ (names : List ObjName) (flags : List Bool) (o : ObjName) (at : ℕ) (long : length flags ≡ length names) (was : IsDown names flags o at) where
  in_flags : at < length flags
  in_flags = omega (arith, long, was.within)

  pub set_long : length (slice_set flags at true) ≡ length flags
  set_long = length-set flags at true

  pub set_stays : (x : ObjName) → IsMarked names flags x → IsMarked names (slice_set flags at true) x
  set_stays x m = (
    m.0,
    m.1,
    m.2,
    ⊎_elim
        (λ e. subst (λ i. get_or (slice_set flags at true) i false ≡ true) (sym e) (get_or-set_same flags at true false in_flags))
        (λ n. get_or-set_other flags at m.0 true false n ∙ m.3)
        (apart m.0 at),
  )

  pub set_new : (x : ObjName) → IsMarked names (slice_set flags at true) x → IsMarked names flags x ⊎ (x ≡ o)
  set_new x m = ⊎_elim
      (λ e. inr (sym m.2 ∙ ap (λ i. get_or names i x) e ∙ get_or_default names at x o was.within ∙ was.is))
      (λ n. inl (m.0, m.1, m.2, sym (get_or-set_other flags at m.0 true false n) ∙ m.3))
      (apart m.0 at)

  pub set_up : IsMarked names (slice_set flags at true) o
  set_up = (at, was.within, was.is, get_or-set_same flags at true false in_flags)

  pub set_fewer : count_down (slice_set flags at true) + 1 ≡ count_down flags
  set_fewer = count_set flags at in_flags was.down
