-- How many commits come first in a list, as far as it was looked at.
use Rattle.std.proofs.Common.{◌≡◌, ◌⊎◌, ⊎_elim, ℕ, ◌<◌, ◌≤◌, ◌+◌, List, length, get_or, ◌∙◌, ap, arith}
use Rattle.std.proofs.lemmas.List.{get_or_default}
use Rattle.ost_types.specs.declared.object.Kind.TheVariants as kind
use Rattle.ost_types.specs.declared.object.ObjName.{ObjName}

pub record AreFirst (names : List ObjName) (count : ℕ) : Type 0 where
  pub within : count ≤ length names
  pub commits : (i : ℕ) (o : ObjName) → i < count → (get_or names i o).kind ≡ kind.Commit

pub first_none : (names : List ObjName) → AreFirst names 0
first_none names = record { within = omega arith; commits = λ i o less. absurd (omega (arith, less)) }

pub first_more : (names : List ObjName) (count : ℕ) (x : ObjName) → count < length names → get_or names count x ≡ x → x.kind ≡ kind.Commit → AreFirst names count → AreFirst names (count + 1)
first_more names count x less at is first = record {
  within = omega (arith, less);
  commits = λ i o lt. ⊎_elim
      (λ l. first.commits i o l)
      (λ e. ap (λ k. (get_or names k o).kind) e ∙ ap (λ (y : ObjName). y.kind) (get_or_default names count o x less ∙ at) ∙ is)
      (split i lt);
}
  where
    split : (i : ℕ) → i < count + 1 → (i < count) ⊎ (i ≡ count)
    split i lt = grind (arith, lt)
