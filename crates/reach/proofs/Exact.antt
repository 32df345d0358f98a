-- What removals leave, and that it is exactly what was reachable.
use Rattle.std.proofs.Common.{◌≡◌, ◌⊎◌, inl, inr, ⊎_elim, ℕ, List, sym, subst}
use Rattle.ost_types.specs.declared.object.ObjName.{ObjName}
use Rattle.repo_model.specs.Objects.{Store}
use Rattle.reach.specs.Reach.{ObjNames, IsIn}
use Rattle.reach.specs.Lines.{Reachable}
use Rattle.reach.specs.Removed.{IsPruned, IsSplit}
use Rattle.reach.proofs.Lining.{reachable_before, reachable_kept}

-- One more is removed.
pub split_step : (before old new : Store) (removed removed' : ObjNames) (u : ObjName) → IsSplit before old removed → IsIn old u
    → ((o : ObjName) → removed o → removed' o) → removed' u → ((o : ObjName) → removed' o → removed o ⊎ (o ≡ u))
    → ((o : ObjName) (b : List ℕ) → new o b → old o b) → ((o : ObjName) (b : List ℕ) → old o b → new o b ⊎ (o ≡ u)) → (IsIn new u → ⊥) → IsSplit before new removed'
split_step before old new removed removed' u s is_in first last most fewer either gone = record {
  stays = λ o b has. s.stays o b (fewer o b has);
  either = λ o b has. ⊎_elim
      (λ was. ⊎_elim (λ now. inl now) (λ e. inr (subst removed' (sym e) last)) (either o b was))
      (λ r. inr (first o r))
      (s.either o b has);
  was = λ o r. ⊎_elim (s.was o) (λ e. subst (IsIn before) (sym e) (is_in.0, s.stays u is_in.0 is_in.1)) (most o r);
  apart = λ o r has. ⊎_elim (λ was. s.apart o was (has.0, fewer o has.0 has.1)) (λ e. gone (subst (IsIn new) e has)) (most o r);
}

module _ (before now : Store) (roots : ObjNames) (depth : ℕ) (removed : ObjNames) (p : IsPruned before now roots depth removed) where
  kept : (o : ObjName) (b : List ℕ) → Reachable before roots depth o → before o b → now o b
  kept o b reached has = ⊎_elim (λ n. n) (λ r. absurd (p.only o r reached)) (p.split.either o b has)

  pub same_up : (o : ObjName) → Reachable before roots depth o → Reachable now roots depth o
  same_up = reachable_kept before now roots depth p.split.stays kept

  pub same_down : (o : ObjName) → Reachable now roots depth o → Reachable before roots depth o
  same_down = reachable_before before now roots depth p.split.stays kept

  left_was : (o : ObjName) → IsIn now o → IsIn before o
  left_was o has = (has.0, p.split.stays o has.0 has.1)

  -- What is left was reachable, and is from what is left.
  pub left_reachable : (o : ObjName) → IsIn now o → Reachable before roots depth o
  left_reachable o has = ⊎_elim (λ reached. reached) (λ r. absurd (p.split.apart o r has)) (p.all o (left_was o has))

  pub exact : (o : ObjName) → IsIn now o → Reachable now roots depth o
  exact o has = same_up o (left_reachable o has)

  -- What was reachable is left.
  pub reachable_left : (o : ObjName) (b : List ℕ) → before o b → Reachable before roots depth o → now o b
  reachable_left o b has reached = kept o b reached has

  pub none_removed : (o : ObjName) → removed o → Reachable now roots depth o → ⊥
  none_removed o r reached = p.only o r (same_down o reached)
