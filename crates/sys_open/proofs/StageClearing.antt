-- What is left where the staging paths are cleared.
use Rattle.std.proofs.Common.{◌≡◌, ◌≢◌, ◌⊎◌, inl, inr, ⊎_elim, ◌<◌, ◌≤◌, ◌+◌, ℕ, sym, ◌∙◌, ap, subst, arith, List, [], length, get_or}
use Rattle.std.proofs.lemmas.List.{get_or_default}
use Rattle.ost_types.specs.Path.{Path, under}
use Rattle.fs_trait.specs.View.{Disk, View}
use Rattle.fs_trait.specs.Seen.{Seen, Vacant, seen, shows}
use Rattle.fs_trait.specs.Change.{Writes}
use Rattle.fs_trait.proofs.Facts.{vacant_absent}
use Rattle.repo_layout.specs.Paths.{stage_path}
use Rattle.layout_rules.specs.Checks.{IsReached, Asks, Staging}
use Rattle.sys_open.specs.Changes.{Clears, ClearsStages}
use Rattle.sys_open.specs.Stages.{stage_order}
use Rattle.sys_open.specs.Walk.{IsSoBelow}
use Rattle.sys_open.proofs.StageLemmas.{is_stage}

pub stage_below_root : (actor : ℕ) → stage_path actor ≢ []
unfolding stage_path
stage_below_root actor e = cc

pub clears_stage : (actor : ℕ) → actor < 16 → (p : Path) (s : Seen) → Clears (stage_path actor) p s → ClearsStages p s
clears_stage actor small p s clears = (actor, small, clears)

-- what can be removed still can
pub stages_still : (v u : View) → Writes ClearsStages v u → ((p : Path) → Asks Staging v.now p) → (actor : ℕ) → actor < 16 → IsSoBelow (IsReached u.now) (stage_path actor)
stages_still v u writes asks actor small q below x there =
    asks q actor small below x (λ none. there (vacant_absent u.now (under q x) (⊎_elim (λ same. same ∙ ap (seen v.now) none) (λ wrote. wrote.2.1) (writes.now (under q x)))))

-- the first so many are clear
abbrev pub ClearFirst : Disk → List ℕ → ℕ → Type 0
ClearFirst d actors i = (k a : ℕ) → k < i → get_or actors k a ≡ a → shows d (stage_path a) ≡ Vacant

pub more_clear : (u w : View) (actors : List ℕ) (i a : ℕ) → i < length actors → a ≡ get_or actors i a → Writes (Clears (stage_path a)) u w → shows w.now (stage_path a) ≡ Vacant → ClearFirst u.now actors i → ClearFirst w.now actors (i + 1)
more_clear u w actors i a less is writes here before k b within is_b = by (order k i within)
  where
    order : (k i : ℕ) → k < i + 1 → (k < i) ⊎ (k ≡ i)
    order k i within = grind (arith, within)

    by : (k < i) ⊎ (k ≡ i) → shows w.now (stage_path b) ≡ Vacant
    by (inl earlier) = ⊎_elim (λ same. same ∙ before k b earlier is_b) (λ wrote. wrote.1) (writes.now (stage_path b))
    by (inr same) = subst (λ x. shows w.now (stage_path x) ≡ Vacant) (is ∙ get_or_default actors i a b less ∙ ap (λ j. get_or actors j b) (sym same) ∙ is_b) here

pub all_clear : (d : Disk) (actors : List ℕ) (i : ℕ) → actors ≡ stage_order → length actors ≤ i → ClearFirst d actors i → (actor : ℕ) → actor < 16 → shows d (stage_path actor) ≡ Vacant
all_clear d actors i are le clear actor small =
    let one = is_stage actor small in
    clear one.0 actor (let n : length actors ≡ 16 = ap length are in omega (arith, n, le, one.1)) (ap (λ l. get_or l one.0 actor) are ∙ one.2)
