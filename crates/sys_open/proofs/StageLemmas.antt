-- The staging paths in their order.
use Rattle.std.proofs.Common.{◌≡◌, ◌⊎◌, inl, inr, ◌<◌, ◌≤◌, ◌+◌, ◌++◌, ℕ, zero, suc, true, refl, sym, ◌∙◌, ap, subst, arith, List, [], length, map, get_or, Err}
use Rattle.std.specs.Prelude.{codes}
use Rattle.std.specs.Fmt.{decimal, digits}
use Rattle.std.specs.List.Sorted.{IsStrictlySortedBy}
use Rattle.std.specs.Cmp.Lexicographic.{slice_cmp}
use Rattle.std.specs.Ordering.{nat_cmp}
use Rattle.std.specs.declared.cmp.Ordering.TheVariants.{Less}
use Rattle.std.proofs.lemmas.List.{get_or-map, get_or_default}
use Rattle.std.proofs.lemmas.Map.Keys.{Less-from_sorted}
use Rattle.ost_types.specs.Path.{Name, Path, is_below, path_cmp, under}
use Rattle.fs_trait.specs.View.{Disk}
use Rattle.repo_layout.specs.declared.folder.Folder.TheVariants.{Tmp}
use Rattle.repo_layout.specs.Paths.{folder_path, stage_path}
use Rattle.layout_rules.proofs.Layouts.{below_split}
use Rattle.sys_open.specs.declared.fault.OpenFault.{OpenFault}
use Rattle.sys_open.specs.declared.fault.OpenFault.TheVariants as fault
use Rattle.sys_open.specs.declared.fault.Why.TheVariants.{WrongKind}
use Rattle.layout_rules.specs.Checks.{Asks, IsReached, Staging}
use Rattle.sys_open.specs.Stages.{stage_order}
use Rattle.sys_open.specs.Walk.{IsSoBelow, IsFirstBelow, Walked}
use Rattle.sys_open.proofs.Orders.{not_both_less, less_by_name}

abbrev stage_name : ℕ → Name
stage_name actor = codes "actor-" ++ decimal actor

stage_under : (actor : ℕ) → stage_path actor ≡ under (folder_path Tmp) (stage_name actor)
unfolding stage_path
stage_under actor = refl

ascending : IsStrictlySortedBy (slice_cmp nat_cmp) (map stage_name stage_order)
unfolding IsStrictlySortedBy digits
ascending = ((refl, (refl, (refl, (refl, (refl, (refl, (refl, (refl, (refl, (refl, (refl, (refl, (refl, (refl, (refl, tt))))))))))))))), ((refl, (refl, (refl, (refl, (refl, (refl, (refl, (refl, (refl, (refl, (refl, (refl, (refl, (refl, tt)))))))))))))), ((refl, (refl, (refl, (refl, (refl, (refl, (refl, (refl, (refl, (refl, (refl, (refl, (refl, tt))))))))))))), ((refl, (refl, (refl, (refl, (refl, (refl, (refl, (refl, (refl, (refl, (refl, (refl, tt)))))))))))), ((refl, (refl, (refl, (refl, (refl, (refl, (refl, (refl, (refl, (refl, (refl, tt))))))))))), ((refl, (refl, (refl, (refl, (refl, (refl, (refl, (refl, (refl, (refl, tt)))))))))), ((refl, (refl, (refl, (refl, (refl, (refl, (refl, (refl, (refl, tt))))))))), ((refl, (refl, (refl, (refl, (refl, (refl, (refl, (refl, tt)))))))), ((refl, (refl, (refl, (refl, (refl, (refl, (refl, tt))))))), ((refl, (refl, (refl, (refl, (refl, (refl, tt)))))), ((refl, (refl, (refl, (refl, (refl, tt))))), ((refl, (refl, (refl, (refl, tt)))), ((refl, (refl, (refl, tt))), ((refl, (refl, tt)), ((refl, tt), (tt, tt))))))))))))))))

-- each actor is one of them
pub is_stage : (a : ℕ) → a < 16 → (k : ℕ) × (k < 16) × (get_or stage_order k a ≡ a)
is_stage zero less = (0, omega arith, refl)
is_stage (suc zero) less = (1, omega arith, refl)
is_stage (suc (suc zero)) less = (8, omega arith, refl)
is_stage (suc (suc (suc zero))) less = (9, omega arith, refl)
is_stage (suc (suc (suc (suc zero)))) less = (10, omega arith, refl)
is_stage (suc (suc (suc (suc (suc zero))))) less = (11, omega arith, refl)
is_stage (suc (suc (suc (suc (suc (suc zero)))))) less = (12, omega arith, refl)
is_stage (suc (suc (suc (suc (suc (suc (suc zero))))))) less = (13, omega arith, refl)
is_stage (suc (suc (suc (suc (suc (suc (suc (suc zero)))))))) less = (14, omega arith, refl)
is_stage (suc (suc (suc (suc (suc (suc (suc (suc (suc zero))))))))) less = (15, omega arith, refl)
is_stage (suc (suc (suc (suc (suc (suc (suc (suc (suc (suc zero)))))))))) less = (2, omega arith, refl)
is_stage (suc (suc (suc (suc (suc (suc (suc (suc (suc (suc (suc zero))))))))))) less = (3, omega arith, refl)
is_stage (suc (suc (suc (suc (suc (suc (suc (suc (suc (suc (suc (suc zero)))))))))))) less = (4, omega arith, refl)
is_stage (suc (suc (suc (suc (suc (suc (suc (suc (suc (suc (suc (suc (suc zero))))))))))))) less = (5, omega arith, refl)
is_stage (suc (suc (suc (suc (suc (suc (suc (suc (suc (suc (suc (suc (suc (suc zero)))))))))))))) less = (6, omega arith, refl)
is_stage (suc (suc (suc (suc (suc (suc (suc (suc (suc (suc (suc (suc (suc (suc (suc zero))))))))))))))) less = (7, omega arith, refl)
is_stage (suc (suc (suc (suc (suc (suc (suc (suc (suc (suc (suc (suc (suc (suc (suc (suc n)))))))))))))))) less = absurd (omega (arith, less))

-- what is below an earlier one comes first
later_stage : (i k a b : ℕ) (p q : Path) → i < k → k < 16 → get_or stage_order i a ≡ a → get_or stage_order k b ≡ b → is_below (stage_path a) p ≡ true → is_below (stage_path b) q ≡ true → path_cmp p q ≡ Less
later_stage i k a b p q less inside is_a is_b below_p below_q =
    let x : get_or (map stage_name stage_order) i [] ≡ stage_name a = get_or-map stage_name stage_order i a [] (omega (arith, less, inside)) ∙ ap stage_name is_a in
    let y : get_or (map stage_name stage_order) k [] ≡ stage_name b = get_or-map stage_name stage_order k b [] (omega (arith, inside)) ∙ ap stage_name is_b in
    let names : slice_cmp nat_cmp (stage_name a) (stage_name b) ≡ Less = subst (λ n. slice_cmp nat_cmp (stage_name a) n ≡ Less) y (subst (λ m. slice_cmp nat_cmp m (get_or (map stage_name stage_order) k []) ≡ Less) x (Less-from_sorted (slice_cmp nat_cmp) (map stage_name stage_order) i k [] ascending less (omega (arith, inside)))) in
    let s = below_split (stage_path a) p below_p in
    let t = below_split (stage_path b) q below_q in
    subst (λ m. path_cmp m q ≡ Less) (sym (s.1 ∙ ap (λ f. f ++ s.0) (stage_under a)))
    (subst (λ n. path_cmp (under (folder_path Tmp) (stage_name a) ++ s.0) n ≡ Less) (sym (t.1 ∙ ap (λ f. f ++ t.0) (stage_under b)))
    (less_by_name (folder_path Tmp) (stage_name a) (stage_name b) s.0 t.0 names))

-- what was found at the first so many
abbrev pub ReachFirst : Disk → List ℕ → ℕ → Type 0
ReachFirst d actors i = (k a : ℕ) → k < i → get_or actors k a ≡ a → IsSoBelow (IsReached d) (stage_path a)

pub more_reach : (d : Disk) (actors : List ℕ) (i a : ℕ) → i < length actors → a ≡ get_or actors i a → IsSoBelow (IsReached d) (stage_path a) → ReachFirst d actors i → ReachFirst d actors (i + 1)
more_reach d actors i a less is here before k b within is_b = by (order k i within)
  where
    order : (k i : ℕ) → k < i + 1 → (k < i) ⊎ (k ≡ i)
    order k i within = grind (arith, within)

    by : (k < i) ⊎ (k ≡ i) → IsSoBelow (IsReached d) (stage_path b)
    by (inl earlier) = before k b earlier is_b
    by (inr same) = subst (λ x. IsSoBelow (IsReached d) (stage_path x)) (is ∙ get_or_default actors i a b less ∙ ap (λ j. get_or actors j b) (sym same) ∙ is_b) here

pub stages_reach : (d : Disk) (actors : List ℕ) (i : ℕ) → actors ≡ stage_order → length actors ≤ i → ReachFirst d actors i → IsSoBelow (Asks Staging d) []
stages_reach d actors i are le reach q below actor small below_stage =
    let one = is_stage actor small in
    reach one.0 actor (let n : length actors ≡ 16 = ap length are in omega (arith, n, le, one.1)) (ap (λ l. get_or l one.0 actor) are ∙ one.2) q below_stage

root : (q : Path) → is_below [] q ≡ true
unfolding is_below
root q = refl

pub stages_first : (T : Type 0) (d : Disk) (actors : List ℕ) (i a : ℕ) → actors ≡ stage_order → i < length actors → a ≡ get_or actors i a → a < 16 → ReachFirst d actors i → (x : OpenFault)
    → Walked {T = T} (IsReached d) WrongKind (stage_path a) (Err x) → Walked {T = T} (Asks Staging d) WrongKind [] (Err x)
stages_first T d actors i a are less is small reach fault.Disk walked = tt
stages_first T d actors i a are less is small reach fault.NoMemory walked = tt
stages_first T d actors i a are less is small reach (fault.Outside p) walked = walked
stages_first T d actors i a are less is small reach (fault.Damaged p y) walked = (walked.0, first)
  where
    here : get_or stage_order i a ≡ a
    here = sym (is ∙ ap (λ l. get_or l i a) are)

    inside_i : i < 16
    inside_i = let n : length actors ≡ 16 = ap length are in omega (arith, n, less)

    order : (k i : ℕ) → (k < i) ⊎ (k ≡ i) ⊎ (i < k)
    order k i = grind arith

    least : (q : Path) → path_cmp q p ≡ Less → Asks Staging d q
    least q before b small_b below_b = by (is_stage b small_b)
      where
        by : (k : ℕ) × (k < 16) × (get_or stage_order k b ≡ b) → IsReached d q
        by (k, inside, is_b) = at (order k i)
          where
            at : (k < i) ⊎ (k ≡ i) ⊎ (i < k) → IsReached d q
            at (inl earlier) = reach k b earlier (ap (λ l. get_or l k b) are ∙ is_b) q below_b
            at (inr (inl same)) =
                let one : b ≡ a = sym is_b ∙ get_or_default stage_order k b a inside ∙ ap (λ j. get_or stage_order j a) same ∙ here in
                walked.1.least q (subst (λ x. is_below (stage_path x) q ≡ true) one below_b) before
            at (inr (inr later)) = absurd (not_both_less q p before (later_stage i k a b p q later inside here is_b walked.1.below below_b))

    first : IsFirstBelow (Asks Staging d) [] p
    first = record { below = root p; wrong = λ asks. walked.1.wrong (asks a small walked.1.below); least = λ q below before. least q before }
