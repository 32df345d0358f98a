-- Two maps whose paths ascend are one where they have the same pairs.
use Rattle.std.proofs.Common.{◌≡◌, ◌∷◌, [], ⊎_elim, Contains, arith, refl, sym, ◌∙◌, ap, subst}
use Rattle.std.specs.List.{AllByRecursion}
use Rattle.std.specs.List.Sorted.{IsStrictlySortedBy}
use Rattle.std.specs.declared.cmp.Ordering.TheVariants.{Less}
use Rattle.ost_types.specs.declared.node.NodeName.{NodeName}
use Rattle.ost_types.specs.Path.{Path, path_cmp}
use Rattle.ost_types.specs.PathMap.{Nodes, IsAscending, paths_of}
use Rattle.tree_read.proofs.Merged.{head_in, head_or_tail, tail_in}
use Rattle.checkout_compare.proofs.Orders.{not_both, not_itself}

abbrev Entry : Type 0
Entry = Path × NodeName

later_not : (x : Entry) (m : Nodes) (e : Entry) → AllByRecursion (λ q. path_cmp x.0 q ≡ Less) (paths_of m) → Contains m e → path_cmp x.0 e.0 ≡ Less
later_not x [] e all among = absurd (none_among e among)
  where
    none_among : (e : Entry) → Contains [] e → ⊥
    none_among e h = let less = h.1 in omega (arith, less)
later_not x (y ∷ m) e all among = ⊎_elim
    (λ same. subst (λ (z : Entry). path_cmp x.0 z.0 ≡ Less) same all.0)
    (λ rest. later_not x m e all.1 rest)
    (head_or_tail y m e among)

abbrev HasAll : Nodes → Nodes → Type 0
HasAll s t = (e : Entry) → Contains s e → Contains t e

same_head : (x y : Entry) (s t : Nodes) → AllByRecursion (λ q. path_cmp x.0 q ≡ Less) (paths_of s) → AllByRecursion (λ q. path_cmp y.0 q ≡ Less) (paths_of t) → Contains (y ∷ t) x → Contains (x ∷ s) y → y ≡ x
same_head x y s t first second here there = ⊎_elim
    (λ same. same)
    (λ later. ⊎_elim
    (λ same. sym same)
    (λ other. absurd (not_both x.0 y.0 (later_not x s y first other) (later_not y t x second later)))
    (head_or_tail x s y there))
    (head_or_tail y t x here)

same_tail : (x : Entry) (s t : Nodes) → AllByRecursion (λ q. path_cmp x.0 q ≡ Less) (paths_of s) → HasAll (x ∷ s) (x ∷ t) → HasAll s t
same_tail x s t first all e among = ⊎_elim
    (λ same. absurd (not_itself x.0 (subst (λ (z : Entry). path_cmp x.0 z.0 ≡ Less) (sym same) (later_not x s e first among))))
    (λ later. later)
    (head_or_tail x t e (all e (tail_in x e s among)))

pub same_maps : (s t : Nodes) → IsAscending (paths_of s) → IsAscending (paths_of t) → HasAll s t → HasAll t s → s ≡ t
unfolding IsStrictlySortedBy
same_maps [] [] h g all back = refl
same_maps [] (y ∷ t) h g all back = absurd (let n = (back y (head_in y t)).1 in omega (arith, n))
same_maps (x ∷ s) [] h g all back = absurd (let n = (all x (head_in x s)).1 in omega (arith, n))
same_maps (x ∷ s) (y ∷ t) h g all back =
    let same : y ≡ x = same_head x y s t h.0 g.0 (all x (head_in x s)) (back y (head_in y t)) in
    let over : HasAll (x ∷ s) (x ∷ t) = subst (λ z. HasAll (x ∷ s) (z ∷ t)) same all in
    let under : HasAll (x ∷ t) (x ∷ s) = subst (λ z. HasAll (z ∷ t) (x ∷ s)) same back in
    let second : AllByRecursion (λ q. path_cmp x.0 q ≡ Less) (paths_of t) = subst (λ (z : Entry). AllByRecursion (λ q. path_cmp z.0 q ≡ Less) (paths_of t)) same g.0 in
    ap (λ m. x ∷ m) (same_maps s t h.1 g.1 (same_tail x s t h.0 over) (same_tail x t s second under)) ∙ ap (λ z. z ∷ t) (sym same)
