-- Looking for what is kept below a path.
use Rattle.std.proofs.Common.{◌≡◌, ◌≢◌, ◌⊎◌, inl, inr, Bool, true, false, List, [], ◌∷◌, ◌++◌, Option, Some, None, refl, sym, ◌∙◌, ap, subst}
use Rattle.std.specs.declared.cmp.Ordering.TheVariants.{Less}
use Rattle.ost_types.specs.declared.node.NodeName.{NodeName}
use Rattle.ost_types.specs.Path.{Path, is_below, path_cmp}
use Rattle.ost_types.specs.PathMap.{Nodes, IsAscending, paths_of, node_at}
use Rattle.ost_types.proofs.Paths.{same_or_apart}
use Rattle.etc_merge.specs.Entries.{AllAfter, IsFrom}
use Rattle.etc_merge.specs.Merging.{HasKeptBelow, IsKept}
use Rattle.etc_merge.proofs.Finds.{after_there, ascending_after, ascending_rest, from_ascending, from_at, from_past, node_first, node_rest, none_of, after_earlier}
use Rattle.etc_merge.proofs.Orders.{apart_from_less, between}

-- where both show the same behind a path, the same is kept below it
pub kept_along : (base current before rest : Nodes) (p : Path)
    → ((q : Path) → path_cmp p q ≡ Less → (node_at base q ≡ node_at before q) × (node_at current q ≡ node_at rest q))
    → ((q : Path) → node_at current q ≢ None → is_below p q ≡ true → q ≢ p → path_cmp p q ≡ Less)
    → HasKeptBelow base current p → HasKeptBelow before rest p
kept_along base current before rest p same later (q, below, apart, (there, other)) =
    let s = same q (later q there below apart) in
    (q, below, apart, ((λ none. there (s.1 ∙ none)), (λ is. other (s.0 ∙ is ∙ sym s.1))))

-- what is left to look at, by which the answer is found
pub record IsAhead (base current : Nodes) (p : Path) (before left : Nodes) : Type 0 where
  pub bases : IsAscending (paths_of before)
  pub lefts : IsAscending (paths_of left)
  pub after : AllAfter p left
  pub to : HasKeptBelow base current p → HasKeptBelow before left p
  pub back : HasKeptBelow before left p → HasKeptBelow base current p

pub ahead_first : (base current : Nodes) (p : Path) → IsAscending (paths_of base) → IsAscending (paths_of current) → AllAfter p current → IsAhead base current p base current
ahead_first base current p bases lefts after = record { bases = bases; lefts = lefts; after = after; to = λ h. h; back = λ h. h }

none_left : (before : Nodes) (p : Path) → HasKeptBelow before [] p → ⊥
none_left before p (q, below, apart, (there, other)) = there refl

pub ahead_over : (base current : Nodes) (p : Path) (before left : Nodes) → IsAhead base current p before left → left ≡ [] → HasKeptBelow base current p → ⊥
ahead_over base current p before left ahead is kept = none_left before p (subst (λ l. HasKeptBelow before l p) is (ahead.to kept))

-- where the first that is left doesn't lie below, nothing that is left does
pub ahead_beyond : (base current : Nodes) (p : Path) (before : Nodes) (e : Path × NodeName) (rest : Nodes) → IsAhead base current p before (e ∷ rest) → is_below p e.0 ≡ false → HasKeptBelow base current p → ⊥
ahead_beyond base current p before e rest ahead beyond kept = go (ahead.to kept)
  where
    go : HasKeptBelow before (e ∷ rest) p → ⊥
    go (q, below, apart, (there, other)) = elim (same_or_apart e.0 q) [
      | inl same ↦ let n : false ≡ true = sym beyond ∙ ap (λ r. is_below p r) same ∙ below in cc
      | inr differ ↦ (
          let less = after_there rest e.0 q (ascending_after e rest ahead.lefts) (λ none. there (node_rest e rest q differ ∙ none)) in
          let n : false ≡ true = sym beyond ∙ between p e.0 q ahead.after.0 less below in cc)
    ]

module _ (base current : Nodes) (p : Path) (before next : Nodes) (e : Path × NodeName) (rest : Nodes) (ahead : IsAhead base current p before (e ∷ rest)) (from : IsFrom before e.0 next) where
  pub next_ascending : IsAscending (paths_of next)
  next_ascending = from_ascending before e.0 next from ahead.bases

  pub ahead_found : is_below p e.0 ≡ true → node_at next e.0 ≢ Some e.1 → HasKeptBelow base current p
  ahead_found below other =
      let here : node_at (e ∷ rest) e.0 ≡ Some e.1 = node_first e rest e.0 refl in
      ahead.back (e.0, below, (λ same. apart_from_less p e.0 ahead.after.0 (sym same)), ((λ none. none_of here none), (λ is. other (sym (from_at before e.0 next from) ∙ is ∙ here))))

  past : (q : Path) → path_cmp e.0 q ≡ Less → (node_at before q ≡ node_at next q) × (node_at (e ∷ rest) q ≡ node_at rest q)
  past q less = (from_past before e.0 q next from less, node_rest e rest q (apart_from_less e.0 q less))

  to_rest : node_at next e.0 ≡ Some e.1 → HasKeptBelow before (e ∷ rest) p → HasKeptBelow next rest p
  to_rest same (q, below, apart, (there, other)) = elim (same_or_apart e.0 q) [
    | inl is ↦ absurd (other (sym (ap (λ r. node_at before r) is) ∙ from_at before e.0 next from ∙ same ∙ sym (node_first e rest e.0 refl) ∙ ap (λ r. node_at (e ∷ rest) r) is))
    | inr differ ↦ (
        let left : node_at rest q ≢ None = λ none. there (node_rest e rest q differ ∙ none) in
        let s = past q (after_there rest e.0 q (ascending_after e rest ahead.lefts) left) in
        (q, below, apart, (left, (λ is. other (s.0 ∙ is ∙ sym s.1)))))
  ]

  from_rest : HasKeptBelow next rest p → HasKeptBelow before (e ∷ rest) p
  from_rest (q, below, apart, (there, other)) =
      let s = past q (after_there rest e.0 q (ascending_after e rest ahead.lefts) there) in
      (q, below, apart, ((λ none. there (sym s.1 ∙ none)), (λ is. other (sym s.0 ∙ is ∙ s.1))))

  pub ahead_more : node_at next e.0 ≡ Some e.1 → IsAhead base current p next rest
  ahead_more same = record {
    bases = next_ascending;
    lefts = ascending_rest e rest ahead.lefts;
    after = ahead.after.1;
    to = λ h. to_rest same (ahead.to h);
    back = λ h. ahead.back (from_rest h);
  }
