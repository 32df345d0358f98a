-- Looking for the least path at which a merge is refused.
use Rattle.std.proofs.Common.{◌≡◌, ◌≢◌, ◌⊎◌, ◌<◌, ◌+◌, ◌-◌, inl, inr, ℕ, zero, suc, true, false, List, [], ◌∷◌, ◌++◌, length, get_or, Option, Some, None, refl, sym, ◌∙◌, ap, subst, arith, length-append}
use Rattle.std.specs.declared.cmp.Ordering.TheVariants.{Less}
use Rattle.ost_types.specs.declared.node.NodeName.{NodeName}
use Rattle.ost_types.specs.Path.{Path, is_below, path_cmp}
use Rattle.ost_types.specs.PathMap.{Nodes, IsAscending, paths_of, node_at}
use Rattle.ost_types.proofs.Paths.{same_or_apart}
use Rattle.etc_merge.specs.Entries.{AllAfter, AllBefore, IsFrom}
use Rattle.etc_merge.specs.Merging.{AreTrees, AreUnlike, HasKeptBelow, IsConflict, IsKept, IsLeaf, IsLeast, IsLeastConflict}
use Rattle.etc_merge.specs.Steps.{AgreesHere, ConflictHere, alike, holds, nothing, same, unlike}
use Rattle.etc_merge.proofs.Belows.{kept_along}
use Rattle.etc_merge.proofs.Finds.{after_none, after_there, ascending_after, ascending_rest, before_none, from_ascending, from_at, from_past, node_first, node_rest, none_of}
use Rattle.etc_merge.proofs.Fronts.{IsPassed, passed_ascending, passed_at, passed_from, passed_none, passed_past}
use Rattle.etc_merge.proofs.Orders.{above_first, apart_from_less, not_less_itself, path_order}
use Rattle.etc_merge.proofs.Trees.{tree_above}

abbrev pub IsLeftIn : Nodes → Path → Type 0
IsLeftIn left q = node_at left q ≢ None

-- So far no path is one at which the merge is refused.
pub record IsLooking (base current new before left behind : Nodes) : Type 0 where
  pub passed : Nodes
  pub is : current ≡ passed ++ left
  pub bases : IsPassed base before (IsLeftIn left)
  pub news : IsPassed new behind (IsLeftIn left)
  pub none : (p : Path) → node_at left p ≡ None → IsConflict base current new p → ⊥

value_of : {o : Option NodeName} {a b : NodeName} → o ≡ Some a → o ≡ Some b → a ≡ b
value_of x y = let e : Some _ ≡ Some _ = sym x ∙ y in cc

-- a path at which the merge is refused is one of the current tree
conflict_there : (base current new : Nodes) → AreTrees base current new → (p : Path) → IsConflict base current new p → node_at current p ≢ None
conflict_there base current new trees p (inl (kept, one, other, at, comes, far)) = kept.0
conflict_there base current new trees p (inr (not, (q, below, apart, kept), other, comes, leaf)) = tree_above current trees.now p q below kept.0

pub looking_first : (base current new : Nodes) → AreTrees base current new → IsLooking base current new base current new
looking_first base current new trees = record {
  passed = [];
  is = refl;
  bases = passed_none base (IsLeftIn current);
  news = passed_none new (IsLeftIn current);
  none = λ p none conflict. conflict_there base current new trees p conflict none;
}

pub looking_over : (base current new before left behind : Nodes) → IsLooking base current new before left behind → left ≡ [] → IsLeastConflict base current new None
looking_over base current new before left behind looking is = λ p conflict. looking.none p (ap (λ l. node_at l p) is) conflict

module _ (base current new before behind : Nodes) (e : Path × NodeName) (rest next after : Nodes) (trees : AreTrees base current new) (h : IsAscending (paths_of current))
    (looking : IsLooking base current new before (e ∷ rest) behind) (from : IsFrom before e.0 next) (from' : IsFrom behind e.0 after) where
  here : node_at (e ∷ rest) e.0 ≡ Some e.1
  here = node_first e rest e.0 refl

  is_left : IsLeftIn (e ∷ rest) e.0
  is_left none = none_of here none

  ascending : IsAscending (paths_of (e ∷ rest))
  ascending = passed_ascending current (e ∷ rest) (λ q. IsLeftIn (e ∷ rest) q × ⊥) (record { front = looking.passed; is = looking.is; before = λ q no. absurd no.1 }) h

  pub rest_ascending : IsAscending (paths_of rest)
  rest_ascending = ascending_rest e rest ascending

  pub rest_after : AllAfter e.0 rest
  rest_after = ascending_after e rest ascending

  -- what was passed comes before what is left
  passed_before : (m : Nodes) → IsAscending (paths_of (m ++ e ∷ rest)) → AllBefore m e.0
  passed_before [] asc = tt
  passed_before (x ∷ m) asc = (at_head x m (ascending_after x (m ++ e ∷ rest) asc), passed_before m (ascending_rest x (m ++ e ∷ rest) asc))
    where
      at_head : (x : Path × NodeName) (m : Nodes) → AllAfter x.0 (m ++ e ∷ rest) → path_cmp x.0 e.0 ≡ Less
      at_head x [] all = all.0
      at_head x (y ∷ m) all = at_head x m all.1

  currents : IsPassed current (e ∷ rest) (λ q. q ≡ e.0)
  currents = record { front = looking.passed; is = looking.is; before = λ q is. subst (AllBefore looking.passed) (sym is) (passed_before looking.passed (subst (λ m. IsAscending (paths_of m)) looking.is h)) }

  in_current : node_at current e.0 ≡ Some e.1
  in_current = passed_at current (e ∷ rest) (λ q. q ≡ e.0) e.0 currents refl ∙ here

  in_base : node_at base e.0 ≡ node_at next e.0
  in_base = passed_at base before (IsLeftIn (e ∷ rest)) e.0 looking.bases is_left ∙ from_at before e.0 next from

  in_new : node_at new e.0 ≡ node_at after e.0
  in_new = passed_at new behind (IsLeftIn (e ∷ rest)) e.0 looking.news is_left ∙ from_at behind e.0 after from'

  past : (q : Path) → path_cmp e.0 q ≡ Less → (node_at base q ≡ node_at next q) × (node_at current q ≡ node_at rest q)
  past q less = (
    passed_past base before (IsLeftIn (e ∷ rest)) e.0 q looking.bases is_left less ∙ from_past before e.0 q next from less,
    passed_past current (e ∷ rest) (λ r. r ≡ e.0) e.0 q currents refl less ∙ node_rest e rest q (apart_from_less e.0 q less),
  )

  below_later : (q : Path) → is_below e.0 q ≡ true → q ≢ e.0 → path_cmp e.0 q ≡ Less
  below_later q below apart = above_first e.0 q below (λ same. apart (sym same))

  kept_here : HasKeptBelow base current e.0 → HasKeptBelow next rest e.0
  kept_here = kept_along base current next rest e.0 past (λ q there. below_later q)

  kept_back : HasKeptBelow next rest e.0 → HasKeptBelow base current e.0
  kept_back = kept_along next rest base current e.0 (λ q less. let s = past q less in (sym s.0, sym s.1)) (λ q there. below_later q)

  is_kept : node_at next e.0 ≢ Some e.1 → IsKept base current e.0
  is_kept other = ((λ none. none_of in_current none), (λ is. other (sym in_base ∙ is ∙ in_current)))

  not_kept : node_at next e.0 ≡ Some e.1 → IsKept base current e.0 → ⊥
  not_kept is kept = kept.1 (in_base ∙ is ∙ sym in_current)

  conflicts : ConflictHere next rest after e.0 e.1 → IsConflict base current new e.0
  conflicts (unlike other differs comes far) = inl (is_kept differs, e.1, other, in_current, in_new ∙ comes, far)
  conflicts (holds other stays comes leaf below) = inr (not_kept stays, kept_back below, other, in_new ∙ comes, leaf)

  agrees : AgreesHere next rest after e.0 e.1 → IsConflict base current new e.0 → ⊥
  agrees (nothing none) (inl (kept, one, other, at, comes, far)) = none_of comes (in_new ∙ none)
  agrees (nothing none) (inr (not, below, other, comes, leaf)) = none_of comes (in_new ∙ none)
  agrees (alike other differs comes near) (inl (kept, one, another, at, comes', far)) =
      let a = value_of in_current at in
      let b = value_of (in_new ∙ comes) comes' in
      near (subst (λ n. AreUnlike n other) (sym a) (subst (λ n. AreUnlike one n) (sym b) far))
  agrees (alike other differs comes near) (inr (not, below, another, comes', leaf)) = not (is_kept differs)
  agrees (same other stays comes fits) (inl (kept, one, another, at, comes', far)) = not_kept stays kept
  agrees (same other stays comes fits) (inr (not, below, another, comes', leaf)) =
      fits (subst IsLeaf (sym (value_of (in_new ∙ comes) comes')) leaf) (kept_here below)

  front_none : (q : Path) → path_cmp q e.0 ≡ Less → node_at (e ∷ rest) q ≡ None
  front_none q less = node_rest e rest q (λ same. apart_from_less q e.0 less (sym same)) ∙ after_none rest q (earlier rest rest_after)
    where
      earlier : (m : Nodes) → AllAfter e.0 m → AllAfter q m
      earlier [] all = tt
      earlier (x ∷ m) all = (path_order.trans q e.0 x.0 less all.0, earlier m all.1)

  place_at : (m : Nodes) (d : Path × NodeName) → get_or (m ++ e ∷ rest) (length m) d ≡ e
  place_at [] d = refl
  place_at (x ∷ m) d = place_at m d

  pub looking_found : ConflictHere next rest after e.0 e.1 → IsLeastConflict base current new (Some (length current - length (e ∷ rest)))
  looking_found found =
      let count : length current - length (e ∷ rest) ≡ length looking.passed = let l = ap length looking.is ∙ length-append looking.passed (e ∷ rest) in omega (arith, l) in
      let inside : length looking.passed < length current = let l = ap length looking.is ∙ length-append looking.passed (e ∷ rest) in omega (arith, l) in
      let at : (d : Path × NodeName) → get_or current (length looking.passed) d ≡ e = λ d. ap (λ m. get_or m (length looking.passed) d) looking.is ∙ place_at looking.passed d in
      let least : IsLeast base current new e.0 = (conflicts found, (λ q less. looking.none q (front_none q less))) in
      rw count (inside, (λ d. subst (λ x. IsLeast base current new x.0) (sym (at d)) least))

  pub looking_more : AgreesHere next rest after e.0 e.1 → IsLooking base current new next rest after
  looking_more fits = record {
    passed = looking.passed ++ e ∷ [];
    is = looking.is ∙ joined looking.passed;
    bases = passed_from base before next (IsLeftIn (e ∷ rest)) (IsLeftIn rest) e.0 looking.bases from later;
    news = passed_from new behind after (IsLeftIn (e ∷ rest)) (IsLeftIn rest) e.0 looking.news from' later;
    none = λ p none. elim (same_or_apart e.0 p) [
      | inl is ↦ (λ conflict. agrees fits (subst (IsConflict base current new) (sym is) conflict))
      | inr apart ↦ looking.none p (node_rest e rest p apart ∙ none)
    ];
  }
    where
      joined : (m : Nodes) → m ++ e ∷ rest ≡ (m ++ e ∷ []) ++ rest
      joined [] = refl
      joined (x ∷ m) = ap (λ l. x ∷ l) (joined m)

      later : (q : Path) → IsLeftIn rest q → IsLeftIn (e ∷ rest) q × (path_cmp e.0 q ≡ Less)
      later q there =
          let less = after_there rest e.0 q rest_after there in
          ((λ none. there (sym (node_rest e rest q (apart_from_less e.0 q less)) ∙ none)), less)
