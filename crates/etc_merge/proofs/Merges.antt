-- The walk over both trees, path by path.
use Rattle.std.proofs.Common.{◌≡◌, ◌≢◌, ◌⊎◌, inl, inr, true, List, [], ◌∷◌, ◌++◌, Option, Some, None, refl, sym, ◌∙◌, ap, subst}
use Rattle.std.specs.Prelude.{IfSome}
use Rattle.std.specs.declared.cmp.Ordering.TheVariants.{Less}
use Rattle.ost_types.specs.declared.node.NodeName.{NodeName}
use Rattle.ost_types.specs.Path.{Path, is_below, path_cmp}
use Rattle.ost_types.specs.PathMap.{Nodes, IsAscending, IsNode, IsPathMap, paths_of, node_at}
use Rattle.ost_types.proofs.Paths.{same_or_apart, is_below-self}
use Rattle.etc_merge.specs.Entries.{AllAfter, AllBefore, IsFrom, IsNext, entry_of}
use Rattle.etc_merge.specs.Merging.{AreTrees, HasKeptBelow, IsKept, IsRemoved}
use Rattle.etc_merge.specs.Steps.{IsMergedBy, IsStep, IsUnder, MergedBy, OfCurrent, OfNew, comes, coming, goes, held, holds, keeps, kept, nowhere, removed as Removed, takes, under}
use Rattle.etc_merge.specs.Steps as steps
use Rattle.etc_merge.proofs.Belows.{kept_along}
use Rattle.ost_types.proofs.Ascending.{ascending_none}
use Rattle.etc_merge.proofs.Finds.{after_none, after_there, append_none, ascending_put, before_append, before_none, from_ascending, from_at, from_past, node_first, map_node, node_rest, none_of, taken_ascending, taken_at, taken_past}
use Rattle.etc_merge.proofs.Fronts.{IsPassed, passed_at, passed_from, passed_none, passed_past, passed_taken}
use Rattle.etc_merge.proofs.Orders.{above_first, apart_from_less, below_then, between, not_less_itself, path_order}
use Rattle.etc_merge.proofs.Trees.{not_removed, tree_above}

-- one of the two has it yet to come
abbrev pub IsLeft : Nodes → Nodes → Path → Type 0
IsLeft current_left new_left q = (node_at current_left q ≢ None) ⊎ (node_at new_left q ≢ None)

-- All that comes below a path of the new tree which was removed lies below the one that is gone, and that one was removed.
pub record IsGone (base current new new_left : Nodes) (gone : Option Path) : Type 0 where
  pub under : (q p : Path) → node_at new q ≢ None → node_at new_left q ≡ None → node_at base q ≢ None → node_at current q ≡ None → node_at new_left p ≢ None → is_below q p ≡ true → IsUnder gone p
  pub is : (g : Path) → gone ≡ Some g → (node_at base g ≢ None) × (node_at current g ≡ None) × ((p : Path) → node_at new_left p ≢ None → path_cmp g p ≡ Less)

-- So far the merge is right at each path that none of the two has yet to come.
pub record IsMerging (base current new before current_left new_left : Nodes) (gone : Option Path) (merged : Nodes) : Type 0 where
  pub bases : IsPassed base before (IsLeft current_left new_left)
  pub currents : IsPassed current current_left (IsLeft current_left new_left)
  pub news : IsPassed new new_left (IsLeft current_left new_left)
  pub gones : IsGone base current new new_left gone
  pub sorted : IsAscending (paths_of merged)
  pub behind : (q : Path) → IsLeft current_left new_left q → AllBefore merged q
  pub right : (p : Path) → node_at current_left p ≡ None → node_at new_left p ≡ None → MergedBy base current new p (node_at merged p)

pub merging_first : (base current new : Nodes) → IsMerging base current new base current new None []
merging_first base current new = record {
  bases = passed_none base (IsLeft current new);
  currents = passed_none current (IsLeft current new);
  news = passed_none new (IsLeft current new);
  gones = record { under = λ q p there none. absurd (there none); is = λ g is. let n : None ≡ Some g = is in cc };
  sorted = ascending_none;
  behind = λ q there. tt;
  right = λ p none none'. nowhere none none' refl;
}

pub merging_over : (base current new before current_left new_left : Nodes) (gone : Option Path) (merged : Nodes) → IsMerging base current new before current_left new_left gone merged → current_left ≡ [] → new_left ≡ [] → IsMergedBy base current new merged
merging_over base current new before current_left new_left gone merged merging none none' = λ p. merging.right p (ap (λ m. node_at m p) none) (ap (λ m. node_at m p) none')

module _ (base current new before current_left new_left : Nodes) (gone : Option Path) (merged : Nodes) (trees : AreTrees base current new)
    (merging : IsMerging base current new before current_left new_left gone merged) (p : Path) (here came : Option NodeName) (currents news next : Nodes)
    (first : IsNext current_left new_left p here came currents news) (from : IsFrom before p next) where
  p_left : IsLeft current_left new_left p
  p_left = elim first.some [
    | inl some ↦ inl (λ none. some (sym (taken_at p here current_left currents first.in_current) ∙ none))
    | inr some ↦ inr (λ none. some (sym (taken_at p came new_left news first.in_new) ∙ none))
  ]

  pub p_before : AllBefore merged p
  p_before = merging.behind p p_left

  in_base : node_at base p ≡ node_at next p
  in_base = passed_at base before _ p merging.bases p_left ∙ from_at before p next from

  in_current : node_at current p ≡ here
  in_current = passed_at current current_left _ p merging.currents p_left ∙ taken_at p here current_left currents first.in_current

  in_new : node_at new p ≡ came
  in_new = passed_at new new_left _ p merging.news p_left ∙ taken_at p came new_left news first.in_new

  past : (q : Path) → path_cmp p q ≡ Less → (node_at base q ≡ node_at next q) × (node_at current q ≡ node_at currents q)
  past q less = (
    passed_past base before _ p q merging.bases p_left less ∙ from_past before p q next from less,
    passed_past current current_left _ p q merging.currents p_left less ∙ taken_past p here current_left currents q first.in_current (apart_from_less p q less),
  )

  below_later : (q : Path) → is_below p q ≡ true → q ≢ p → path_cmp p q ≡ Less
  below_later q below apart = above_first p q below (λ same. apart (sym same))

  kept_back : HasKeptBelow next currents p → HasKeptBelow base current p
  kept_back = kept_along next currents base current p (λ q less. let s = past q less in (sym s.0, sym s.1)) (λ q there. below_later q)

  kept_here : HasKeptBelow base current p → HasKeptBelow next currents p
  kept_here = kept_along base current next currents p past (λ q there. below_later q)

  -- what is left then was left before, and comes later
  later : (q : Path) → IsLeft currents news q → IsLeft current_left new_left q × (path_cmp p q ≡ Less)
  later q (inl there) =
      let less = after_there currents p q first.in_current.1 there in
      (inl (λ none. there (sym (taken_past p here current_left currents q first.in_current (apart_from_less p q less)) ∙ none)), less)
  later q (inr there) =
      let less = after_there news p q first.in_new.1 there in
      (inr (λ none. there (sym (taken_past p came new_left news q first.in_new (apart_from_less p q less)) ∙ none)), less)

  not_left : (q : Path) → path_cmp q p ≡ Less → node_at new_left q ≡ None
  not_left q less = let apart : p ≢ q = λ same. apart_from_less q p less (sym same) in
      taken_past p came new_left news q first.in_new apart ∙ after_none news q (earlier news first.in_new.1)
    where
      earlier : (m : Nodes) → AllAfter p m → AllAfter q m
      earlier [] all = tt
      earlier (x ∷ m) all = (path_order.trans q p x.0 less all.0, earlier m all.1)

  -- ---- at a path of the current tree
  at_current : (node : NodeName) → here ≡ Some node → (result : Option NodeName) → OfCurrent next currents p node came result → MergedBy base current new p result
  at_current node is result of = go of
    where
      there : node_at current p ≡ Some node
      there = in_current ∙ is

      stays : IsRemoved base current p → ⊥
      stays = not_removed base current trees.now p (λ none. none_of there none)

      unkept : node_at next p ≡ Some node → IsKept base current p → ⊥
      unkept same kept' = kept'.1 (in_base ∙ same ∙ sym there)

      go : OfCurrent next currents p node came result → MergedBy base current new p result
      go (keeps other is') = kept ((λ none. none_of there none), (λ same. other (sym in_base ∙ same ∙ there))) (is' ∙ sym there)
      go (takes same some is') = coming (unkept same) stays (λ none. absurd (some (sym in_new ∙ none))) (is' ∙ sym in_new)
      go (holds same none below is') = held (unkept same) stays (in_new ∙ none) (kept_back below) (is' ∙ sym there)
      go (goes same none bare is') = coming (unkept same) stays (λ _ below. bare (kept_here below)) (is' ∙ sym none ∙ sym in_new)

  -- ---- at a path that the new tree alone has
  module _ (alone : here ≡ None) (result : Option NodeName) (then : Option Path) (of : OfNew next gone p came result then) where
    not_there : node_at current p ≡ None
    not_there = in_current ∙ alone

    has_come : node_at new p ≢ None
    has_come none = elim first.some [ inl some ↦ some alone | inr some ↦ some (sym in_new ∙ none) ]

    unkept : IsKept base current p → ⊥
    unkept kept' = kept'.0 not_there

    removed_by : (g : Path) → gone ≡ Some g → is_below g p ≡ true → IsRemoved base current p
    removed_by g is below = let facts = merging.gones.is g is in (g, below, facts.0, facts.1)

    under_gone : (o : Option Path) → gone ≡ o → IsUnder o p → IsRemoved base current p
    under_gone None is nothing = absurd nothing
    under_gone (Some g) is below = removed_by g is below

    -- a removed path above p was passed, so p lies below the one that is gone
    found_gone : node_at base p ≡ None → IsRemoved base current p → IsUnder gone p
    found_gone none (q, below, there, lacks) =
        let apart : q ≢ p = λ same. there (ap (λ r. node_at base r) same ∙ none) in
        let less = above_first q p below apart in
        let left : node_at new_left p ≢ None = λ none'. has_come (passed_at new new_left _ p merging.news p_left ∙ none') in
        merging.gones.under q p (tree_above new trees.coming q p below has_come) (not_left q less) there lacks left below

    at_new : MergedBy base current new p result
    at_new = go of
      where
        go : OfNew next gone p came result then → MergedBy base current new p result
        go (under is none same) = Removed not_there (under_gone gone refl is) none
        go (steps.removed free there none same) = Removed not_there (p, is_below-self p, (λ none'. there (sym in_base ∙ none')), not_there) none
        go (comes free none is same) =
            let lacks = in_base ∙ none in
            coming unkept (λ gone'. free (found_gone lacks gone')) (λ none'. absurd (has_come none')) (is ∙ sym in_new)

    -- what was gone before is so
    older : (q r : Path) → node_at new q ≢ None → node_at news q ≡ None → node_at base q ≢ None → node_at current q ≡ None → q ≢ p → node_at news r ≢ None → is_below q r ≡ true → IsUnder gone r
    older q r there passed has lacks apart comes' below =
        let was = later r (inr comes') in
        let left : node_at new_left r ≢ None = λ none. comes' (sym (taken_past p came new_left news r first.in_new (apart_from_less p r was.1)) ∙ none) in
        merging.gones.under q r there (taken_past p came new_left news q first.in_new (λ same. apart (sym same)) ∙ passed) has lacks left below

    gone_after : (g : Path) → gone ≡ Some g → (r : Path) → node_at news r ≢ None → path_cmp g r ≡ Less
    gone_after g is r there =
        let was = later r (inr there) in
        let left : node_at new_left r ≢ None = λ none. there (sym (taken_past p came new_left news r first.in_new (apart_from_less p r was.1)) ∙ none) in
        (merging.gones.is g is).2 r left

    came_left : node_at new_left p ≢ None
    came_left none = has_come (passed_at new new_left _ p merging.news p_left ∙ none)

    same_gone : then ≡ gone → ((r : Path) → node_at base p ≢ None → node_at news r ≢ None → is_below p r ≡ true → IsUnder gone r) → IsGone base current new news then
    same_gone same at_p = subst (IsGone base current new news) (sym same) (record {
      under = λ q r there passed has lacks comes' below. elim (same_or_apart q p) [
        | inl is ↦ at_p r (λ none. has (ap (λ x. node_at base x) is ∙ none)) comes' (subst (λ x. is_below x r ≡ true) is below)
        | inr apart ↦ older q r there passed has lacks apart comes' below
      ];
      is = λ g is. let facts = merging.gones.is g is in (facts.0, facts.1, gone_after g is);
    })

    below_gone : (o : Option Path) → IsUnder o p → (r : Path) → is_below p r ≡ true → IsUnder o r
    below_gone None nothing r below = absurd nothing
    below_gone (Some g) is r below = below_then g p r is below

    -- what was gone before p, and not above it, has nothing below it any more
    none_older : (o : Option Path) → gone ≡ o → (IsUnder o p → ⊥) → (r : Path) → node_at news r ≢ None → IsUnder o r → ⊥
    none_older None is free r there nothing = nothing
    none_older (Some g) is free r there below =
        let less = (later r (inr there)).1 in
        free (between g p r ((merging.gones.is g is).2 p came_left) less below)

    gone_then : IsGone base current new news then
    gone_then = go of
      where
        go : OfNew next gone p came result then → IsGone base current new news then
        go (under is none same) = same_gone same (λ r has comes' below. below_gone gone is r below)
        go (comes free none is same) = same_gone same (λ r has comes' below. absurd (has (in_base ∙ none)))
        go (steps.removed free there none same) = subst (IsGone base current new news) (sym same) (record {
          under = λ q r there' passed has lacks comes' below. elim (same_or_apart q p) [
            | inl is ↦ subst (λ x. is_below x r ≡ true) is below
            | inr apart ↦ absurd (none_older gone refl free r comes' (older q r there' passed has lacks apart comes' below))
          ];
          is = λ g is. let e : p ≡ g = let s : Some p ≡ Some g = is in cc in
              (subst (λ x. node_at base x ≢ None) e (λ none'. there (sym in_base ∙ none')), subst (λ x. node_at current x ≡ None) e not_there, (λ r there'. subst (λ x. path_cmp x r ≡ Less) e (later r (inr there')).1));
        })

  gone_kept : (node : NodeName) → here ≡ Some node → IsGone base current new news gone
  gone_kept node is = record {
    under = λ q r there passed has lacks comes' below. elim (same_or_apart q p) [
      | inl same ↦ absurd (none_of (in_current ∙ is) (ap (λ x. node_at current x) (sym same) ∙ lacks))
      | inr apart ↦ (
          let was = later r (inr comes') in
          let left : node_at new_left r ≢ None = λ none. comes' (sym (taken_past p came new_left news r first.in_new (apart_from_less p r was.1)) ∙ none) in
          merging.gones.under q r there (taken_past p came new_left news q first.in_new (λ same. apart (sym same)) ∙ passed) has lacks left below)
    ];
    is = λ g is'. let facts = merging.gones.is g is' in (
      facts.0,
      facts.1,
      (λ r there.
          let was = later r (inr there) in
          facts.2 r (λ none. there (sym (taken_past p came new_left news r first.in_new (apart_from_less p r was.1)) ∙ none))),
    );
  }

  -- ---- both

  merged_at : (o : Option NodeName) → here ≡ o → (result : Option NodeName) (then : Option Path) → IsStep next currents gone p o came result then → MergedBy base current new p result × IsGone base current new news then
  merged_at None is result then of = (at_new is result then of, gone_then is result then of)
  merged_at (Some node) is result then (of, same) = (at_current node is result of, subst (IsGone base current new news) (sym same) (gone_kept node is))

  put_at : (result : Option NodeName) → node_at (merged ++ entry_of p result) p ≡ result
  put_at None = append_none merged [] p (before_none merged p p_before)
  put_at (Some n) = append_none merged ((p, n) ∷ []) p (before_none merged p p_before) ∙ node_first (p, n) [] p refl

  put_past : (result : Option NodeName) (q : Path) → p ≢ q → node_at (merged ++ entry_of p result) q ≡ node_at merged q
  put_past result q apart = past_all merged
    where
      single : (result : Option NodeName) → node_at (entry_of p result) q ≡ None
      single None = refl
      single (Some n) = node_rest (p, n) [] q apart

      past_all : (m : Nodes) → node_at (m ++ entry_of p result) q ≡ node_at m q
      past_all [] = single result
      past_all (e ∷ m) = elim (same_or_apart e.0 q) [
        | inl same ↦ node_first e (m ++ entry_of p result) q same ∙ sym (node_first e m q same)
        | inr differ ↦ node_rest e (m ++ entry_of p result) q differ ∙ past_all m ∙ sym (node_rest e m q differ)
      ]

  put_before : (result : Option NodeName) (q : Path) → path_cmp p q ≡ Less → AllBefore merged q → AllBefore (merged ++ entry_of p result) q
  put_before result q less all = before_append merged (entry_of p result) q all (single result)
    where
      single : (result : Option NodeName) → AllBefore (entry_of p result) q
      single None = tt
      single (Some n) = (less, tt)

  pub merging_more : (result : Option NodeName) (then : Option Path) → IsStep next currents gone p here came result then → IsMerging base current new next currents news then (merged ++ entry_of p result)
  merging_more result then of =
      let done = merged_at here refl result then of in
      record {
        bases = passed_from base before next _ _ p merging.bases from later;
        currents = passed_taken current current_left currents _ _ p here merging.currents first.in_current later;
        news = passed_taken new new_left news _ _ p came merging.news first.in_new later;
        gones = done.1;
        sorted = ascending_put merged p result merging.sorted p_before;
        behind = λ q left. let was = later q left in put_before result q was.1 (merging.behind q was.0);
        right = λ q none none'. elim (same_or_apart p q) [
          | inl is ↦ subst (λ r. MergedBy base current new r (node_at (merged ++ entry_of p result) r)) is (subst (MergedBy base current new p) (sym (put_at result)) done.0)
          | inr apart ↦ subst (MergedBy base current new q) (sym (put_past result q apart)) (merging.right q
              (taken_past p here current_left currents q first.in_current apart ∙ none) (taken_past p came new_left news q first.in_new apart ∙ none'))
        ];
      }

  -- what the merge has is a node
  node_of : (o : Option NodeName) (m : Nodes) → IsPathMap m → o ≡ node_at m p → IfSome o IsNode
  node_of None m map is = tt
  node_of (Some n) m map is = map_node m p n map (sym is)

  no_node : (o : Option NodeName) → o ≡ None → IfSome o IsNode
  no_node None is = tt
  no_node (Some n) is = let none : Some n ≡ None = is in cc

  pub merging_node : IsPathMap current → IsPathMap new → (result : Option NodeName) (then : Option Path) → IsStep next currents gone p here came result then → IfSome result IsNode
  merging_node map map' result then of = go (merged_at here refl result then of).0
    where
      go : MergedBy base current new p result → IfSome result IsNode
      go (nowhere none none' is) = no_node result is
      go (kept keeps' is) = node_of result current map is
      go (Removed none gone' is) = no_node result is
      go (held not stays none below is) = node_of result current map is
      go (coming not stays bare is) = node_of result new map' is
