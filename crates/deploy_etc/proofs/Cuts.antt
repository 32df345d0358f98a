-- Nodes below a path, with that path cut off.
use Rattle.std.proofs.Common.{◌≡◌, ◌≢◌, ◌⊎◌, inl, inr, ℕ, zero, suc, ◌<◌, ◌≤◌, ◌+◌, Bool, true, false, [], ◌∷◌, ◌++◌, length, take, drop, get_or, Option, Some, None, refl, sym, ◌∙◌, ap, subst, arith, append-nil, length-append}
use Rattle.std.specs.Prelude.{MatchOption, map}
use Rattle.std.specs.List.{AllByRecursion}
use Rattle.std.specs.List.Sorted.{IsStrictlySortedBy}
use Rattle.std.specs.Cmp.Lexicographic.{pointwise}
use Rattle.std.specs.Ordering.{ordering_then}
use Rattle.std.specs.declared.cmp.Ordering.TheVariants.{Less}
use Rattle.std.proofs.lemmas.Cmp.{nat_list_cmp_total, tied_itself}
use Rattle.std.proofs.lemmas.List.{append_cancel_left, drop_more, length-map, map-append, take-append-drop, take_all, take_more}
use Rattle.std.proofs.lemmas.Slice.Eq.{slice_eq-Decides}
use Rattle.ost_types.specs.declared.node.NodeName.{NodeName}
use Rattle.ost_types.specs.Path.{Name, Path, IsPath, path_cmp, is_below, same_name}
use Rattle.ost_types.specs.PathMap.{Nodes, IsAscending, node_at, paths_of}
use Rattle.ost_types.proofs.Paths.{is_below-self, same_name-Decides, same_or_apart}
use Rattle.etc_merge.specs.Entries.{IsFrom, StartsFrom}
use Rattle.etc_merge.proofs.Finds.{after_there, ascending_after, ascending_left, from_at, from_past, node_first, node_rest, none_of}
use Rattle.etc_merge.proofs.Orders.{between, not_before, path_order, rest_below}
use Rattle.deploy_etc.specs.Defaults.{IsPartAt}
use Rattle.deploy_etc.proofs.Bounds.{IsPath-back}

-- ---- paths below another one

pub below_there : (at rest : Path) → is_below at (at ++ rest) ≡ true
unfolding is_below
below_there [] rest = refl
below_there (a ∷ at) rest = let e : same_name a a ≡ true = (same_name-Decides a a).1 refl in rw (e, below_there at rest) refl

cut_back : (at rest : Path) → drop (length at) (at ++ rest) ≡ rest
cut_back [] rest = refl
cut_back (a ∷ at) rest = cut_back at rest

front_is : (at rest : Path) → take (length at) (at ++ rest) ≡ at
front_is [] rest = refl
front_is (a ∷ at) rest = ap (λ p. a ∷ p) (front_is at rest)

rest_is : (at p : Path) → is_below at p ≡ true → p ≡ at ++ drop (length at) p
rest_is at p below = let w = rest_below at p below in w.1 ∙ ap (λ r. at ++ r) (sym (cut_back at w.0) ∙ ap (λ q. drop (length at) q) (sym w.1))

-- they come as their backs do
order_back : (at p q : Path) → path_cmp (at ++ p) (at ++ q) ≡ path_cmp p q
order_back [] p q = refl
order_back (a ∷ at) p q = ap (λ o. ordering_then o (path_cmp (at ++ p) (at ++ q))) (tied_itself nat_list_cmp_total a) ∙ order_back at p q

later_below : (at : Path) (x : Name) (p : Path) → path_cmp at (at ++ x ∷ p) ≡ Less
later_below at x p = ap (λ r. path_cmp r (at ++ x ∷ p)) (sym (append-nil at)) ∙ order_back at [] (x ∷ p)

not_true : (b : Bool) → (b ≡ true → ⊥) → b ≡ false
not_true true none = absurd (none refl)
not_true false none = refl

-- what `strip_prefix` finds
stripped_is : {X : Type 0} (r : Option X) (now : X → Path) (at p : Path) → MatchOption r (pointwise same_name (take (length at) p) at ≡ false) (λ x. (pointwise same_name (take (length at) p) at ≡ true) × (now x ≡ drop (length at) p))
    → MatchOption r (is_below at p ≡ false) (λ x. p ≡ at ++ now x)
stripped_is None now at p none = not_true _ (λ below.
    let w = rest_below at p below in
    let same : take (length at) p ≡ at = ap (λ q. take (length at) q) w.1 ∙ front_is at w.0 in
    let n : false ≡ true = sym none ∙ (slice_eq-Decides same_name-Decides (take (length at) p) at _ refl).1 same in cc)
stripped_is (Some x) now at p some =
    let same : take (length at) p ≡ at = (slice_eq-Decides same_name-Decides (take (length at) p) at _ refl).0 some.0 in
    sym (take-append-drop (length at) p) ∙ ap (λ q. q ++ drop (length at) p) same ∙ ap (λ q. at ++ q) (sym some.1)

pub stripped : {X : Type 0} (r : Option X) (now : X → Path) (at p needle hay : Path) → needle ≡ at → hay ≡ p
    → MatchOption r (pointwise same_name (take (length needle) hay) needle ≡ false) (λ x. (pointwise same_name (take (length needle) hay) needle ≡ true) × (now x ≡ drop (length needle) hay) × (length (now x) + length needle ≡ length hay))
    → MatchOption r (is_below at p ≡ false) (λ x. p ≡ at ++ now x)
stripped None now at p needle hay is there cases = stripped_is None now at p (subst (λ n. pointwise same_name (take (length n) p) n ≡ false) is (subst (λ h. pointwise same_name (take (length needle) h) needle ≡ false) there cases))
stripped (Some x) now at p needle hay is there cases =
    stripped_is (Some x) now at p (subst (λ n. (pointwise same_name (take (length n) p) n ≡ true) × (now x ≡ drop (length n) p)) is (subst (λ h. (pointwise same_name (take (length needle) h) needle ≡ true) × (now x ≡ drop (length needle) h)) there (cases.0, cases.1)))

pub back_bounds : {X : Type 0} (r : Option X) (now : X → Path) (at p : Path) → IsPath p → MatchOption r (is_below at p ≡ false) (λ x. p ≡ at ++ now x) → MatchOption r (is_below at p ≡ false) (λ x. IsPath (now x))
back_bounds None now at p is none = none
back_bounds (Some x) now at p is some = IsPath-back at (now x) (subst IsPath some is)

-- ---- nodes

abbrev AreBelow : Path → Nodes → Type 0
AreBelow at m = AllByRecursion (λ e. is_below at e.0 ≡ true) m

abbrev cut : Path → Nodes → Nodes
cut at m = map (λ e. (drop (length at) e.0, e.1)) m

cut_at : (at : Path) (m : Nodes) (p : Path) → AreBelow at m → node_at (cut at m) p ≡ node_at m (at ++ p)
cut_at at [] p below = refl
cut_at at (e ∷ m) p below = by (same_or_apart (drop (length at) e.0) p) (cut_at at m p below.1)
  where
    by : (drop (length at) e.0 ≡ p) ⊎ (drop (length at) e.0 ≢ p) → node_at (cut at m) p ≡ node_at m (at ++ p) → node_at (cut at (e ∷ m)) p ≡ node_at (e ∷ m) (at ++ p)
    by (inl same) rest = node_first (drop (length at) e.0, e.1) (cut at m) p same ∙ sym (node_first e m (at ++ p) (rest_is at e.0 below.0 ∙ ap (λ r. at ++ r) same))
    by (inr apart) rest =
        node_rest (drop (length at) e.0, e.1) (cut at m) p apart ∙ rest
        ∙ sym (node_rest e m (at ++ p) (λ same. apart (append_cancel_left at (drop (length at) e.0) p (sym (rest_is at e.0 below.0) ∙ same))))

cut_later : (at p : Path) (m : Nodes) → is_below at p ≡ true → AreBelow at m → AllByRecursion (λ q. path_cmp p q ≡ Less) (paths_of m) → AllByRecursion (λ q. path_cmp (drop (length at) p) q ≡ Less) (paths_of (cut at m))
cut_later at p [] is below later = tt
cut_later at p (e ∷ m) is below later = (
  sym (order_back at (drop (length at) p) (drop (length at) e.0)) ∙ ap (λ r. path_cmp r (at ++ drop (length at) e.0)) (sym (rest_is at p is)) ∙ ap (λ r. path_cmp p r) (sym (rest_is at e.0 below.0)) ∙ later.0,
  cut_later at p m is below.1 later.1,
)

cut_ascending : (at : Path) (m : Nodes) → AreBelow at m → IsAscending (paths_of m) → IsAscending (paths_of (cut at m))
unfolding IsStrictlySortedBy
cut_ascending at [] below h = tt
cut_ascending at (e ∷ m) below h = (cut_later at e.0 m below.0 below.1 h.0, cut_ascending at m below.1 h.1)

later_take : (P : Path → Type 0) (k : ℕ) (m : Nodes) → AllByRecursion P (paths_of m) → AllByRecursion P (paths_of (take k m))
later_take P zero [] all = tt
later_take P zero (e ∷ m) all = tt
later_take P (suc k) [] all = tt
later_take P (suc k) (e ∷ m) all = (all.0, later_take P k m all.1)

ascending_take : (k : ℕ) (m : Nodes) → IsAscending (paths_of m) → IsAscending (paths_of (take k m))
unfolding IsStrictlySortedBy
ascending_take zero [] h = tt
ascending_take zero (e ∷ m) h = tt
ascending_take (suc k) [] h = tt
ascending_take (suc k) (e ∷ m) h = (later_take (λ q. path_cmp e.0 q ≡ Less) k m h.0, ascending_take k m h.1)

below_push : (at : Path) (m : Nodes) (e : Path × NodeName) → AreBelow at m → is_below at e.0 ≡ true → AreBelow at (m ++ e ∷ [])
below_push at [] e all is = (is, tt)
below_push at (x ∷ m) e all is = (all.0, below_push at m e all.1 is)

-- ---- along the nodes from the path on

-- the first of them, so many, lie below the path, and are the part so far
pub record IsCut (at : Path) (nodes : Nodes) (k : ℕ) (part : Nodes) : Type 0 where
  pub is : part ≡ cut at (take k nodes)
  pub below : AreBelow at (take k nodes)

pub cut_none : (at : Path) (nodes : Nodes) → IsCut at nodes 0 []
cut_none at [] = record { is = refl; below = tt }
cut_none at (e ∷ m) = record { is = refl; below = tt }

module _ (at : Path) (nodes : Nodes) (k : ℕ) (part : Nodes) (so : IsCut at nodes k part) (e : Path × NodeName) (inside : k < length nodes) (here : e ≡ get_or nodes k e) where
  further : take (k + 1) nodes ≡ take k nodes ++ e ∷ []
  further = take_more nodes k e inside ∙ ap (λ x. take k nodes ++ x ∷ []) (sym here)

  module _ (rest : Path) (path : e.0 ≡ at ++ rest) where
    is_below_here : is_below at e.0 ≡ true
    is_below_here = subst (λ p. is_below at p ≡ true) (sym path) (below_there at rest)

    cut_here : drop (length at) e.0 ≡ rest
    cut_here = ap (λ p. drop (length at) p) path ∙ cut_back at rest

    all_below : AreBelow at (take (k + 1) nodes)
    all_below = subst (AreBelow at) (sym further) (below_push at (take k nodes) e so.below is_below_here)

    pushed : part ++ (rest, e.1) ∷ [] ≡ cut at (take (k + 1) nodes)
    pushed =
        ap (λ m. m ++ (rest, e.1) ∷ []) so.is ∙ ap (λ r. cut at (take k nodes) ++ (r, e.1) ∷ []) (sym cut_here)
        ∙ sym (map-append (λ (x : Path × NodeName). (drop (length at) x.0, x.1)) (take k nodes) (e ∷ [])) ∙ ap (cut at) (sym further)

    pub cut_more : IsCut at nodes (k + 1) (part ++ (rest, e.1) ∷ [])
    cut_more = record { is = pushed; below = all_below }

    pub cut_fits : IsAscending (paths_of nodes) → IsAscending (paths_of part ++ rest ∷ [])
    cut_fits h =
        subst IsAscending (ap paths_of (sym pushed) ∙ map-append (λ (x : Path × NodeName). x.0) part ((rest, e.1) ∷ []))
        (cut_ascending at (take (k + 1) nodes) all_below (ascending_take (k + 1) nodes h))

-- ---- the part

from_there : (tree : Nodes) (at : Path) (nodes : Nodes) → IsFrom tree at nodes → (p : Path) → node_at nodes (at ++ p) ≡ node_at tree (at ++ p)
from_there tree at nodes from [] = subst (λ q. node_at nodes q ≡ node_at tree q) (sym (append-nil at)) (sym (from_at tree at nodes from))
from_there tree at nodes from (x ∷ p) = sym (from_past tree at (at ++ x ∷ p) nodes from (later_below at x p))

pub cut_all : (tree : Nodes) (at : Path) (nodes : Nodes) (k : ℕ) (part : Nodes) → IsFrom tree at nodes → IsCut at nodes k part → length nodes ≤ k → IsPartAt at tree part
cut_all tree at nodes k part from so over p =
    let all : take k nodes ≡ nodes = take_all k nodes over in
    ap (λ m. node_at m p) so.is ∙ cut_at at (take k nodes) p so.below ∙ ap (λ m. node_at m (at ++ p)) all ∙ from_there tree at nodes from p

take_few : (k : ℕ) (m : Nodes) → length (take k m) ≤ length m
take_few zero [] = omega arith
take_few zero (e ∷ m) = omega arith
take_few (suc k) [] = omega arith
take_few (suc k) (e ∷ m) = let r = take_few k m in omega (arith, r)

pub cut_few : (tree : Nodes) (at : Path) (nodes : Nodes) (k : ℕ) (part : Nodes) → IsFrom tree at nodes → IsCut at nodes k part → length part ≤ length tree
cut_few tree at nodes k part from so =
    let cuts : length part ≡ length (take k nodes) = ap length so.is ∙ length-map (take k nodes) (λ (x : Path × NodeName). (drop (length at) x.0, x.1)) in
    let all : length tree ≡ length from.front + length nodes = ap length from.is ∙ length-append from.front nodes in
    let fewer = take_few k nodes in
    omega (arith, cuts, all, fewer)

append_more : (m n : Nodes) (p : Path) → node_at n p ≡ None → node_at (m ++ n) p ≡ node_at m p
append_more [] n p none = none
append_more (e ∷ m) n p none = by (same_or_apart e.0 p) (append_more m n p none)
  where
    by : (e.0 ≡ p) ⊎ (e.0 ≢ p) → node_at (m ++ n) p ≡ node_at m p → node_at (e ∷ (m ++ n)) p ≡ node_at (e ∷ m) p
    by (inl same) rest = node_first e (m ++ n) p same ∙ sym (node_first e m p same)
    by (inr apart) rest = node_rest e (m ++ n) p apart ∙ rest ∙ sym (node_rest e m p apart)

there_in : (m : Nodes) (e : Path × NodeName) (n : Nodes) → node_at (m ++ e ∷ n) e.0 ≢ None
there_in [] e n none = none_of (node_first e n e.0 refl) none
there_in (x ∷ m) e n none = elim (same_or_apart x.0 e.0) [
  | inl same ↦ none_of (node_first x (m ++ e ∷ n) e.0 same) none
  | inr apart ↦ there_in m e n (sym (node_rest x (m ++ e ∷ n) e.0 apart) ∙ none)
]

-- none of nodes that start from a path comes before it
none_before : (at : Path) (m : Nodes) (p : Path) → IsAscending (paths_of m) → StartsFrom at m → node_at m p ≢ None → path_cmp p at ≢ Less
none_before at [] p h starts there less = there refl
none_before at (e ∷ m) p h starts there less = elim (same_or_apart e.0 p) [
  | inl same ↦ starts (ap (λ q. path_cmp q at) same ∙ less)
  | inr apart ↦ starts (path_order.trans e.0 p at (after_there m e.0 p (ascending_after e m h) (λ none. there (node_rest e m p apart ∙ none))) less)
]

not_some : (o : Option NodeName) → (o ≢ None → ⊥) → o ≡ None
not_some None none = refl
not_some (Some n) none = absurd (none (λ e. let x : Some n ≡ None = e in cc))

-- behind a node that doesn't lie below the path, nothing does
none_behind : (at : Path) (e : Path × NodeName) (m : Nodes) (p : Path) → IsAscending (paths_of (e ∷ m)) → path_cmp e.0 at ≢ Less → is_below at e.0 ≡ false → node_at (e ∷ m) (at ++ p) ≡ None
none_behind at e m p h starts beyond =
    node_rest e m (at ++ p) (λ same. outside (subst (λ q. is_below at q ≡ true) (sym same) (below_there at p)))
    ∙ not_some (node_at m (at ++ p)) (λ there.
    let less = after_there m e.0 (at ++ p) (ascending_after e m h) there in
    elim (not_before e.0 at starts) [
      | inl same ↦ outside (subst (λ q. is_below at q ≡ true) (sym same) (is_below-self at))
      | inr later ↦ outside (between at e.0 (at ++ p) later less (below_there at p))
    ])
  where
    outside : is_below at e.0 ≡ true → ⊥
    outside is = let n : false ≡ true = sym beyond ∙ is in cc

pub cut_stops : (tree : Nodes) (at : Path) (nodes : Nodes) (k : ℕ) (part : Nodes) → IsFrom tree at nodes → IsAscending (paths_of nodes) → IsCut at nodes k part
    → (e : Path × NodeName) → k < length nodes → e ≡ get_or nodes k e → is_below at e.0 ≡ false → IsPartAt at tree part
cut_stops tree at nodes k part from h so e inside here beyond p =
    let back = drop (k + 1) nodes in
    let around : nodes ≡ take k nodes ++ e ∷ back = sym (take-append-drop k nodes) ∙ ap (λ l. take k nodes ++ l) (drop_more nodes k e inside ∙ ap (λ y. y ∷ back) (sym here)) in
    let there : node_at nodes e.0 ≢ None = subst (λ m. node_at m e.0 ≢ None) (sym around) (there_in (take k nodes) e back) in
    let behind = ascending_left (take k nodes) (e ∷ back) (subst (λ m. IsAscending (paths_of m)) around h) in
    ap (λ m. node_at m p) so.is ∙ cut_at at (take k nodes) p so.below
    ∙ sym (append_more (take k nodes) (e ∷ back) (at ++ p) (none_behind at e back p behind (none_before at nodes e.0 h from.starts there) beyond))
    ∙ ap (λ m. node_at m (at ++ p)) (sym around) ∙ from_there tree at nodes from p
