-- Lists of paths in order, and what is found among their pairs.
use Rattle.std.proofs.Common.{◌≡◌, ◌≢◌, ◌⊎◌, inl, inr, ℕ, zero, suc, ◌-◌, ◌<◌, ◌≤◌, Bool, true, false, List, [], ◌∷◌, ◌++◌, length, get_or, Some, None, Result, Ok, Err, if◌then◌else◌, IsTrue, refl, sym, ◌∙◌, ap, arith}
use Rattle.std.specs.Prelude.{◌↔◌, MatchResult}
use Rattle.std.specs.List.{AllByRecursion}
use Rattle.std.specs.List.Sorted.{IsStrictlySortedBy, IsNonDecreasingBy, IsBinarySearchResult, IsSearchInRange}
use Rattle.std.specs.Ordering.{ordering_index, is_lt}
use Rattle.std.specs.Cmp.{IsTotalOrder}
use Rattle.std.specs.FinMap.{nat_cmp-IsAntisymmetric, slice_cmp-IsAntisymmetric}
use Rattle.std.specs.declared.cmp.Ordering.{Ordering}
use Rattle.std.specs.declared.cmp.Ordering.TheVariants.{Less, Equal, Greater}
use Rattle.std.proofs.lemmas.Cmp.{nat_list_cmp_total, lists_total}
use Rattle.std.proofs.lemmas.Map.Keys.{Less-from_sorted}
use Rattle.ost_types.specs.Path.{Path, path_cmp, same_path}
use Rattle.ost_types.specs.PathMap.{Nodes, IsAscending, IsPathMap, paths_of, node_at}
use Rattle.ost_types.specs.declared.node.NodeName.{NodeName}
use Rattle.ost_types.proofs.Paths.{same_path-self, same_path-apart}

path_order : IsTotalOrder path_cmp
path_order = lists_total nat_list_cmp_total

same_from_Equal : (p q : Path) → path_cmp p q ≡ Equal → p ≡ q
same_from_Equal p q e = slice_cmp-IsAntisymmetric (slice_cmp-IsAntisymmetric nat_cmp-IsAntisymmetric) p q e

not_less_itself : (p : Path) → path_cmp p p ≡ Less → ⊥
not_less_itself p e = let f = path_order.antisymm p p in let g : Less ≡ Greater = sym e ∙ rw (f, e) refl in cc

AllByRecursion-more : (P : Path → Type 0) (ps : List Path) (p : Path) → AllByRecursion P ps → P p → AllByRecursion P (ps ++ p ∷ [])
AllByRecursion-more P [] p h g = (g, tt)
AllByRecursion-more P (q ∷ ps) p h g = (h.0, AllByRecursion-more P ps p h.1 g)

AllByRecursion-last : (P : Path → Type 0) (ps : List Path) (p : Path) → AllByRecursion P (ps ++ p ∷ []) → P p
AllByRecursion-last P [] p h = h.0
AllByRecursion-last P (q ∷ ps) p h = AllByRecursion-last P ps p h.1

last_of : Path → List Path → Path
last_of p [] = p
last_of p (q ∷ ps) = last_of q ps

-- a path may come behind a list in order exactly where it is above the last one
ascending_push : (q : Path) (ps : List Path) (p : Path) → IsAscending (q ∷ ps) → path_cmp (last_of q ps) p ≡ Less → IsAscending ((q ∷ ps) ++ p ∷ [])
unfolding IsStrictlySortedBy last_of
ascending_push q [] p h less = ((less, tt), (tt, tt))
ascending_push q (r ∷ ps) p h less =
    let rest = ascending_push r ps p h.1 less in
    let below : path_cmp r p ≡ Less = AllByRecursion-last (λ s. path_cmp r s ≡ Less) ps p rest.0 in
    (AllByRecursion-more (λ s. path_cmp q s ≡ Less) (r ∷ ps) p h.0 (path_order.trans q r p h.0.0 below), rest)

ascending_last : (q : Path) (ps : List Path) (p : Path) → IsAscending ((q ∷ ps) ++ p ∷ []) → path_cmp (last_of q ps) p ≡ Less
unfolding IsStrictlySortedBy last_of
ascending_last q [] p h = h.0.0
ascending_last q (r ∷ ps) p h = ascending_last r ps p h.1

last_at : (q : Path) (ps : List Path) (d : Path) → get_or (q ∷ ps) (length ps) d ≡ last_of q ps
unfolding last_of
last_at q [] d = refl
last_at q (r ∷ ps) d = last_at r ps d

path_at : (m : Nodes) (i : ℕ) (e : Path × NodeName) → get_or (paths_of m) i e.0 ≡ (get_or m i e).0
path_at [] i e = refl
path_at (x ∷ m) zero e = refl
path_at (x ∷ m) (suc i) e = path_at m i e

length-paths_of : (m : Nodes) → length (paths_of m) ≡ length m
length-paths_of [] = refl
length-paths_of (x ∷ m) = let r = length-paths_of m in omega (arith, r)

pub fits_above : (m : Nodes) (e : Path × NodeName) (p : Path) → IsPathMap m → 0 < length m → e ≡ get_or m (length m - 1) e → (path_cmp e.0 p ≡ Less) ↔ IsAscending (paths_of m ++ p ∷ [])
fits_above [] e p h some is = absurd (omega (arith, some))
fits_above (x ∷ m) e p h some is =
    let count : length (x ∷ m) - 1 ≡ length (paths_of m) = omega (arith, length-paths_of m) in
    let at : e.0 ≡ last_of x.0 (paths_of m) = ap (λ y. y.0) is ∙ sym (path_at (x ∷ m) (length (x ∷ m) - 1) e) ∙ ap (λ i. get_or (x.0 ∷ paths_of m) i e.0) count ∙ last_at x.0 (paths_of m) e.0 in (
      λ less. ascending_push x.0 (paths_of m) p h.ascending (ap (λ q. path_cmp q p) (sym at) ∙ less),
      λ all. ap (λ q. path_cmp q p) at ∙ ascending_last x.0 (paths_of m) p all,
    )

-- any path may be the first one
pub fits_first : (m : Nodes) (p : Path) → length m ≤ 0 → IsAscending (paths_of m ++ p ∷ [])
unfolding IsStrictlySortedBy
fits_first [] p none = (tt, tt)
fits_first (x ∷ m) p none = absurd (omega (arith, none))

pub tests_less : (b : Bool) (o r : Ordering) → b ≡ is_lt o → o ≡ r → (IsTrue b → r ≡ Less) × (r ≡ Less → IsTrue b)
tests_less b o Less e f = (λ _. refl, λ _. e ∙ ap is_lt f)
tests_less b o Equal e f = (λ t. let n : true ≡ false = sym t ∙ e ∙ ap is_lt f in cc, λ t. cc)
tests_less b o Greater e f = (λ t. let n : true ≡ false = sym t ∙ e ∙ ap is_lt f in cc, λ t. cc)

pub ascending_none : IsAscending []
unfolding IsStrictlySortedBy
ascending_none = tt

rise : (a b p : Path) → path_cmp a b ≡ Less → ordering_index (path_cmp a p) ≤ ordering_index (path_cmp b p)
rise a b p less = go (path_cmp b p) refl
  where
    top : (o : Ordering) → ordering_index o ≤ 2
    top Less = omega arith
    top Equal = omega arith
    top Greater = omega arith

    go : (o : Ordering) → path_cmp b p ≡ o → ordering_index (path_cmp a p) ≤ ordering_index o
    go Less e = rw (path_order.trans a b p less e) (omega arith)
    go Equal e = rw (ap (λ q. path_cmp a q) (sym (same_from_Equal b p e)) ∙ less) (omega arith)
    go Greater e = top (path_cmp a p)

less_at : (m : Nodes) (i j : ℕ) (e : Path × NodeName) → IsAscending (paths_of m) → i < j → j < length m → path_cmp (get_or m i e).0 (get_or m j e).0 ≡ Less
less_at m i j e h less inside =
    let r = Less-from_sorted path_cmp (paths_of m) i j e.0 h less (omega (arith, length-paths_of m, inside)) in
    ap (λ q. path_cmp q (get_or m j e).0) (sym (path_at m i e)) ∙ ap (λ q. path_cmp (get_or (paths_of m) i e.0) q) (sym (path_at m j e)) ∙ r

comparisons_rise : (m : Nodes) (p : Path) → IsAscending (paths_of m) → IsNonDecreasingBy (λ e. ordering_index (path_cmp e.0 p)) m
comparisons_rise m p h i j e le inside = elim (apart i j le) [
  | inl less ↦ rise (get_or m i e).0 (get_or m j e).0 p (less_at m i j e h less inside)
  | inr same ↦ rw same (omega arith)
]
  where
    apart : (i j : ℕ) → i ≤ j → (i < j) ⊎ (i ≡ j)
    apart i j le = grind arith

node_at-first : (e : Path × NodeName) (m : Nodes) (p : Path) → e.0 ≡ p → node_at (e ∷ m) p ≡ Some e.1
node_at-first e m p same = ap (λ b. if b then Some e.1 else node_at m p) (ap (λ q. same_path q p) same ∙ same_path-self p)

node_at-rest : (e : Path × NodeName) (m : Nodes) (p : Path) → e.0 ≢ p → node_at (e ∷ m) p ≡ node_at m p
node_at-rest e m p apart = ap (λ b. if b then Some e.1 else node_at m p) (same_path-apart e.0 p apart)

pub node_at-found : (m : Nodes) (p : Path) (i : ℕ) (e : Path × NodeName) → IsAscending (paths_of m) → i < length m → path_cmp (get_or m i e).0 p ≡ Equal → node_at m p ≡ Some (get_or m i e).1
unfolding IsStrictlySortedBy
node_at-found [] p i e h inside found = absurd (omega (arith, inside))
node_at-found (x ∷ m) p zero e h inside found = node_at-first x m p (same_from_Equal x.0 p found)
node_at-found (x ∷ m) p (suc i) e h inside found =
    let here = same_from_Equal (get_or m i e).0 p found in
    let below : path_cmp x.0 (get_or m i e).0 ≡ Less = less_at (x ∷ m) 0 (suc i) e h (omega arith) inside in
    node_at-rest x m p (λ same. not_less_itself p (ap (λ q. path_cmp q p) (sym same) ∙ ap (λ q. path_cmp x.0 q) (sym here) ∙ below)) ∙ node_at-found m p i e h.1 (omega (arith, inside)) found

pub node_at-none : (m : Nodes) (p : Path) → ((i : ℕ) (e : Path × NodeName) → i < length m → path_cmp (get_or m i e).0 p ≡ Equal → ⊥) → node_at m p ≡ None
node_at-none [] p none = refl
node_at-none (x ∷ m) p none =
    node_at-rest x m p (λ same. none 0 x (omega arith) (ap (λ q. path_cmp q p) same ∙ itself p)) ∙ node_at-none m p (λ i e inside. none (suc i) e (omega (arith, inside)))
  where
    itself : (p : Path) → path_cmp p p ≡ Equal
    itself p = go (path_cmp p p) refl
      where
        go : (o : Ordering) → path_cmp p p ≡ o → o ≡ Equal
        go Less e = absurd (not_less_itself p e)
        go Equal e = refl
        go Greater e = absurd (not_less_itself p (path_order.antisymm p p ∙ rw e refl))

-- what a binary search finds
pub searched : (m : Nodes) (p : Path) (r : Result ℕ ℕ) → IsAscending (paths_of m) → IsSearchInRange r (length m) → IsBinarySearchResult (λ e. path_cmp e.0 p) m r → MatchResult r (λ i. (e : Path × NodeName) → node_at m p ≡ Some (get_or m i e).1) (λ _. node_at m p ≡ None)
searched m p (Ok at) h inside found = λ e. node_at-found m p at e h inside (found e)
searched m p (Err at) h inside parted =
    let parts = parted (comparisons_rise m p h) in
    node_at-none m p (λ i e less equal. elim (side i at) [
      | inl below ↦ let l = parts.0 i e (omega arith) below in let n : Less ≡ Equal = sym l ∙ equal in cc
      | inr above ↦ let g = parts.1 i e above less in let n : Greater ≡ Equal = sym g ∙ equal in cc
    ])
  where
    side : (i at : ℕ) → (i < at) ⊎ (at ≤ i)
    side i at = grind arith
