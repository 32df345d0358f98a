-- What a part of a map has, where its paths ascend.
use Rattle.std.proofs.Common.{◌≡◌, ◌≢◌, ◌⊎◌, inl, inr, ℕ, zero, suc, ◌<◌, Bool, true, false, [], ◌∷◌, ◌++◌, length, take, get_or, Some, None, if◌then◌else◌, refl, sym, ◌∙◌, ap, subst, arith}
use Rattle.std.specs.List.{AllByRecursion, Contains}
use Rattle.std.specs.List.Sorted.{IsStrictlySortedBy}
use Rattle.std.specs.Cmp.{IsTotalOrder}
use Rattle.std.specs.Ordering.{ordering_then}
use Rattle.std.specs.declared.cmp.Ordering.TheVariants.{Less, Equal}
use Rattle.std.proofs.lemmas.Cmp.{nat_list_cmp_total, lists_total, tied_itself}
use Rattle.ost_types.specs.declared.node.NodeName.{NodeName}
use Rattle.ost_types.specs.Path.{Name, Path, path_cmp, same_path, under}
use Rattle.ost_types.specs.PathMap.{Nodes, IsAscending, paths_of, node_at}
use Rattle.ost_types.proofs.Paths.{same_or_apart, same_path-self, same_path-apart}

path_order : IsTotalOrder path_cmp
path_order = lists_total nat_list_cmp_total

not_itself : (p q : Path) → path_cmp p q ≡ Less → p ≢ q
not_itself p q less same =
    let f : path_cmp p p ≡ Equal = tied_itself path_order p in
    let g : Less ≡ Equal = sym (ap (λ r. path_cmp p r) same ∙ less) ∙ f in
    cc

-- a folder comes before what is in it
folder_first : (f : Path) (x : Name) → path_cmp f (under f x) ≡ Less
folder_first [] x = refl
folder_first (a ∷ f) x = ap (λ o. ordering_then o (path_cmp f (under f x))) (tied_itself nat_list_cmp_total a) ∙ folder_first f x

-- ---- one more pair

pub push_here : (m : Nodes) (e : Path × NodeName) → node_at m e.0 ≡ None → node_at (m ++ e ∷ []) e.0 ≡ Some e.1
push_here [] e none = ap (λ b. if b then Some e.1 else None) (same_path-self e.0)
push_here (x ∷ m) e none = pick (same_path x.0 e.0) none (push_here m e)
  where
    pick : (b : Bool) → (if b then Some x.1 else node_at m e.0) ≡ None → (node_at m e.0 ≡ None → node_at (m ++ e ∷ []) e.0 ≡ Some e.1) → (if b then Some x.1 else node_at (m ++ e ∷ []) e.0) ≡ Some e.1
    pick true is rest = let n : Some x.1 ≡ None = is in cc
    pick false is rest = rest is

pub push_apart : (m : Nodes) (e : Path × NodeName) (p : Path) → e.0 ≢ p → node_at (m ++ e ∷ []) p ≡ node_at m p
push_apart [] e p apart = ap (λ b. if b then Some e.1 else None) (same_path-apart e.0 p apart)
push_apart (x ∷ m) e p apart = ap (λ z. if same_path x.0 p then Some x.1 else z) (push_apart m e p apart)

-- ---- by numbers

first_here : (x : Path × NodeName) (m : Nodes) (p : Path) → x.0 ≡ p → node_at (x ∷ m) p ≡ Some x.1
first_here x m p same = ap (λ b. if b then Some x.1 else node_at m p) (ap (λ q. same_path q p) same ∙ same_path-self p)

first_apart : (x : Path × NodeName) (m : Nodes) (p : Path) → x.0 ≢ p → node_at (x ∷ m) p ≡ node_at m p
first_apart x m p apart = ap (λ b. if b then Some x.1 else node_at m p) (same_path-apart x.0 p apart)

each_at : (P : Path → Type 0) (m : Nodes) (k : ℕ) (e : Path × NodeName) → AllByRecursion P (paths_of m) → k < length m → get_or m k e ≡ e → P e.0
each_at P [] k e all inside is = absurd (omega (arith, inside))
each_at P (x ∷ m) zero e all inside is = subst (λ (y : Path × NodeName). P y.0) is all.0
each_at P (x ∷ m) (suc k) e all inside is = each_at P m k e all.1 (omega (arith, inside)) is

none_above : (m : Nodes) (p : Path) → AllByRecursion (λ q. path_cmp p q ≡ Less) (paths_of m) → node_at m p ≡ None
none_above [] p all = refl
none_above (x ∷ m) p all = first_apart x m p (λ same. not_itself p x.0 all.0 (sym same)) ∙ none_above m p all.1

later : (p q : Path) (m : Nodes) → path_cmp p q ≡ Less → AllByRecursion (λ r. path_cmp q r ≡ Less) (paths_of m) → AllByRecursion (λ r. path_cmp p r ≡ Less) (paths_of m)
later p q [] less all = tt
later p q (x ∷ m) less all = (path_order.trans p q x.0 less all.0, later p q m less all.1)

-- the pair with this number is found in the map, and not before it
pub found_at : (m : Nodes) (k : ℕ) (e : Path × NodeName) → IsAscending (paths_of m) → k < length m → get_or m k e ≡ e → node_at m e.0 ≡ Some e.1
unfolding IsStrictlySortedBy
found_at [] k e h inside is = absurd (omega (arith, inside))
found_at (x ∷ m) zero e h inside is = subst (λ (y : Path × NodeName). node_at (x ∷ m) y.0 ≡ Some y.1) is (first_here x m x.0 refl)
found_at (x ∷ m) (suc k) e h inside is =
    first_apart x m e.0 (not_itself x.0 e.0 (each_at (λ q. path_cmp x.0 q ≡ Less) m k e h.0 (omega (arith, inside)) is)) ∙ found_at m k e h.1 (omega (arith, inside)) is

pub none_before : (m : Nodes) (k : ℕ) (e : Path × NodeName) → IsAscending (paths_of m) → k < length m → get_or m k e ≡ e → node_at (take k m) e.0 ≡ None
unfolding IsStrictlySortedBy
none_before [] k e h inside is = absurd (omega (arith, inside))
none_before (x ∷ m) zero e h inside is = refl
none_before (x ∷ m) (suc k) e h inside is =
    first_apart x (take k m) e.0 (not_itself x.0 e.0 (each_at (λ q. path_cmp x.0 q ≡ Less) m k e h.0 (omega (arith, inside)) is)) ∙ none_before m k e h.1 (omega (arith, inside)) is

-- what the map has at a lesser path, it has before that number
pub found_before : (m : Nodes) (k : ℕ) (e : Path × NodeName) (f : Path) (n : NodeName) → IsAscending (paths_of m) → k < length m → get_or m k e ≡ e
    → path_cmp f e.0 ≡ Less → node_at m f ≡ Some n → node_at (take k m) f ≡ Some n
unfolding IsStrictlySortedBy
found_before [] k e f n h inside is less has = absurd (omega (arith, inside))
found_before (x ∷ m) zero e f n h inside is less has =
    let first : path_cmp f x.0 ≡ Less = ap (λ (y : Path × NodeName). path_cmp f y.0) is ∙ less in
    let none : node_at (x ∷ m) f ≡ None = none_above (x ∷ m) f (first, later f x.0 m first h.0) in
    let no : None ≡ Some n = sym none ∙ has in
    cc
found_before (x ∷ m) (suc k) e f n h inside is less has = pick (same_path x.0 f) has (found_before m k e f n h.1 (omega (arith, inside)) is less)
  where
    pick : (b : Bool) → (if b then Some x.1 else node_at m f) ≡ Some n → (node_at m f ≡ Some n → node_at (take k m) f ≡ Some n) → (if b then Some x.1 else node_at (take k m) f) ≡ Some n
    pick true here rest = here
    pick false there rest = rest there

-- the folder of a path comes before it
pub folder_before : (m : Nodes) (k : ℕ) (e : Path × NodeName) (f : Path) (x : Name) (n : NodeName) → IsAscending (paths_of m) → k < length m → get_or m k e ≡ e
    → e.0 ≡ under f x → node_at m f ≡ Some n → node_at (take k m) f ≡ Some n
folder_before m k e f x n h inside is at has = found_before m k e f n h inside is (ap (λ q. path_cmp f q) at ∙ folder_first f x) has

-- the root comes first
pub root_first : (m : Nodes) (e : Path × NodeName) (n : NodeName) → IsAscending (paths_of m) → 0 < length m → get_or m 0 e ≡ e → node_at m [] ≡ Some n → (e.0 ≡ []) × (e.1 ≡ n)
root_first m e n h inside is has =
    let root = at e.0 (λ less. let no : None ≡ Some n = found_before m 0 e [] n h inside is less has in cc) in
    let found : node_at m [] ≡ Some e.1 = ap (node_at m) (sym root) ∙ found_at m 0 e h inside is in
    let same : Some e.1 ≡ Some n = sym found ∙ has in
    (root, cc)
  where
    at : (p : Path) → (path_cmp [] p ≡ Less → ⊥) → p ≡ []
    at [] none = refl
    at (a ∷ p) none = absurd (none refl)

pub some_first : (m : Nodes) (p : Path) (n : NodeName) → node_at m p ≡ Some n → 0 < length m
some_first [] p n has = let no : None ≡ Some n = has in cc
some_first (x ∷ m) p n has = omega arith

-- ---- the map and its part, and its pairs

pub part_found : (m : Nodes) (k : ℕ) (p : Path) (n : NodeName) → node_at (take k m) p ≡ Some n → node_at m p ≡ Some n
part_found [] zero p n has = has
part_found [] (suc k) p n has = has
part_found (x ∷ m) zero p n has = let no : None ≡ Some n = has in cc
part_found (x ∷ m) (suc k) p n has = pick (same_path x.0 p) has (part_found m k p n)
  where
    pick : (b : Bool) → (if b then Some x.1 else node_at (take k m) p) ≡ Some n → (node_at (take k m) p ≡ Some n → node_at m p ≡ Some n) → (if b then Some x.1 else node_at m p) ≡ Some n
    pick true here rest = here
    pick false there rest = rest there

-- A pair is in the map exactly where the path's node is that one.
pub found : (m : Nodes) (p : Path) (n : NodeName) → IsAscending (paths_of m) → Contains m (p, n) → node_at m p ≡ Some n
found m p n h has = found_at m has.0 (p, n) h has.1 has.2

pub found_back : (m : Nodes) (p : Path) (n : NodeName) → node_at m p ≡ Some n → Contains m (p, n)
found_back [] p n has = let no : None ≡ Some n = has in cc
found_back (x ∷ m) p n has = by (same_or_apart x.0 p) (found_back m p n)
  where
    by : (x.0 ≡ p) ⊎ (x.0 ≢ p) → (node_at m p ≡ Some n → Contains m (p, n)) → Contains (x ∷ m) (p, n)
    by (inl same) rest =
        let node : Some x.1 ≡ Some n = sym (first_here x m p same) ∙ has in
        let is : x.1 ≡ n = cc in
        (0, omega arith, λ j. (same j, is j))
    by (inr apart) rest = let r = rest (sym (first_apart x m p apart) ∙ has) in (suc r.0, omega (arith, r.1), r.2)
