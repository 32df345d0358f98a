-- What is found among entries in order.
use Rattle.std.proofs.Common.{◌≡◌, ◌≢◌, ◌⊎◌, inl, inr, Bool, true, false, List, [], ◌∷◌, ◌++◌, Option, Some, None, if◌then◌else◌, nat_eq, refl, sym, ◌∙◌, ap, subst}
use Rattle.std.specs.List.{AllByRecursion}
use Rattle.std.specs.List.Sorted.{IsStrictlySortedBy}
use Rattle.std.specs.Cmp.Lexicographic.{pointwise}
use Rattle.std.specs.Ordering.{is_lt}
use Rattle.std.specs.declared.cmp.Ordering.{Ordering}
use Rattle.std.specs.declared.cmp.Ordering.TheVariants.{Less, Equal, Greater}
use Rattle.std.proofs.lemmas.List.{append_assoc, append-nil}
use Rattle.std.proofs.lemmas.List.Elements.{recursion_from_All}
use Rattle.ost_types.specs.declared.node.NodeName.{NodeName}
use Rattle.ost_types.specs.Path.{Path, path_cmp, same_path}
use Rattle.ost_types.specs.PathMap.{Nodes, IsAscending, IsNode, IsPathMap, paths_of, node_at}
use Rattle.ost_types.proofs.Paths.{same_path-Decides, same_path-self, same_path-apart, same_or_apart}
use Rattle.etc_merge.specs.Entries.{AllAfter, AllBefore, IsFrom, IsTaken, StartsFrom, entry_of}
use Rattle.etc_merge.proofs.Orders.{apart_from_less, not_before, not_less_itself, path_order}

pub node_first : (e : Path × NodeName) (m : Nodes) (p : Path) → e.0 ≡ p → node_at (e ∷ m) p ≡ Some e.1
node_first e m p same = ap (λ b. if b then Some e.1 else node_at m p) (ap (λ q. same_path q p) same ∙ same_path-self p)

pub node_rest : (e : Path × NodeName) (m : Nodes) (p : Path) → e.0 ≢ p → node_at (e ∷ m) p ≡ node_at m p
node_rest e m p apart = ap (λ b. if b then Some e.1 else node_at m p) (same_path-apart e.0 p apart)

pub none_of : {A : Type 0} {o : Option A} {a : A} → o ≡ Some a → o ≡ None → ⊥
none_of is none = let n : Some _ ≡ None = sym is ∙ none in cc

pub before_later : (m : Nodes) (p q : Path) → AllBefore m p → path_cmp p q ≡ Less → AllBefore m q
before_later [] p q all less = tt
before_later (e ∷ m) p q all less = (path_order.trans e.0 p q all.0 less, before_later m p q all.1 less)

pub before_append : (m n : Nodes) (p : Path) → AllBefore m p → AllBefore n p → AllBefore (m ++ n) p
before_append [] n p a b = b
before_append (e ∷ m) n p a b = (a.0, before_append m n p a.1 b)

pub before_none : (m : Nodes) (p : Path) → AllBefore m p → node_at m p ≡ None
before_none [] p all = refl
before_none (e ∷ m) p all = node_rest e m p (apart_from_less e.0 p all.0) ∙ before_none m p all.1

pub after_none : (m : Nodes) (p : Path) → AllAfter p m → node_at m p ≡ None
after_none [] p all = refl
after_none (e ∷ m) p all = node_rest e m p (λ same. apart_from_less p e.0 all.0 (sym same)) ∙ after_none m p all.1

pub after_earlier : (m : Nodes) (p q : Path) → AllAfter q m → path_cmp p q ≡ Less → AllAfter p m
after_earlier [] p q all less = tt
after_earlier (e ∷ m) p q all less = (path_order.trans p q e.0 less all.0, after_earlier m p q all.1 less)

-- what is there comes after
pub after_there : (m : Nodes) (p q : Path) → AllAfter p m → node_at m q ≢ None → path_cmp p q ≡ Less
after_there [] p q all there = absurd (there refl)
after_there (e ∷ m) p q all there = elim (same_or_apart e.0 q) [
  | inl same ↦ subst (λ r. path_cmp p r ≡ Less) same all.0
  | inr apart ↦ after_there m p q all.1 (λ none. there (node_rest e m q apart ∙ none))
]

pub append_none : (m n : Nodes) (p : Path) → node_at m p ≡ None → node_at (m ++ n) p ≡ node_at n p
append_none [] n p none = refl
append_none (e ∷ m) n p none = elim (same_or_apart e.0 p) [
  | inl same ↦ absurd (none_of (node_first e m p same) none)
  | inr apart ↦ node_rest e (m ++ n) p apart ∙ append_none m n p (sym (node_rest e m p apart) ∙ none)
]

pub ascending_rest : (e : Path × NodeName) (m : Nodes) → IsAscending (paths_of (e ∷ m)) → IsAscending (paths_of m)
unfolding IsStrictlySortedBy
ascending_rest e m h = h.1

after_all : (p : Path) (m : Nodes) → AllByRecursion (λ q. path_cmp p q ≡ Less) (paths_of m) → AllAfter p m
after_all p [] h = tt
after_all p (e ∷ m) h = (h.0, after_all p m h.1)

pub ascending_after : (e : Path × NodeName) (m : Nodes) → IsAscending (paths_of (e ∷ m)) → AllAfter e.0 m
unfolding IsStrictlySortedBy
ascending_after e m h = after_all e.0 m h.0

pub ascending_left : (m n : Nodes) → IsAscending (paths_of (m ++ n)) → IsAscending (paths_of n)
ascending_left [] n h = h
ascending_left (e ∷ m) n h = ascending_left m n (ascending_rest e (m ++ n) h)

-- in entries that start from a path only the first may have it
pub starts_apart : (e : Path × NodeName) (m : Nodes) (p : Path) → IsAscending (paths_of (e ∷ m)) → StartsFrom p (e ∷ m) → e.0 ≢ p → node_at (e ∷ m) p ≡ None
starts_apart e m p h starts apart = node_rest e m p apart ∙ elim (not_before e.0 p starts) [
  | inl same ↦ absurd (apart same)
  | inr less ↦ after_none m p (after_earlier m p e.0 (ascending_after e m h) less)
]

-- where entries before a path are left out, what stands there and behind it stays
pub from_at : (whole : Nodes) (p : Path) (left : Nodes) → IsFrom whole p left → node_at whole p ≡ node_at left p
from_at whole p left from = ap (λ m. node_at m p) from.is ∙ append_none from.front left p (before_none from.front p from.before)

pub from_past : (whole : Nodes) (p q : Path) (left : Nodes) → IsFrom whole p left → path_cmp p q ≡ Less → node_at whole q ≡ node_at left q
from_past whole p q left from less = ap (λ m. node_at m q) from.is ∙ append_none from.front left q (before_none from.front q (before_later from.front p q from.before less))

pub from_ascending : (whole : Nodes) (p : Path) (left : Nodes) → IsFrom whole p left → IsAscending (paths_of whole) → IsAscending (paths_of left)
from_ascending whole p left from h = ascending_left from.front left (subst (λ m. IsAscending (paths_of m)) from.is h)

-- an entry that is taken is what stood there; what stood elsewhere is left
pub taken_at : (p : Path) (node : Option NodeName) (whole left : Nodes) → IsTaken p node whole left → node_at whole p ≡ node
taken_at p None whole left taken = ap (λ m. node_at m p) taken.0 ∙ after_none left p taken.1
taken_at p (Some n) whole left taken = ap (λ m. node_at m p) taken.0 ∙ node_first (p, n) left p refl

pub taken_past : (p : Path) (node : Option NodeName) (whole left : Nodes) (q : Path) → IsTaken p node whole left → p ≢ q → node_at whole q ≡ node_at left q
taken_past p None whole left q taken apart = ap (λ m. node_at m q) taken.0
taken_past p (Some n) whole left q taken apart = ap (λ m. node_at m q) taken.0 ∙ node_rest (p, n) left q apart

pub taken_ascending : (p : Path) (node : Option NodeName) (whole left : Nodes) → IsTaken p node whole left → IsAscending (paths_of whole) → IsAscending (paths_of left)
taken_ascending p node whole left taken h = ascending_left (entry_of p node) left (subst (λ m. IsAscending (paths_of m)) taken.0 h)

-- a path behind all entries may come last
more_all : (P : Path → Type 0) (ps : List Path) (p : Path) → AllByRecursion P ps → P p → AllByRecursion P (ps ++ p ∷ [])
more_all P [] p all here = (here, tt)
more_all P (q ∷ ps) p all here = (all.0, more_all P ps p all.1 here)

pub ascending_before : (m : Nodes) (p : Path) → IsAscending (paths_of m) → AllBefore m p → IsAscending (paths_of m ++ p ∷ [])
unfolding IsStrictlySortedBy
ascending_before [] p h all = (tt, tt)
ascending_before (e ∷ m) p h all = (more_all (λ q. path_cmp e.0 q ≡ Less) (paths_of m) p h.0 all.0, ascending_before m p h.1 all.1)

paths_append : (m : Nodes) (p : Path) (n : NodeName) → paths_of (m ++ (p, n) ∷ []) ≡ paths_of m ++ p ∷ []
paths_append [] p n = refl
paths_append (e ∷ m) p n = ap (λ ps. e.0 ∷ ps) (paths_append m p n)

pub ascending_put : (m : Nodes) (p : Path) (node : Option NodeName) → IsAscending (paths_of m) → AllBefore m p → IsAscending (paths_of (m ++ entry_of p node))
ascending_put m p None h all = subst (λ l. IsAscending (paths_of l)) (sym (append-nil m)) h
ascending_put m p (Some n) h all = subst IsAscending (sym (paths_append m p n)) (ascending_before m p h all)

-- what is at a path is a node of the entries
pub node_is : (m : Nodes) (p : Path) (n : NodeName) → AllByRecursion (λ e. IsNode e.1) m → node_at m p ≡ Some n → IsNode n
node_is [] p n all is = let none : None ≡ Some n = is in cc
node_is (e ∷ m) p n all is = elim (same_or_apart e.0 p) [
  | inl same ↦ subst IsNode (let v : Some e.1 ≡ Some n = sym (node_first e m p same) ∙ is in cc) all.0
  | inr apart ↦ node_is m p n all.1 (sym (node_rest e m p apart) ∙ is)
]

pub map_node : (m : Nodes) (p : Path) (n : NodeName) → IsPathMap m → node_at m p ≡ Some n → IsNode n
map_node m p n map is = node_is m p n (recursion_from_All (λ e. IsNode e.1) m map.nodes) is

-- ---- by what code tells

pub less_of : (o : Ordering) → is_lt o ≡ true → o ≡ Less
less_of Less is = refl
less_of Equal is = let n : false ≡ true = is in cc
less_of Greater is = let n : false ≡ true = is in cc

pub not_less_of : (o : Ordering) → is_lt o ≡ false → o ≢ Less
not_less_of Less is = let n : true ≡ false = is in cc
not_less_of Equal is = λ e. cc
not_less_of Greater is = λ e. cc

pub from_more : (whole front left : Nodes) (e : Path × NodeName) (rest : Nodes) (p : Path) → whole ≡ front ++ left → left ≡ e ∷ rest → AllBefore front p → path_cmp e.0 p ≡ Less → (f : Nodes) × (whole ≡ f ++ rest) × AllBefore f p
from_more whole front left e rest p is cut all less =
    (front ++ e ∷ [], is ∙ ap (λ m. front ++ m) cut ∙ sym (append_assoc front (e ∷ []) rest), before_append front (e ∷ []) p all (less, tt))

pub from_here : (whole left : Nodes) (e : Path × NodeName) (rest : Nodes) (p : Path) → (front : Nodes) × (whole ≡ front ++ left) × AllBefore front p → left ≡ e ∷ rest → path_cmp e.0 p ≢ Less → IsFrom whole p left
from_here whole left e rest p (front, is, all) cut starts = record { front = front; is = is; before = all; starts = subst (StartsFrom p) (sym cut) starts }

pub same_by : (p q : Path) (b : Bool) → b ≡ pointwise (pointwise nat_eq) p q → b ≡ true → p ≡ q
unfolding same_path
same_by p q b told is = (same_path-Decides p q).0 (sym told ∙ is)

pub apart_by : (p q : Path) (b : Bool) → b ≡ pointwise (pointwise nat_eq) p q → b ≡ false → p ≢ q
unfolding same_path
apart_by p q b told not same = let n : false ≡ true = sym not ∙ told ∙ (same_path-Decides p q).1 same in cc
