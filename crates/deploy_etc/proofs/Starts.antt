-- The nodes of a tree without those before a path.
use Rattle.std.proofs.Common.{◌≡◌, ◌⊎◌, inl, inr, ℕ, zero, suc, ◌<◌, ◌≤◌, true, false, [], ◌∷◌, length, take, drop, get_or, refl, sym, ◌∙◌, ap, subst, arith}
use Rattle.std.specs.List.Sorted.{IsPartitionedBy, IsPartitionPoint}
use Rattle.std.specs.Ordering.{is_lt}
use Rattle.std.specs.declared.cmp.Ordering.TheVariants.{Less}
use Rattle.std.proofs.lemmas.List.{take-append-drop}
use Rattle.std.proofs.lemmas.List.Elements.{All-drop}
use Rattle.std.proofs.lemmas.Map.Keys.{Less-from_sorted}
use Rattle.ost_types.specs.declared.node.NodeName.{NodeName}
use Rattle.ost_types.specs.Path.{Path, path_cmp}
use Rattle.ost_types.specs.PathMap.{Nodes, IsAscending, IsNode, IsPathMap, paths_of}
use Rattle.etc_merge.specs.Entries.{AllBefore, IsFrom, StartsFrom}
use Rattle.etc_merge.proofs.Finds.{ascending_left, less_of, not_less_of}
use Rattle.etc_merge.proofs.Orders.{path_order}

path_at : (m : Nodes) (i : ℕ) (e : Path × NodeName) → get_or (paths_of m) i e.0 ≡ (get_or m i e).0
path_at [] i e = refl
path_at (x ∷ m) zero e = refl
path_at (x ∷ m) (suc i) e = path_at m i e

length-paths_of : (m : Nodes) → length (paths_of m) ≡ length m
length-paths_of [] = refl
length-paths_of (x ∷ m) = let r = length-paths_of m in omega (arith, r)

less_at : (m : Nodes) (i j : ℕ) (e : Path × NodeName) → IsAscending (paths_of m) → i < j → j < length m → path_cmp (get_or m i e).0 (get_or m j e).0 ≡ Less
less_at m i j e h less inside =
    let r = Less-from_sorted path_cmp (paths_of m) i j e.0 h less (omega (arith, length-paths_of m, inside)) in
    ap (λ q. path_cmp q (get_or m j e).0) (sym (path_at m i e)) ∙ ap (λ q. path_cmp (get_or (paths_of m) i e.0) q) (sym (path_at m j e)) ∙ r

apart : (i j : ℕ) → i ≤ j → (i < j) ⊎ (i ≡ j)
apart i j le = grind arith

-- those before the path come first
pub partitioned : (m : Nodes) (at : Path) → IsAscending (paths_of m) → IsPartitionedBy (λ e. is_lt (path_cmp e.0 at)) m
partitioned m at h i j d le inside is = elim (apart i j le) [
  | inl less ↦ ap is_lt (path_order.trans (get_or m i d).0 (get_or m j d).0 at (less_at m i j d h less inside) (less_of _ is))
  | inr same ↦ ap (λ n. is_lt (path_cmp (get_or m n d).0 at)) same ∙ is
]

before_first : (m : Nodes) (at : Path) (n : ℕ) → ((k : ℕ) (d : Path × NodeName) → k < n → k < length m → is_lt (path_cmp (get_or m k d).0 at) ≡ true) → AllBefore (take n m) at
before_first [] at zero all = tt
before_first [] at (suc n) all = tt
before_first (e ∷ m) at zero all = tt
before_first (e ∷ m) at (suc n) all = (less_of _ (all 0 e (omega arith) (omega arith)), before_first m at n (λ k d less inside. all (suc k) d (omega (arith, less)) (omega (arith, inside))))

starts_there : (m : Nodes) (at : Path) (n : ℕ) → ((k : ℕ) (d : Path × NodeName) → n ≤ k → k < length m → is_lt (path_cmp (get_or m k d).0 at) ≡ false) → StartsFrom at (drop n m)
starts_there [] at zero all = tt
starts_there [] at (suc n) all = tt
starts_there (e ∷ m) at zero all = not_less_of _ (all 0 e (omega arith) (omega arith))
starts_there (e ∷ m) at (suc n) all = starts_there m at n (λ k d le inside. all (suc k) d (omega (arith, le)) (omega (arith, inside)))

pub from_start : (m : Nodes) (at : Path) (n : ℕ) → IsPartitionPoint (λ e. is_lt (path_cmp e.0 at) ≡ true) (λ e. is_lt (path_cmp e.0 at) ≡ false) m n → IsFrom m at (drop n m)
from_start m at n parts = record {
  front = take n m;
  is = sym (take-append-drop n m);
  before = before_first m at n (λ k d less inside. parts.0 k d (omega arith) less);
  starts = starts_there m at n parts.1;
}

pub map_from : (m : Nodes) (n : ℕ) → IsPathMap m → IsPathMap (drop n m)
map_from m n map = record {
  ascending = ascending_left (take n m) (drop n m) (subst (λ l. IsAscending (paths_of l)) (sym (take-append-drop n m)) map.ascending);
  nodes = All-drop (λ e. IsNode e.1) n m map.nodes;
}
