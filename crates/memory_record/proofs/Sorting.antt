-- Paths, sorted and each once.
use Rattle.std.proofs.Common.{◌≡◌, ◌↔◌, nat_eq, List, [], Contains, sym, subst}
use Rattle.std.specs.Cmp.Lexicographic.{pointwise, slice_cmp, texts_ties, lists_ties}
use Rattle.std.specs.Ordering.{nat_cmp}
use Rattle.std.specs.List.Sorted.{IsPermutation, IsSorted, IsStrictlySortedBy}
use Rattle.std.specs.List.Retain.{IsFiltered, DiffersFromLast}
use Rattle.std.proofs.lemmas.Cmp.{nat_list_cmp_total, nat_list_eq_equiv, lists_total, lists_equiv}
use Rattle.std.proofs.lemmas.List.Filters.{dedup_is}
use Rattle.std.proofs.lemmas.List.Kept.{IsStrictlySortedBy-dedup, Contains-from_dedup, Contains-dedup}
use Rattle.std.proofs.lemmas.List.Sorted.{Contains-permutation, IsPermutation-sym}
use Rattle.ost_types.specs.Path.{Path, path_cmp, same_path}
use Rattle.ost_types.proofs.Paths.{same_path-Decides}

pub sorted_paths : (sorted kept : List Path) → IsSorted (slice_cmp (slice_cmp nat_cmp)) sorted → IsFiltered (DiffersFromLast (pointwise (pointwise nat_eq))) [] sorted kept → IsStrictlySortedBy path_cmp kept
sorted_paths sorted kept in_order filtered =
    subst (IsStrictlySortedBy path_cmp) (sym (dedup_is (pointwise (pointwise nat_eq)) sorted kept filtered)) (IsStrictlySortedBy-dedup (lists_total nat_list_cmp_total) (lists_ties (slice_cmp nat_cmp) texts_ties) sorted in_order)

pub same_paths : (paths sorted kept : List Path) (p : Path) → IsPermutation paths sorted → IsFiltered (DiffersFromLast (pointwise (pointwise nat_eq))) [] sorted kept → (all : List Path) → paths ≡ all → Contains kept p ↔ Contains all p
unfolding same_path
same_paths paths sorted kept p permuted filtered all is =
    let e = dedup_is (pointwise (pointwise nat_eq)) sorted kept filtered in (
      λ has. subst (λ l. Contains l p) is (Contains-permutation sorted paths p (IsPermutation-sym paths sorted permuted) (Contains-from_dedup (pointwise (pointwise nat_eq)) sorted p (subst (λ l. Contains l p) e has))),
      λ has. subst (λ l. Contains l p) (sym e) (Contains-dedup (lists_equiv nat_list_eq_equiv) (λ a b same. (same_path-Decides a b).0 same) sorted p (Contains-permutation paths sorted p permuted (subst (λ l. Contains l p) (sym is) has))),
    )
