use Rattle.std.proofs.Common.{◌∙◌, sym, subst, List, ℕ, nat_eq}
use Rattle.std.proofs.lemmas.Cmp.{nat_list_cmp_total}
use Rattle.std.proofs.lemmas.List.Filters.{dedup_is}
use Rattle.std.proofs.lemmas.List.Kept.{IsStrictlySortedBy-dedup}
use Rattle.std.specs.Cmp.Lexicographic.{pointwise, slice_cmp, texts_ties}
use Rattle.std.specs.List.Sorted.{IsStrictlySortedBy}
use Rattle.std.specs.Ordering.{nat_cmp}
use Rattle.fs_native.proofs.folder.ascending.Goals as goal

pub returns : goal.returns
returns c =
    subst (λ (l : List (List ℕ)). IsStrictlySortedBy (slice_cmp nat_cmp) l)
    (sym (c.from_vec.ensures ∙ dedup_is (pointwise nat_eq) _ _ c.dedup.ensures.filtered))
    (IsStrictlySortedBy-dedup nat_list_cmp_total texts_ties _ c.sort_unstable.ensures.sorted)
