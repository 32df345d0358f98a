-- Items that ascend, and one more behind them.
use Rattle.std.proofs.Common.{◌≡◌, List, [], ◌∷◌, ◌++◌, refl, ap}
use Rattle.std.specs.List.{AllByRecursion}
use Rattle.std.specs.List.Sorted.{IsStrictlySortedBy}
use Rattle.std.specs.declared.cmp.Ordering.TheVariants.{Less}
use Rattle.ost_types.specs.Path.{Path, path_cmp}
use Rattle.ost_forms.specs.declared.tree_item.TreeItem.{TreeItem}
use Rattle.script_reader.specs.Script.{Ascends}
use Rattle.tree_build.specs.Items.{paths_of}
use Rattle.tree_build.proofs.Orders.{path_order}

later : (i : TreeItem) (items : List TreeItem) (item : TreeItem) → Ascends (i ∷ items) item → Ascends items item
later i items item a = λ before last e. a (i ∷ before) last (ap (λ t. i ∷ t) e)

before_last : (i : TreeItem) (items : List TreeItem) (item : TreeItem) → IsStrictlySortedBy path_cmp (paths_of (i ∷ items)) → Ascends (i ∷ items) item → path_cmp i.path item.path ≡ Less
unfolding IsStrictlySortedBy
before_last i [] item h a = a [] i refl
before_last i (j ∷ items) item h a = path_order.trans i.path j.path item.path h.0.0 (before_last j items item h.1 (later i (j ∷ items) item a))

one_behind : (p : Path) (items : List TreeItem) (item : TreeItem) → AllByRecursion (λ q. path_cmp p q ≡ Less) (paths_of items) → path_cmp p item.path ≡ Less → AllByRecursion (λ q. path_cmp p q ≡ Less) (paths_of (items ++ item ∷ []))
one_behind p [] item all less = (less, tt)
one_behind p (j ∷ items) item all less = (all.0, one_behind p items item all.1 less)

pub none_ascend : IsStrictlySortedBy path_cmp (paths_of [])
unfolding IsStrictlySortedBy
none_ascend = tt

pub ascending_push : (items : List TreeItem) (item : TreeItem) → IsStrictlySortedBy path_cmp (paths_of items) → Ascends items item → IsStrictlySortedBy path_cmp (paths_of (items ++ item ∷ []))
unfolding IsStrictlySortedBy
ascending_push [] item h a = (tt, tt)
ascending_push (i ∷ items) item h a = (one_behind i.path items item h.0 (before_last i items item h a), ascending_push items item h.1 (later i items item a))
