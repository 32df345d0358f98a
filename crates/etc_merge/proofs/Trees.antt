-- What a tree has above a path.
use Rattle.std.proofs.Common.{◌≡◌, ◌≢◌, true, List, [], ◌∷◌, ◌++◌, Option, Some, None, refl, sym, ◌∙◌, ap, subst}
use Rattle.std.proofs.lemmas.List.{append_assoc, append-nil}
use Rattle.ost_types.specs.declared.node.NodeName.{NodeName}
use Rattle.ost_types.specs.declared.node.NodeName.TheVariants.{Folder}
use Rattle.ost_types.specs.Path.{Name, Path, is_below, under}
use Rattle.ost_types.specs.PathMap.{Nodes, node_at}
use Rattle.etc_merge.specs.Merging.{IsRemoved, IsTreeMap}
use Rattle.etc_merge.proofs.Finds.{none_of}
use Rattle.etc_merge.proofs.Orders.{rest_below}

pub some_of : (o : Option NodeName) → o ≢ None → (n : NodeName) × (o ≡ Some n)
some_of None some = absurd (some refl)
some_of (Some n) some = (n, refl)

pub folder_above : (t : Nodes) → IsTreeMap t → (f : Path) (x : Name) → node_at t (under f x) ≢ None → node_at t f ≢ None
folder_above t tree f x there none = let s = some_of (node_at t (under f x)) there in let m = tree.inner f x s.0 s.1 in none_of m.1 none

rest_above : (t : Nodes) → IsTreeMap t → (r q : Path) → node_at t (q ++ r) ≢ None → node_at t q ≢ None
rest_above t tree [] q there = subst (λ p. node_at t p ≢ None) (append-nil q) there
rest_above t tree (x ∷ r) q there =
    let joined : q ++ x ∷ r ≡ under q x ++ r = sym (append_assoc q (x ∷ []) r) in
    folder_above t tree q x (rest_above t tree r (under q x) (subst (λ p. node_at t p ≢ None) joined there))

pub tree_above : (t : Nodes) → IsTreeMap t → (q p : Path) → is_below q p ≡ true → node_at t p ≢ None → node_at t q ≢ None
tree_above t tree q p below there = let w = rest_below q p below in rest_above t tree w.0 q (subst (λ r. node_at t r ≢ None) w.1 there)

-- nothing that stands in a tree was removed there
pub not_removed : (base current : Nodes) → IsTreeMap current → (p : Path) → node_at current p ≢ None → IsRemoved base current p → ⊥
not_removed base current tree p there gone = tree_above current tree gone.0 p gone.1 there gone.3
