-- What the `etc` of a new deployment is to be: that its paths keep their bounds, and where its leaves are from.
use Rattle.std.proofs.Common.{◌≡◌, ◌≢◌, ◌⊎◌, inl, inr, ℕ, Bool, true, false, List, ◌++◌, get_or, Option, Some, None, Ok, refl, sym, ◌∙◌, ap, subst}
use Rattle.std.specs.Prelude.{All, IfSome}
use Rattle.std.proofs.lemmas.Slice.Eq.{bytes_eq-Decides}
use Rattle.std.specs.Bool.{Decides}
use Rattle.ost_types.specs.declared.node.NodeName.{NodeName}
use Rattle.ost_types.specs.declared.node.NodeName.TheVariants.{Folder, Leaf}
use Rattle.ost_types.specs.Path.{Path, IsPath}
use Rattle.ost_types.specs.PathMap.{Nodes, node_at}
use Rattle.checkout.specs.CheckoutFolder.{IsTreeMap}
use Rattle.checkout.specs.CheckoutWork.{IsPlaced}
use Rattle.etc_merge.specs.Merging.{HasKeptBelow, IsKept, IsMergedAt, IsRemoved}
use Rattle.etc_merge.proofs.Finds.{none_of}
use Rattle.etc_merge.proofs.Trees.{some_of}
use Rattle.deploy_etc.specs.declared.merging.MergeSource.{MergeSource}
use Rattle.deploy_etc.specs.NewEtc.{FitsIn, Gives, StoodAt}
use Rattle.deploy_etc.proofs.DefaultLemmas.{at_path, each_there}

-- what is merged is what stood there, or what is to come
not_neither : (base current new : Nodes) (p : Path) (found : Option NodeName) (n : NodeName) → IsMergedAt base current new p found → found ≡ Some n → node_at current p ≢ Some n → node_at new p ≢ Some n → ⊥
not_neither base current new p found n is there not_here not_coming =
    let kept : IsKept base current p → ⊥ = λ keeps. not_here (sym (is.kept keeps) ∙ there) in
    let removed : IsRemoved base current p → ⊥ = λ gone. none_of there (is.removed kept gone) in
    let below : node_at new p ≡ None → HasKeptBelow base current p → ⊥ = λ none some. not_here (sym (is.holds kept removed none some) ∙ there) in
    not_coming (sym (is.comes kept removed below) ∙ there)

-- a node that isn't missing is of one of the two maps, so what holds of each path of both holds of its path
from_either : (P : Path → Type 0) (current new : Nodes) (p : Path) → All (λ e. P e.0) current → All (λ e. P e.0) new → (node_at current p ≡ None → node_at new p ≡ None → ⊥) → P p
from_either P current new p here coming some = by (node_at current p) refl (node_at new p) refl
  where
    by : (o : Option NodeName) → node_at current p ≡ o → (q : Option NodeName) → node_at new p ≡ q → P p
    by (Some n) is q is' = at_path P current p n here is
    by None is (Some n) is' = at_path P new p n coming is'
    by None is None is' = absurd (some is is')

pub etc_placed : (into : Path) (source : Option MergeSource) (defaults etc : Nodes) → IsPlaced into defaults → IfSome source (λ from. FitsIn into from.etc) → Gives source defaults (Ok etc) → IsTreeMap etc → IsPlaced into etc
etc_placed into None defaults etc placed room gives tree = let same : etc ≡ defaults = cc in subst (IsPlaced into) (sym same) placed
etc_placed into (Some source) defaults etc placed room gives tree = record {
  shape = tree;
  fits = λ k d inside.
      let p = (get_or etc k d).0 in
      let found = some_of (node_at etc p) (each_there etc k d inside) in
      from_either (λ q. IsPath (into ++ q)) source.etc defaults p room placed.fits
      (λ none none'. not_neither source.defaults source.etc defaults p (node_at etc p) found.0 (gives.0 p) found.1 (λ here. none_of here none) (λ there. none_of there none'));
}

-- ---- leaves

same_sum : (b : Bool) (one other : List ℕ) → Decides b (one ≡ other) → (one ≡ other) ⊎ (one ≢ other)
same_sum true one other test = inl (test.0 refl)
same_sum false one other test = inr (λ same. let n : false ≡ true = test.1 same in cc)

is_leaf : (o : Option NodeName) (sum : List ℕ) → (o ≡ Some (Leaf sum)) ⊎ (o ≢ Some (Leaf sum))
is_leaf None sum = inr (λ is. cc)
is_leaf (Some (Folder m)) sum = inr (λ is. cc)
is_leaf (Some (Leaf other)) sum = elim (same_sum _ other sum (bytes_eq-Decides other sum)) [
  | inl same ↦ inl (ap (λ s. Some (Leaf s)) same)
  | inr apart ↦ inr (λ is. let same : other ≡ sum = cc in apart same)
]

pub leaf_from : (source : Option MergeSource) (defaults etc : Nodes) (p : Path) (sum : List ℕ) → Gives source defaults (Ok etc) → node_at etc p ≡ Some (Leaf sum) → StoodAt p (Leaf sum) source ⊎ (node_at defaults p ≡ Some (Leaf sum))
leaf_from None defaults etc p sum gives there = let same : etc ≡ defaults = cc in inr (subst (λ m. node_at m p ≡ Some (Leaf sum)) same there)
leaf_from (Some source) defaults etc p sum gives there = by (is_leaf (node_at source.etc p) sum) (is_leaf (node_at defaults p) sum)
  where
    by : (node_at source.etc p ≡ Some (Leaf sum)) ⊎ (node_at source.etc p ≢ Some (Leaf sum)) → (node_at defaults p ≡ Some (Leaf sum)) ⊎ (node_at defaults p ≢ Some (Leaf sum))
        → StoodAt p (Leaf sum) (Some source) ⊎ (node_at defaults p ≡ Some (Leaf sum))
    by (inl here) other = inl here
    by (inr apart) (inl coming) = inr coming
    by (inr apart) (inr apart') = absurd (not_neither source.defaults source.etc defaults p (node_at etc p) (Leaf sum) (gives.0 p) there apart apart')
