-- A map is a tree where each of its paths lies in a folder.
use Rattle.std.proofs.Common.{◌≡◌, ℕ, ◌<◌, ◌≤◌, ◌+◌, Bool, true, false, List, [], ◌∷◌, ◌++◌, length, take, get_or, Some, None, sym, ◌∙◌, ap, refl, subst}
use Rattle.std.specs.Prelude.{◌↔◌, All, IsTrue}
use Rattle.std.proofs.lemmas.List.{take_all, take_more}
use Rattle.std.proofs.lemmas.List.Elements.{All-push}
use Rattle.ost_types.specs.declared.meta.Meta.{Meta}
use Rattle.ost_types.specs.declared.node.NodeName.{NodeName}
use Rattle.ost_types.specs.declared.node.NodeName.TheVariants.{Folder, Leaf}
use Rattle.ost_types.specs.Path.{Name, Path, IsPath, under}
use Rattle.ost_types.specs.PathMap.{Nodes, IsPathMap, node_at}
use Rattle.ost_types.proofs.Paths.{under-folder, under-not_root}
use Rattle.checkout.specs.CheckoutWork.{IsPlaced}
use Rattle.checkout.proofs.CheckoutMaps.{found_at, found_back}
use Rattle.checkout_command.specs.Placing.{Fits, HasFolderAt, IsInFolder}

pub in_root : (tree : Nodes) (p : Path) → p ≡ [] → IsInFolder tree p
in_root tree p none f x is = absurd (under-not_root f x (sym is ∙ none))

pub in_folder : (tree : Nodes) (p folder q : Path) (x : Name) (b : Bool) → p ≡ folder ++ x ∷ [] → q ≡ folder → (IsTrue b ↔ HasFolderAt tree q) → IsTrue b ↔ IsInFolder tree p
in_folder tree p folder q x b is at iff = (
  λ t. λ f y e. subst (HasFolderAt tree) (at ∙ under-folder folder f x y (sym is ∙ e)) (iff.0 t),
  λ h. iff.1 (subst (HasFolderAt tree) (sym at) (h folder x is)),
)

-- what a search found tells whether there is a folder
pub folder_found : (tree items : Nodes) (p : Path) (m : Meta) → items ≡ tree → node_at items p ≡ Some (Folder m) → IsTrue true ↔ HasFolderAt tree p
folder_found tree items p m same found = (λ t. (m, subst (λ (x : Nodes). node_at x p ≡ Some (Folder m)) same found), λ has. refl)

pub leaf_found : (tree items : Nodes) (p : Path) (csum : List ℕ) → items ≡ tree → node_at items p ≡ Some (Leaf csum) → IsTrue false ↔ HasFolderAt tree p
leaf_found tree items p csum same found = (
  λ t. absurd (let n : false ≡ true = t in cc),
  λ has. absurd (let e : Some (Folder has.0) ≡ Some (Leaf csum) = sym has.1 ∙ subst (λ (x : Nodes). node_at x p ≡ Some (Leaf csum)) same found in cc),
)

pub none_found : (tree items : Nodes) (p : Path) → items ≡ tree → node_at items p ≡ None → IsTrue false ↔ HasFolderAt tree p
none_found tree items p same found = (
  λ t. absurd (let n : false ≡ true = t in cc),
  λ has. absurd (let e : Some (Folder has.0) ≡ None = sym has.1 ∙ subst (λ (x : Nodes). node_at x p ≡ None) same found in cc),
)

pub placed_all : (into : Path) (tree : Nodes) → HasFolderAt tree [] → All (λ e. Fits into tree e.0) tree → IsPlaced into tree
placed_all into tree root all = record {
  shape = record {
    root = root;
    inner = λ f x n has.
        let in_map = found_back tree (under f x) n has in
        (subst (λ (e : Path × NodeName). Fits into tree e.0) in_map.2 (all in_map.0 (under f x, n) in_map.1)).inside f x refl;
  };
  fits = λ k e inside. (all k e inside).path;
}

pub placed_fits : (into : Path) (tree : Nodes) → IsPathMap tree → IsPlaced into tree → (k : ℕ) (e : Path × NodeName) → k < length tree → get_or tree k e ≡ e → Fits into tree e.0
placed_fits into tree map placed k e inside is = record {
  path = subst (λ (q : Path × NodeName). IsPath (into ++ q.0)) is (placed.fits k e inside);
  inside = λ f x at. placed.shape.inner f x e.1 (subst (λ p. node_at tree p ≡ Some e.1) at (found_at tree k e map.ascending inside is));
}

-- ---- what the loop finds

pub fits_more : (into : Path) (tree items : Nodes) (n : ℕ) (e : Path × NodeName) → n < length items → e ≡ get_or items n e → All (λ e. Fits into tree e.0) (take n items) → Fits into tree e.0 → All (λ e. Fits into tree e.0) (take (n + 1) items)
fits_more into tree items n e inside is all one =
    subst (All (λ (x : Path × NodeName). Fits into tree x.0)) (sym (take_more items n e inside))
    (All-push (λ (x : Path × NodeName). Fits into tree x.0) (take n items) (get_or items n e) all (subst (λ (x : Path × NodeName). Fits into tree x.0) is one))

pub placed_is : (into : Path) (tree items : Nodes) (n : ℕ) → items ≡ tree → length items ≤ n → HasFolderAt tree [] → All (λ e. Fits into tree e.0) (take n items) → IsTrue true ↔ IsPlaced into tree
placed_is into tree items n same all root fits = (
  λ t. placed_all into tree root (subst (All (λ (x : Path × NodeName). Fits into tree x.0)) same (subst (All (λ (x : Path × NodeName). Fits into tree x.0)) (take_all n items all) fits)),
  λ placed. refl,
)

pub placed_not : (into : Path) (tree items : Nodes) (n : ℕ) (e : Path × NodeName) (b : Bool) → items ≡ tree → IsPathMap items → n < length items → e ≡ get_or items n e → (IsTrue b ↔ Fits into tree e.0) → b ≡ false → IsTrue false ↔ IsPlaced into tree
placed_not into tree items n e b same map inside is iff unfit = (
  λ t. absurd (let n : false ≡ true = t in cc),
  λ placed. sym unfit ∙ iff.1 (placed_fits into tree (subst IsPathMap same map) placed n e (subst (λ (m : Nodes). n < length m) same inside) (subst (λ (m : Nodes). get_or m n e ≡ e) same (sym is))),
)
