-- A folder with one leaf in it can be placed anywhere.
use Rattle.std.proofs.Common.{◌≡◌, ◌≢◌, ◌⊎◌, inl, inr, ⊎_elim, zero, suc, arith, refl, sym, ◌∙◌, ap, subst, [], ◌∷◌, ◌++◌, Some, None, if◌then◌else◌}
use Rattle.std.specs.Prelude.{All}
use Rattle.ost_types.specs.declared.meta.Meta.{Meta}
use Rattle.ost_types.specs.declared.node.NodeName.{NodeName}
use Rattle.ost_types.specs.declared.node.NodeName.TheVariants.{Folder}
use Rattle.ost_types.specs.Path.{Name, Path, IsPath, same_path, under}
use Rattle.ost_types.specs.PathMap.{Nodes, node_at}
use Rattle.ost_types.proofs.Paths.{same_or_apart, same_path-apart, under-folder, under-not_root}
use Rattle.checkout.specs.CheckoutFolder.{IsTreeMap}
use Rattle.checkout.specs.CheckoutWork.{IsPlaced}

module _ (m : Meta) (x : Name) (n : NodeName) where
  found : (p : Path) (k : NodeName) → node_at (([], Folder m) ∷ (x ∷ [], n) ∷ []) p ≡ Some k → (p ≡ []) ⊎ (p ≡ x ∷ [])
  found p k has = ⊎_elim (λ root. inl (sym root)) (λ one. ⊎_elim (λ leaf. inr (sym leaf)) (λ other. absurd (none one other)) (same_or_apart (x ∷ []) p)) (same_or_apart [] p)
    where
      none : [] ≢ p → x ∷ [] ≢ p → ⊥
      none one other =
          let at : node_at (([], Folder m) ∷ (x ∷ [], n) ∷ []) p ≡ None =
          ap (λ b. if b then Some (Folder m) else node_at ((x ∷ [], n) ∷ []) p) (same_path-apart [] p one) ∙ ap (λ b. if b then Some n else None) (same_path-apart (x ∷ []) p other) in
          let no_ : Some k ≡ None = sym has ∙ at in
          cc

  in_root : (f : Path) (y : Name) (k : NodeName) → node_at (([], Folder m) ∷ (x ∷ [], n) ∷ []) (under f y) ≡ Some k → f ≡ []
  in_root f y k has = ⊎_elim (λ root. absurd (under-not_root f y root)) (λ leaf. under-folder f [] y x leaf) (found (under f y) k has)

  shape : IsTreeMap (([], Folder m) ∷ (x ∷ [], n) ∷ [])
  unfolding same_path
  shape = record {
    root = (m, refl);
    inner = λ f y k has. (m, ap (node_at (([], Folder m) ∷ (x ∷ [], n) ∷ [])) (in_root f y k has));
  }

pub small : (into : Path) (tree first more : Nodes) (p q : Path) (m : Meta) (x : Name) (n : NodeName) → first ≡ [] → more ≡ first ++ (p, Folder m) ∷ [] → tree ≡ more ++ (q, n) ∷ [] → p ≡ [] → q ≡ under p x
    → IsPath (into ++ p) → IsPath (into ++ q) → IsPlaced into tree
small into tree first more p q m x n none one two root leaf fits_root fits_leaf =
    let at : q ≡ x ∷ [] = leaf ∙ ap (λ (f : Path). under f x) root in
    let is : tree ≡ ([], Folder m) ∷ (x ∷ [], n) ∷ [] =
    two ∙ ap (λ (l : Nodes). l ++ (q, n) ∷ []) (one ∙ ap (λ (l : Nodes). l ++ (p, Folder m) ∷ []) none)
    ∙ ap (λ (f : Path). (f, Folder m) ∷ (q, n) ∷ []) root ∙ ap (λ (f : Path). ([], Folder m) ∷ (f, n) ∷ []) at in
    subst (IsPlaced into) (sym is) (record { shape = shape m x n; fits = each (subst (λ (f : Path). IsPath (into ++ f)) root fits_root) (subst (λ (f : Path). IsPath (into ++ f)) at fits_leaf) })
  where
    each : IsPath (into ++ []) → IsPath (into ++ x ∷ []) → All (λ (e : Path × NodeName). IsPath (into ++ e.0)) (([], Folder m) ∷ (x ∷ [], n) ∷ [])
    each a b zero d inside = a
    each a b (suc zero) d inside = b
    each a b (suc (suc k)) d inside = absurd (omega (arith, inside))
