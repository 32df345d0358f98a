-- The first path of two lists.
use Rattle.std.proofs.Common.{◌≡◌, ◌≢◌, inl, inr, List, [], ◌∷◌, ◌++◌, Option, Some, None, refl, sym, ◌∙◌, ap, subst}
use Rattle.std.specs.declared.cmp.Ordering.{Ordering}
use Rattle.std.specs.declared.cmp.Ordering.TheVariants.{Less, Equal, Greater}
use Rattle.ost_types.specs.declared.node.NodeName.{NodeName}
use Rattle.ost_types.specs.Path.{Path, path_cmp}
use Rattle.ost_types.specs.PathMap.{Nodes, IsAscending, paths_of}
use Rattle.etc_merge.specs.Entries.{AllAfter, IsNext}
use Rattle.etc_merge.proofs.Finds.{after_earlier, ascending_after}
use Rattle.etc_merge.proofs.Orders.{same_from_Equal, turned}

pub first_current : (e : Path × NodeName) (rest new : Nodes) → IsAscending (paths_of (e ∷ rest)) → AllAfter e.0 new → IsNext (e ∷ rest) new e.0 (Some e.1) None rest new
first_current e rest new h after = record { in_current = (refl, ascending_after e rest h); in_new = (refl, after); some = inl (λ n. cc) }

pub first_new : (e : Path × NodeName) (current rest : Nodes) → IsAscending (paths_of (e ∷ rest)) → AllAfter e.0 current → IsNext current (e ∷ rest) e.0 None (Some e.1) current rest
first_new e current rest h after = record { in_current = (refl, after); in_new = (refl, ascending_after e rest h); some = inr (λ n. cc) }

pub after_first : (p : Path) (e : Path × NodeName) (rest : Nodes) → IsAscending (paths_of (e ∷ rest)) → path_cmp p e.0 ≡ Less → AllAfter p (e ∷ rest)
after_first p e rest h less = (less, after_earlier rest p e.0 (ascending_after e rest h) less)

pub first_both : (e f : Path × NodeName) (rest left : Nodes) → IsAscending (paths_of (e ∷ rest)) → IsAscending (paths_of (f ∷ left)) → path_cmp e.0 f.0 ≡ Equal → IsNext (e ∷ rest) (f ∷ left) e.0 (Some e.1) (Some f.1) rest left
first_both e f rest left h g is =
    let same : f.0 ≡ e.0 = sym (same_from_Equal e.0 f.0 is) in
    record {
      in_current = (refl, ascending_after e rest h);
      in_new = (ap (λ p. (p, f.1) ∷ left) same, subst (λ p. AllAfter p left) same (ascending_after f left g));
      some = inl (λ n. cc);
    }

-- as code has it
module _ (current new : Nodes) (p : Path) (h n : Option NodeName) (cl nl : Nodes) where
  pub next_new : (e : Path × NodeName) (rest : Nodes) → new ≡ e ∷ rest → IsAscending (paths_of new) → AllAfter e.0 current
      → (p ≡ e.0) × (h ≡ None) × (n ≡ Some e.1) × (cl ≡ current) × (nl ≡ rest) → IsNext current new p h n cl nl
  next_new e rest is asc after (a, b, c, d, f) = rw (is, a, b, c, d, f) (first_new e current rest (subst (λ m. IsAscending (paths_of m)) is asc) after)

  pub next_current : (e : Path × NodeName) (rest : Nodes) → current ≡ e ∷ rest → IsAscending (paths_of current) → AllAfter e.0 new
      → (p ≡ e.0) × (h ≡ Some e.1) × (n ≡ None) × (cl ≡ rest) × (nl ≡ new) → IsNext current new p h n cl nl
  next_current e rest is asc after (a, b, c, d, f) = rw (is, a, b, c, d, f) (first_current e rest new (subst (λ m. IsAscending (paths_of m)) is asc) after)

pub next_both : (current new : Nodes) (e f : Path × NodeName) (rest left : Nodes) → current ≡ e ∷ rest → new ≡ f ∷ left → IsAscending (paths_of current) → IsAscending (paths_of new) → path_cmp e.0 f.0 ≡ Equal → IsNext current new e.0 (Some e.1) (Some f.1) rest left
next_both current new e f rest left is cut asc asc' same =
    rw (is, cut) (first_both e f rest left (subst (λ m. IsAscending (paths_of m)) is asc) (subst (λ m. IsAscending (paths_of m)) cut asc') same)

pub after_less : (p : Path) (m : Nodes) (e : Path × NodeName) (rest : Nodes) → m ≡ e ∷ rest → IsAscending (paths_of m) → path_cmp p e.0 ≡ Less → AllAfter p m
after_less p m e rest is asc less = subst (AllAfter p) (sym is) (after_first p e rest (subst (λ l. IsAscending (paths_of l)) is asc) less)

pub after_nothing : (p : Path) (m : Nodes) → m ≡ [] → AllAfter p m
after_nothing p m is = subst (AllAfter p) (sym is) tt
