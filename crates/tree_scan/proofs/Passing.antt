-- Nothing stands at the next path, or a leaf: what is known of the disk goes on.
use Rattle.std.proofs.Common.{◌≡◌, ◌≢◌, ◌⊎◌, inl, inr, ⊎_elim, sym, ◌∙◌, ap, subst, ◌<◌, ◌≤◌, arith, List, [], ◌∷◌, ◌++◌, length, length-append, append-nil, Some}
use Rattle.std.specs.Prelude.{Contains}
use Rattle.ost_types.specs.declared.limits.Limits.{Limits}
use Rattle.ost_types.specs.declared.node.NodeName.{NodeName}
use Rattle.ost_types.specs.Path.{Name, Path}
use Rattle.ost_types.specs.PathMap.{Nodes, paths_of}
use Rattle.fs_trait.specs.View.{Disk}
use Rattle.fs_trait.specs.Image.{IsTree}
use Rattle.fs_trait.specs.Seen.{Vacant, shows, IsDirectory, NotDirectory}
use Rattle.checkout.proofs.RemoveLists.{cons_cases}
use Rattle.tree_scan.specs.Scan.{Reads}
use Rattle.tree_scan.specs.Faults.{IsKept}
use Rattle.tree_scan.specs.Scanning.{Scanning}
use Rattle.tree_scan.specs.SoFar.{IsSoFar, Waits}
use Rattle.tree_scan.proofs.Lists.{more_path, new_path, pair_cases}
use Rattle.tree_scan.proofs.Orders.{after_rest}
use Rattle.tree_scan.proofs.Trees.{at_below, below_leaf, vacant_no_folder}

-- a task with these paths that wait and these pairs
abbrev pub state : Path → Limits → List Path → Nodes → Scanning
state at limits todo found = record { at = at; limits = limits; todo = todo; found = found }

module _ (d : Disk) (tree : IsTree d) (at : Path) (limits : Limits) (found : Nodes) (p : Path) (rest : List Path) (so : IsSoFar d (state at limits (p ∷ rest) found)) where
  first_head : (p ∷ rest) ≡ [] ∷ [] → p ≡ []
  first_head is = cc

  root_kept : p ≢ [] → (todo : List Path) → (todo ≡ [] ∷ []) ⊎ IsDirectory (shows d at)
  root_kept inner todo = ⊎_elim (λ is. absurd (inner (first_head is))) (λ folder. inr folder) so.root

  -- what waited is at the path that was looked at or below it, or waits
  pub waited : (q : Path) → Waits (p ∷ rest) q → ((r : Path) × (q ≡ p ++ r)) ⊎ Waits rest q
  waited q w = ⊎_elim
      (λ is. inl (w.rest, w.is ∙ ap (λ i. i ++ w.rest) is))
      (λ has. inr (record { item = w.item; among = has; rest = w.rest; is = w.is }))
      (cons_cases w.item p rest w.among)

  none_below : NotDirectory (shows d (at ++ p)) → (q : Path) (x : Name) (r : Path) → q ≡ p ++ x ∷ r → shows d (at ++ q) ≡ Vacant
  none_below leaf q x r is = ap (λ z. shows d (at ++ z)) is ∙ ap (shows d) (at_below at p (x ∷ r)) ∙ below_leaf d tree (at ++ p) x r leaf

  whole : (q : Path) → q ≡ p ++ [] → q ≡ p
  whole q is = is ∙ append-nil p

  pub passed_known : p ≢ [] → shows d (at ++ p) ≡ Vacant → IsSoFar d (state at limits rest found)
  passed_known inner vacant = record {
    root = root_kept inner rest;
    all = λ q shown. ⊎_elim (λ has. inl has) (λ w. ⊎_elim (λ below. absurd (gone q shown below.0 below.1)) (λ later. inr later) (waited q w)) (so.all q shown);
    sound = so.sound;
    kept = so.kept;
    few = so.few;
    line = so.line.1;
    after = so.after.1;
  }
    where
      gone : (q : Path) → shows d (at ++ q) ≢ Vacant → (r : Path) → q ≡ p ++ r → ⊥
      gone q shown [] is = shown (ap (λ z. shows d (at ++ z)) (whole q is) ∙ vacant)
      gone q shown (x ∷ r) is = shown (none_below (vacant_no_folder (shows d (at ++ p)) vacant) q x r is)

  -- the pair that was read, and those before it
  pub sound_more : (n : NodeName) → Reads (shows d (at ++ p)) (Some n) → (q : Path) (o : NodeName) → Contains (found ++ (p, n) ∷ []) (q, o) → Reads (shows d (at ++ q)) (Some o)
  sound_more n reads q o has = ⊎_elim (so.sound q o) (λ is. subst (λ (y : Path × NodeName). Reads (shows d (at ++ y.0)) (Some y.1)) (sym is) reads) (pair_cases found (p, n) (q, o) has)

  pub kept_more : (n : NodeName) → IsKept limits.content d (at ++ p) → (q : Path) (o : NodeName) → Contains (found ++ (p, n) ∷ []) (q, o) → IsKept limits.content d (at ++ q)
  kept_more n kept q o has = ⊎_elim (so.kept q o) (λ is. subst (λ (y : Path × NodeName). IsKept limits.content d (at ++ y.0)) (sym is) kept) (pair_cases found (p, n) (q, o) has)

  pub few_more : (n : NodeName) → length found < limits.paths → length (found ++ (p, n) ∷ []) ≤ limits.paths
  few_more n some = let l = length-append found ((p, n) ∷ []) in omega (arith, some, l)

  pub leaf_known : p ≢ [] → (n : NodeName) → NotDirectory (shows d (at ++ p)) → Reads (shows d (at ++ p)) (Some n) → IsKept limits.content d (at ++ p) → length found < limits.paths
      → IsSoFar d (state at limits rest (found ++ (p, n) ∷ []))
  leaf_known inner n leaf reads kept some = record {
    root = root_kept inner rest;
    all = λ q shown. ⊎_elim (λ has. inl (more_path found p n q has)) (λ w. ⊎_elim (λ below. inl (here q shown below.0 below.1)) (λ later. inr later) (waited q w)) (so.all q shown);
    sound = sound_more n reads;
    kept = kept_more n kept;
    few = few_more n some;
    line = so.line.1;
    after = after_rest found p n rest so.after.1 so.line.0;
  }
    where
      here : (q : Path) → shows d (at ++ q) ≢ Vacant → (r : Path) → q ≡ p ++ r → Contains (paths_of (found ++ (p, n) ∷ [])) q
      here q shown [] is = subst (Contains (paths_of (found ++ (p, n) ∷ []))) (sym (whole q is)) (new_path found p n)
      here q shown (x ∷ r) is = absurd (shown (none_below leaf q x r is))
