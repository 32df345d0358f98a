-- A folder stands at the next path: its names wait in its place.
use Rattle.std.proofs.Common.{◌≡◌, ◌≢◌, ◌⊎◌, inl, inr, ⊎_elim, sym, ◌∙◌, ap, subst, List, [], ◌∷◌, ◌++◌, ◌<◌, length, map, append-nil, append_assoc}
use Rattle.std.specs.Prelude.{Contains}
use Rattle.std.proofs.lemmas.List.Elements.{Contains-append_left, Contains-append_right}
use Rattle.ost_types.specs.declared.limits.Limits.{Limits}
use Rattle.ost_types.specs.declared.meta.Meta.{Meta}
use Rattle.ost_types.specs.declared.node.NodeName.TheVariants as node
use Rattle.ost_types.specs.Path.{Name, Path, under}
use Rattle.ost_types.specs.PathMap.{Nodes, paths_of}
use Rattle.fs_trait.specs.View.{Disk}
use Rattle.fs_trait.specs.Image.{IsTree}
use Rattle.fs_trait.specs.Effect.{IsListing}
use Rattle.fs_trait.specs.Seen.{Vacant, Directory, shows, IsDirectory}
use Rattle.tree_scan.specs.Faults.{IsKept}
use Rattle.tree_scan.specs.SoFar.{IsSoFar, Waits}
use Rattle.tree_scan.proofs.Lists.{has_map, more_path, new_path}
use Rattle.tree_scan.proofs.Orders.{after_children, after_rest, both, line_children}
use Rattle.tree_scan.proofs.Passing.{state, few_more, kept_more, sound_more, waited}
use Rattle.tree_scan.proofs.Trees.{at_below, at_root, below_absent, is_directory}

more_waits : (todo more : List Path) (q : Path) → Waits todo q → Waits (more ++ todo) q
more_waits todo more q w = record { item = w.item; among = Contains-append_right more todo w.item w.among; rest = w.rest; is = w.is }

module _ (d : Disk) (tree : IsTree d) (at : Path) (limits : Limits) (found : Nodes) (p : Path) (rest : List Path) (so : IsSoFar d (state at limits (p ∷ rest) found))
    (m : Meta) (names : List Name) (there : shows d (at ++ p) ≡ Directory m) (listing : IsListing d (at ++ p) names) (kept : IsKept limits.content d (at ++ p)) (some : length found < limits.paths) where
  -- what stands below the folder stands at one of its names, or below it
  below_name : (q : Path) (x : Name) (r : Path) → q ≡ p ++ x ∷ r → shows d (at ++ q) ≢ Vacant → Waits (map (under p) names ++ rest) q
  below_name q x r is shown = record {
    item = under p x;
    among = Contains-append_left (map (under p) names) rest (under p x) (has_map (under p) names x (listing.all x (λ none. shown (same ∙ below_absent d tree (under (at ++ p) x) r none))));
    rest = r;
    is = is ∙ sym (append_assoc p (x ∷ []) r);
  }
    where
      same : shows d (at ++ q) ≡ shows d (under (at ++ p) x ++ r)
      same = ap (λ z. shows d (at ++ z)) is ∙ ap (shows d) (at_below at p (x ∷ r) ∙ sym (append_assoc (at ++ p) (x ∷ []) r))

  here : (q : Path) → shows d (at ++ q) ≢ Vacant → (r : Path) → q ≡ p ++ r
      → Contains (paths_of (found ++ (p, node.Folder m) ∷ [])) q ⊎ Waits (map (under p) names ++ rest) q
  here q shown [] is = inl (subst (Contains (paths_of (found ++ (p, node.Folder m) ∷ []))) (sym (is ∙ append-nil p)) (new_path found p (node.Folder m)))
  here q shown (x ∷ r) is = inr (below_name q x r is shown)

  root_now : IsDirectory (shows d at)
  root_now = ⊎_elim
      (λ is. let root : p ≡ [] = cc in is_directory (shows d at) m (ap (shows d) (sym (ap (λ z. at ++ z) root ∙ at_root at)) ∙ there))
      (λ folder. folder)
      so.root

  pub folder_known : IsSoFar d (state at limits (map (under p) names ++ rest) (found ++ (p, node.Folder m) ∷ []))
  folder_known = record {
    root = inr root_now;
    all = λ q shown. ⊎_elim
        (λ has. inl (more_path found p (node.Folder m) q has))
        (λ w. ⊎_elim (λ below. here q shown below.0 below.1) (λ later. inr (more_waits rest (map (under p) names) q later)) (waited d tree at limits found p rest so q w))
        (so.all q shown);
    sound = sound_more d tree at limits found p rest so (node.Folder m) there;
    kept = kept_more d tree at limits found p rest so (node.Folder m) kept;
    few = few_more d tree at limits found p rest so (node.Folder m) some;
    line = line_children p names rest listing.ascending so.line.0 so.line.1;
    after = both _ (map (under p) names) rest (after_children found p (node.Folder m) so.after.0 names) (after_rest found p (node.Folder m) rest so.after.1 so.line.0);
  }
