-- Nothing waits any more: the map is the folder, and a tree.
use Rattle.std.proofs.Common.{◌≡◌, ◌≢◌, ◌⊎◌, inl, inr, ⊎_elim, refl, sym, ◌∙◌, ap, subst, [], ◌∷◌, ◌++◌, append_assoc, Option, Some, None}
use Rattle.ost_types.specs.declared.limits.Limits.{Limits}
use Rattle.ost_types.specs.declared.meta.Meta.{Meta}
use Rattle.ost_types.specs.declared.node.NodeName.{NodeName}
use Rattle.ost_types.specs.declared.node.NodeName.TheVariants.{Folder, Leaf}
use Rattle.ost_types.specs.Path.{Name, Path, under}
use Rattle.ost_types.specs.PathMap.{Nodes, IsAscending, paths_of, node_at}
use Rattle.fs_trait.specs.declared.types.Value.TheVariants.{Absent}
use Rattle.fs_trait.specs.View.{Disk}
use Rattle.fs_trait.specs.Image.{IsTree}
use Rattle.fs_trait.specs.Seen.{Seen, Vacant, Directory, Symlink, Leaf as SeenLeaf, seen, shows, IsDirectory}
use Rattle.checkout.specs.CheckoutFolder.{IsTreeMap}
use Rattle.checkout.proofs.CheckoutMaps.{found as found_at, found_back}
use Rattle.tree_scan.specs.Scan.{IsScan, Reads}
use Rattle.tree_scan.specs.Faults.{HasNoFault}
use Rattle.tree_scan.specs.SoFar.{IsSoFar, Waits}
use Rattle.tree_scan.proofs.Lists.{has_node, none_in}
use Rattle.tree_scan.proofs.Passing.{state}
use Rattle.tree_scan.proofs.Trees.{at_root, directory_of, directory_shown, is_directory, leaf_no_folder, leaf_shown, not_both}

-- either nothing stands there, or something does
vacant_or_not : (s : Seen) → (s ≡ Vacant) ⊎ (s ≢ Vacant)
vacant_or_not Vacant = inl refl
vacant_or_not (Directory m) = inr (λ e. let n : Directory m ≡ Vacant = e in cc)
vacant_or_not (Symlink m t) = inr (λ e. let n : Symlink m t ≡ Vacant = e in cc)
vacant_or_not (SeenLeaf k m b) = inr (λ e. let n : SeenLeaf k m b ≡ Vacant = e in cc)

module _ (d : Disk) (at : Path) (limits : Limits) (found : Nodes) (ascending : IsAscending (paths_of found)) (so : IsSoFar d (state at limits [] found)) where
  none_waits : (p : Path) → Waits [] p → ⊥
  none_waits p w = none_in w.item w.among

  vacant : (p : Path) → node_at found p ≡ None → (shows d (at ++ p) ≡ Vacant) ⊎ (shows d (at ++ p) ≢ Vacant) → shows d (at ++ p) ≡ Vacant
  vacant p none (inl is) = is
  vacant p none (inr shown) = ⊎_elim
      (λ has. let pair = has_node found p has in let no_ : None ≡ Some pair.0 = sym none ∙ found_at found p pair.0 ascending pair.1 in cc)
      (λ w. absurd (none_waits p w))
      (so.all p shown)

  reads_at : (p : Path) (o : Option NodeName) → node_at found p ≡ o → Reads (shows d (at ++ p)) o
  reads_at p None is = vacant p is (vacant_or_not (shows d (at ++ p)))
  reads_at p (Some n) is = so.sound p n (found_back found p n is)

  pub scan_done : IsScan d at found
  scan_done p = reads_at p (node_at found p) refl

  pub no_fault : HasNoFault d at limits found
  no_fault = record {
    each = λ p shown. ⊎_elim (λ has. let pair = has_node found p has in so.kept p pair.0 pair.1) (λ w. absurd (none_waits p w)) (so.all p shown);
    few = so.few;
  }

  pub root_there : IsDirectory (shows d at)
  root_there = ⊎_elim (λ is. let n : [] ≡ [] ∷ [] = is in cc) (λ folder. folder) so.root

folder_read : (s : Seen) (o : Option NodeName) → IsDirectory s → Reads s o → (m : Meta) × (o ≡ Some (Folder m))
folder_read s None folder reads = absurd (directory_shown s folder reads)
folder_read s (Some (Folder m)) folder reads = (m, refl)
folder_read s (Some (Leaf sum)) folder reads = absurd (not_both s (leaf_no_folder s reads.leaf) folder)

node_shown : (s : Seen) (n : NodeName) → Reads s (Some n) → s ≢ Vacant
node_shown s (Folder m) reads = directory_shown s (is_directory s m reads)
node_shown s (Leaf sum) reads = leaf_shown s reads.leaf

-- A map that is what stands in a folder is a tree.
pub scan_tree : (d : Disk) (at : Path) (map : Nodes) → IsTree d → IsDirectory (shows d at) → IsScan d at map → IsTreeMap map
scan_tree d at map tree root scan = record {
  root = folder_read (shows d (at ++ [])) (node_at map []) (subst (λ q. IsDirectory (shows d q)) (sym (at_root at)) root) (scan []);
  inner = λ f x n is. folder_read (shows d (at ++ f)) (node_at map f) (directory_of d tree (at ++ f) x (there f x n is)) (scan f);
}
  where
    there : (f : Path) (x : Name) (n : NodeName) → node_at map (under f x) ≡ Some n → d.at (under (at ++ f) x) ≢ Absent
    there f x n is none = node_shown (shows d (at ++ under f x)) n (subst (Reads (shows d (at ++ under f x))) is (scan (under f x))) (ap (shows d) (sym (append_assoc at f (x ∷ []))) ∙ ap (seen d) none)
