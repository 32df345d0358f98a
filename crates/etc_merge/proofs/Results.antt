-- What a merge is by its cases: each path has what is first to apply, and the whole is a tree.
use Rattle.std.proofs.Common.{◌≡◌, ◌≢◌, ◌⊎◌, inl, inr, true, List, [], ◌∷◌, Option, Some, None, refl, sym, ◌∙◌, ap, subst}
use Rattle.ost_types.specs.declared.meta.Meta.{Meta}
use Rattle.ost_types.specs.declared.node.NodeName.{NodeName}
use Rattle.ost_types.specs.declared.node.NodeName.TheVariants.{Folder, Leaf}
use Rattle.ost_types.specs.Path.{Name, Path, is_below, under}
use Rattle.ost_types.specs.PathMap.{Nodes, node_at}
use Rattle.ost_types.proofs.Paths.{is_below-self, is_below-under, under-not_folder}
use Rattle.etc_merge.specs.Merging.{AreTrees, HasKeptBelow, IsConflict, IsKept, IsMerge, IsMergedAt, IsRemoved, IsTreeMap}
use Rattle.etc_merge.specs.Steps.{IsMergedBy, MergedBy, coming, held, kept, nowhere, removed}
use Rattle.etc_merge.proofs.Finds.{none_of}
use Rattle.etc_merge.proofs.Orders.{above_first, below_then, not_less_itself, path_order}
use Rattle.etc_merge.proofs.Trees.{not_removed, some_of}

pub merged_by : (base current new : Nodes) (p : Path) (node : Option NodeName) → MergedBy base current new p node → IsMergedAt base current new p node
merged_by base current new p node (nowhere none none' is) = record {
  kept = λ _. is ∙ sym none;
  removed = λ _ _. is;
  holds = λ _ _ _ _. is ∙ sym none;
  comes = λ _ _ _. is ∙ sym none';
}
merged_by base current new p node (kept keeps is) = record {
  kept = λ _. is;
  removed = λ not. absurd (not keeps);
  holds = λ not. absurd (not keeps);
  comes = λ not. absurd (not keeps);
}
merged_by base current new p node (removed none gone is) = record {
  kept = λ _. is ∙ sym none;
  removed = λ _ _. is;
  holds = λ _ not. absurd (not gone);
  comes = λ _ not. absurd (not gone);
}
merged_by base current new p node (held not stays none below is) = record {
  kept = λ keeps. absurd (not keeps);
  removed = λ _ gone. absurd (stays gone);
  holds = λ _ _ _ _. is;
  comes = λ _ _ bare. absurd (bare none below);
}
merged_by base current new p node (coming not stays bare is) = record {
  kept = λ keeps. absurd (not keeps);
  removed = λ _ gone. absurd (stays gone);
  holds = λ _ _ none below. absurd (bare none below);
  comes = λ _ _ _. is;
}

pub merge_is : (base current new merged : Nodes) → IsMergedBy base current new merged → IsMerge base current new merged
merge_is base current new merged all p = merged_by base current new p (node_at merged p) (all p)

-- ---- the whole is a tree

abbrev IsFolderIn : Nodes → Path → Type 0
IsFolderIn m p = (meta : Meta) × (node_at m p ≡ Some (Folder meta))

module _ (base current new merged : Nodes) (trees : AreTrees base current new) (all : IsMergedBy base current new merged) (agrees : (p : Path) → IsConflict base current new p → ⊥) where
  as_current : (f : Path) → node_at merged f ≡ node_at current f → IsFolderIn current f → IsFolderIn merged f
  as_current f is folder = (folder.0, is ∙ folder.1)

  as_new : (f : Path) → node_at merged f ≡ node_at new f → IsFolderIn new f → IsFolderIn merged f
  as_new f is folder = (folder.0, is ∙ folder.1)

  -- what is to come at a folder below which something is kept is a folder
  new_folder : (f : Path) → (IsKept base current f → ⊥) → HasKeptBelow base current f → (o : Option NodeName) → node_at new f ≡ o → o ≢ None → IsFolderIn new f
  new_folder f not below None is some = absurd (some refl)
  new_folder f not below (Some (Folder meta)) is some = (meta, is)
  new_folder f not below (Some (Leaf sum)) is some = absurd (agrees f (inr (not, below, Leaf sum, is, tt)))

  -- a folder below which something is kept
  holds_below : (f : Path) → IsFolderIn current f → HasKeptBelow base current f → MergedBy base current new f (node_at merged f) → IsFolderIn merged f
  holds_below f folder below (nowhere none none' is) = absurd (none_of folder.1 none)
  holds_below f folder below (kept keeps is) = as_current f is folder
  holds_below f folder below (removed none gone is) = absurd (none_of folder.1 none)
  holds_below f folder below (held not stays none below' is) = as_current f is folder
  holds_below f folder below (coming not stays bare is) = as_new f is (new_folder f not below (node_at new f) refl (λ none. bare none below))

  kept_folder : (f : Path) → IsKept base current f → IsFolderIn new f → (o : Option NodeName) → node_at current f ≡ o → o ≢ None → IsFolderIn current f
  kept_folder f keeps comes None is some = absurd (some refl)
  kept_folder f keeps comes (Some (Folder meta)) is some = (meta, is)
  kept_folder f keeps comes (Some (Leaf sum)) is some = absurd (agrees f (inl (keeps, Leaf sum, Folder comes.0, is, comes.1, tt)))

  -- a folder of the new tree that wasn't removed
  comes_above : (f : Path) → IsFolderIn new f → (IsRemoved base current f → ⊥) → MergedBy base current new f (node_at merged f) → IsFolderIn merged f
  comes_above f folder stays (nowhere none none' is) = absurd (none_of folder.1 none')
  comes_above f folder stays (kept keeps is) = as_current f is (kept_folder f keeps folder (node_at current f) refl keeps.0)
  comes_above f folder stays (removed none gone is) = absurd (stays gone)
  comes_above f folder stays (held not stays' none below is) = absurd (none_of folder.1 none)
  comes_above f folder stays (coming not stays' bare is) = as_new f is folder

  below_of : (f : Path) (x : Name) → IsKept base current (under f x) → HasKeptBelow base current f
  below_of f x keeps = (under f x, is_below-under f f x (is_below-self f), under-not_folder f x, keeps)

  below_more : (f : Path) (x : Name) → HasKeptBelow base current (under f x) → HasKeptBelow base current f
  below_more f x (q, below, apart, keeps) =
      (q, below_then f (under f x) q (is_below-under f f x (is_below-self f)) below, (λ same. under_above f x (subst (λ r. is_below (under f x) r ≡ true) same below)), keeps)
    where
      under_above : (f : Path) (x : Name) → is_below (under f x) f ≡ true → ⊥
      under_above f x e = not_less_itself f (path_order.trans f (under f x) f (above_first f (under f x) (is_below-under f f x (is_below-self f)) (λ same. under-not_folder f x (sym same))) (above_first (under f x) f e (under-not_folder f x)))

  removed_more : (f : Path) (x : Name) → IsRemoved base current f → IsRemoved base current (under f x)
  removed_more f x (q, below, there, lacks) = (q, is_below-under q f x below, there, lacks)

  current_folder : (f : Path) (x : Name) → node_at current (under f x) ≢ None → IsFolderIn current f
  current_folder f x there = let s = some_of (node_at current (under f x)) there in trees.now.inner f x s.0 s.1

  above : (f : Path) (x : Name) (n : NodeName) → node_at merged (under f x) ≡ Some n → MergedBy base current new (under f x) (node_at merged (under f x)) → IsFolderIn merged f
  above f x n there (nowhere none none' is) = absurd (none_of there is)
  above f x n there (removed none gone is) = absurd (none_of there is)
  above f x n there (kept keeps is) = holds_below f (current_folder f x keeps.0) (below_of f x keeps) (all f)
  above f x n there (held not stays none below is) =
      holds_below f (current_folder f x (λ none'. none_of there (is ∙ none'))) (below_more f x below) (all f)
  above f x n there (coming not stays bare is) =
      comes_above f (trees.coming.inner f x n (sym is ∙ there)) (λ gone. stays (removed_more f x gone)) (all f)

  root_folder : MergedBy base current new [] (node_at merged []) → IsFolderIn merged []
  root_folder (nowhere none none' is) = absurd (none_of trees.now.root.1 none)
  root_folder (kept keeps is) = as_current [] is trees.now.root
  root_folder (removed none gone is) = absurd (none_of trees.now.root.1 none)
  root_folder (held not stays none below is) = absurd (none_of trees.coming.root.1 none)
  root_folder (coming not stays bare is) = as_new [] is trees.coming.root

  pub merge_tree : IsTreeMap merged
  merge_tree = record { root = root_folder (all []); inner = λ f x n there. above f x n there (all (under f x)) }
