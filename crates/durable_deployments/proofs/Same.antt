-- A deployment is whole where a disk shows the same as one on which it is.
use Rattle.std.proofs.Common.{◌≡◌, ◌≢◌, ◌++◌, ◌∷◌, [], inl, inr, ℕ, Bool, true, false, List, Option, Some, None, append-nil, append_assoc, codes, refl, sym, ◌∙◌, subst}
use Rattle.std.specs.Bool.{Decides}
use Rattle.ost_types.specs.declared.limits.Limits.{Limits}
use Rattle.ost_types.specs.declared.node.NodeName.{NodeName}
use Rattle.ost_types.specs.declared.node.NodeName.TheVariants.{Folder, Leaf}
use Rattle.ost_types.specs.declared.object.Kind.TheVariants.{File}
use Rattle.ost_types.specs.declared.object.ObjName.{ObjName}
use Rattle.ost_types.specs.Path.{Name, Path, same_name, under}
use Rattle.ost_types.specs.PathMap.{node_at}
use Rattle.ost_types.proofs.Paths.{same_name-Decides}
use Rattle.fs_trait.specs.View.{Disk}
use Rattle.fs_trait.specs.Image.{reads}
use Rattle.fs_trait.specs.Seen.{IsDirectory, Vacant, shows}
use Rattle.repo_layout.specs.BootPaths.{kernel_path}
use Rattle.repo_layout.specs.Place.{IsOutsideEtc}
use Rattle.repo_model.specs.Objects.{path_of}
use Rattle.repo_model.specs.Trees.{name_of}
use Rattle.boot_model.specs.declared.item.DepId.{DepId}
use Rattle.checkout.specs.CheckoutFolder.{IsLeaf, leaf_path}
use Rattle.checkout_compare.specs.Compare.{AreEmptyAlike, HasFar, IsEmptyFile, StandsAs}
use Rattle.deploy_list.specs.Kernels.{kernel_path as kernel_in}
use Rattle.tree_kernel.specs.Boots.{IsFileAt, initramfs_path as initramfs_in}
use Rattle.kernel_copy.specs.Copies.{IsCopy, IsFor, initramfs_name, vmlinuz_name}
use Rattle.durable_list.proofs.Same.{same_reads}
use Rattle.deployment_check.specs.Deployments.{IsWholeDeployment, etc_of, files_of, home_of}
use Rattle.durable_deployments.specs.Standing.{IsDeploymentPath, IsReached}
use Rattle.durable_deployments.proofs.Stores.{leaf_reached, same_tree}

module _ (limits : Limits) (d e : Disk) (id : DepId) (bootcsum : List ℕ) (same : (p : Path) → IsDeploymentPath d id bootcsum p → shows e p ≡ shows d p) (is : IsWholeDeployment limits d id bootcsum) where
  object_same : (o : ObjName) → IsReached d id.commit o → shows e (path_of o) ≡ shows d (path_of o)
  object_same o reached = same (path_of o) (inl (o, reached, refl))

  leaf_same : (p : Path) (sum : List ℕ) → node_at is.tree p ≡ Some (Leaf sum) → shows e (leaf_path sum) ≡ shows d (leaf_path sum)
  leaf_same p sum at = object_same (name_of File sum) (leaf_reached limits d id.commit is.tree is.has p sum at)

  leaf_reads : (p : Path) (sum : List ℕ) → node_at is.tree p ≡ Some (Leaf sum) → reads e (leaf_path sum) ≡ reads d (leaf_path sum)
  leaf_reads p sum at = same_reads d e (leaf_path sum) (leaf_same p sum at)

  -- what boots
  file_on : (p : Path) (found : Option (List ℕ)) → IsFileAt d is.tree p found → IsFileAt e is.tree p found
  file_on p (Some sum) (at, regular) = (at, (regular.0, leaf_reads p sum at ∙ regular.1))
  file_on p None none = λ sum at regular. none sum at (regular.0, sym (leaf_reads p sum at) ∙ regular.1)

  -- the files
  home_same : (p : Path) → IsOutsideEtc p → shows e (home_of id ++ p) ≡ shows d (home_of id ++ p)
  home_same p outside = same (home_of id ++ p) (inr (inl (p, outside, refl)))

  alike_on : (p : Path) (sum : List ℕ) → shows e (home_of id ++ p) ≡ shows d (home_of id ++ p) → shows e (leaf_path sum) ≡ shows d (leaf_path sum)
      → AreEmptyAlike (shows d (home_of id ++ p)) (shows d (leaf_path sum)) → AreEmptyAlike (shows e (home_of id ++ p)) (shows e (leaf_path sum))
  alike_on p sum here object alike = record {
    meta = alike.meta;
    first = subst (IsEmptyFile alike.meta) (sym here) alike.first;
    second = subst (IsEmptyFile alike.meta) (sym object) alike.second;
  }

  stands_on : (p : Path) → IsOutsideEtc p → (n : Option NodeName) → node_at is.tree p ≡ n → StandsAs d (home_of id) p n → StandsAs e (home_of id) p n
  stands_on p outside None at stands = home_same p outside ∙ stands
  stands_on p outside (Some (Folder m)) at stands = home_same p outside ∙ stands
  stands_on p outside (Some (Leaf sum)) at (inl (leaf, equal)) = inl (subst IsLeaf (sym (home_same p outside)) leaf, home_same p outside ∙ equal ∙ sym (leaf_same p sum at))
  stands_on p outside (Some (Leaf sum)) at (inr alike) = inr (alike_on p sum (home_same p outside) (leaf_same p sum at) alike)

  -- what is in a folder of theirs: one of them, or the `etc`
  at_top : (x : Name) (b : Bool) → Decides b (x ≡ codes "etc") → shows e (under (home_of id) x) ≡ shows d (under (home_of id) x)
  at_top x true is = subst (λ y. shows e (under (home_of id) y) ≡ shows d (under (home_of id) y)) (sym (is.0 refl)) (same (etc_of id) (inr (inr (inl refl))))
  at_top x false is = home_same (x ∷ []) (λ etc. let n : false ≡ true = is.1 etc in cc)

  inside_same : (p : Path) (x : Name) → IsOutsideEtc p → shows e (under (home_of id ++ p) x) ≡ shows d (under (home_of id ++ p) x)
  inside_same [] x outside = subst (λ f. shows e (under f x) ≡ shows d (under f x)) (sym (append-nil (home_of id))) (at_top x (same_name x (codes "etc")) (same_name-Decides x (codes "etc")))
  inside_same (a ∷ p) x outside = subst (λ q. shows e q ≡ shows d q) (sym (append_assoc (home_of id) (a ∷ p) (x ∷ []))) (home_same (under (a ∷ p) x) outside)

  far_on : (p : Path) → IsOutsideEtc p → HasFar e (home_of id ++ p) → HasFar d (home_of id ++ p)
  far_on p outside far = record {
    is_folder = subst IsDirectory (home_same p outside) far.is_folder;
    name = far.name;
    there = subst (λ s. s ≢ Vacant) (inside_same p far.name outside) far.there;
    far = far.far;
  }

  -- the copies
  copy_on : (file : List ℕ) (at p : Path) (sum : List ℕ) → at ≡ under (kernel_path id.os bootcsum) file → node_at is.tree p ≡ Some (Leaf sum) → IsCopy d at sum → IsCopy e at sum
  copy_on file at p sum is_at leaf (bytes, copy, object) = (bytes, same_reads d e at (same at (inr (inr (inr (file, is_at))))) ∙ copy, leaf_reads p sum leaf ∙ object)

  leaf_of_file : (p : Path) (found : Option (List ℕ)) (sum : List ℕ) → found ≡ Some sum → IsFileAt d is.tree p found → node_at is.tree p ≡ Some (Leaf sum)
  leaf_of_file p found sum names at = (subst (IsFileAt d is.tree p) names at).0

  copies_on : (at : Path) (sum : List ℕ) → IsFor id.os (files_of is.kernel bootcsum) at sum → IsCopy e at sum
  copies_on at sum (inl (here, kernel)) = copy_on (vmlinuz_name is.kernel.kver) at (kernel_in is.kernel.kver) sum here
      (subst (λ (x : List ℕ). node_at is.tree (kernel_in is.kernel.kver) ≡ Some (Leaf x)) (sym kernel) is.boots.1.0) (is.copies at sum (inl (here, kernel)))
  copies_on at sum (inr (here, names)) = copy_on (initramfs_name is.kernel.kver) at (initramfs_in is.kernel.kver) sum here
      (leaf_of_file (initramfs_in is.kernel.kver) is.kernel.initramfs sum names is.boots.2) (is.copies at sum (inr (here, names)))

  pub same_deployment : IsWholeDeployment limits e id bootcsum
  same_deployment = record {
    tree = is.tree;
    kernel = is.kernel;
    has = same_tree limits d id.commit is.tree is.has e object_same;
    boots = (is.boots.0, file_on (kernel_in is.kernel.kver) (Some is.kernel.kernel) is.boots.1, file_on (initramfs_in is.kernel.kver) is.kernel.initramfs is.boots.2);
    checkout = λ p outside. stands_on p outside (node_at is.tree p) refl (is.checkout p outside);
    within = λ p outside far. is.within p outside (far_on p outside far);
    etc = subst IsDirectory (sym (same (etc_of id) (inr (inr (inl refl))))) is.etc;
    copies = copies_on;
  }
