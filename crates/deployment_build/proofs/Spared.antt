-- What the step of each part spares of the others.
use Rattle.std.proofs.Common.{◌≡◌, ◌⊎◌, inl, inr, ⊎_elim, ℕ, true, sym, ◌∙◌, ap, subst, List, [], ◌∷◌, ◌++◌, append-nil}
use Rattle.ost_types.specs.declared.meta.Meta.{Meta}
use Rattle.ost_types.specs.Path.{Name, Path, is_below}
use Rattle.ost_types.specs.PathMap.{Nodes}
use Rattle.fs_trait.specs.declared.types.Value.TheVariants.{File}
use Rattle.fs_trait.specs.View.{View}
use Rattle.fs_trait.specs.Effect.{IsFresh}
use Rattle.fs_trait.specs.Seen.{Seen, Directory, Leaf, NotDirectory}
use Rattle.fs_trait.proofs.Claims.{is_below-before}
use Rattle.repo_layout.specs.Paths.{stage_path}
use Rattle.repo_layout.specs.BootPaths.{kernel_path}
use Rattle.boot_model.specs.declared.item.DepId.{DepId}
use Rattle.folder_build.specs.Node.{file_meta, folder_meta}
use Rattle.staged_file.specs.Staged.{Staged}
use Rattle.staged_file.specs.Steps as staging
use Rattle.staged_file.proofs.Stable.{staged_lies}
use Rattle.staged_file.proofs.Wholes.{written_in}
use Rattle.checkout.specs.CheckoutFolder.{leaf_path}
use Rattle.checkout.specs.CheckoutWork.{Checkout}
use Rattle.checkout.specs.CheckoutSteps as checkout
use Rattle.checkout.proofs.CheckoutStable.{checkout_lies}
use Rattle.tree_copy.specs.TreeWork.{TreeCopying}
use Rattle.tree_copy.specs.TreeSteps as tree
use Rattle.tree_copy.proofs.TreeStable.{copy_lies}
use Rattle.kernel_copy.specs.declared.files.KernelFiles.{KernelFiles}
use Rattle.kernel_copy.specs.Copies.{IsFor, initramfs_name, vmlinuz_name}
use Rattle.kernel_copy.specs.Work as kernels
use Rattle.kernel_copy.specs.Work.{KernelCopying}
use Rattle.kernel_copy.specs.Steps as kernel
use Rattle.kernel_copy.proofs.Stable.{Lies, copies_lie}
use Rattle.deployment_build.specs.Deployment.{etc_of, folder_of, origin_of}
use Rattle.deployment_build.proofs.Apart.{etc_below, in_files, kernel_folder_outside, kernel_outside, object_kernel, object_outside, origin_kernel, origin_object, origin_outside, outside_etc, stage_kernel, stage_object, stage_origin, stage_outside}
use Rattle.deployment_build.proofs.Keeping.{SparesEtc, SparesFiles, SparesGround, TakesNoFolder, above_spared}

-- ---- writes in the files

-- they lie there, where no folder stood
pub record IsInside (W : Path → Seen → Type 0) (id : DepId) (v : View) : Type 0 where
  pub below : (p : Path) (s : Seen) → W p s → is_below (folder_of id) p ≡ true
  pub folders : TakesNoFolder W v

module _ (W : Path → Seen → Type 0) (id : DepId) (v : View) (inside : IsInside W id v) where
  pub objects_spared : (sum : List ℕ) (s : Seen) → W (leaf_path sum) s → ⊥
  objects_spared sum s a = object_outside id sum (inside.below (leaf_path sum) s a)

  pub ground_spared : (actor : ℕ) (stage : Path) → stage ≡ stage_path actor → (os : Name) (files : KernelFiles) → SparesGround W stage os files v
  ground_spared actor stage is os files = record {
    above = above_spared W v inside.folders (kernel_path os files.bootcsum);
    folder = λ s a. absurd (kernel_folder_outside id os files.bootcsum (inside.below (kernel_path os files.bootcsum) s a));
    stages = above_spared W v inside.folders stage;
    staged = λ s a. absurd (stage_outside id actor (subst (λ p. is_below (folder_of id) p ≡ true) is (inside.below stage s a)));
    kernel = λ s a. objects_spared files.kernel s a;
    initramfs = λ sum s has a. objects_spared sum s a;
  }

pub checkout_inside : (c : Checkout) (id : DepId) (v : View) → c.into ≡ folder_of id → IsInside (checkout.WritesOf c v) id v
checkout_inside c id v into = record {
  below = λ p s a. subst (λ f. is_below f p ≡ true) into (checkout_lies c v p s a).below;
  folders = λ p s a. subst NotDirectory (sym (checkout_lies c v p s a).vacant) tt;
}

module _ (t : TreeCopying) (id : DepId) (v : View) (into : t.into ≡ etc_of id) (needs : tree.Needs t v) where
  etc_at : (p : Path) (s : Seen) → tree.WritesOf t v p s → is_below (etc_of id) p ≡ true
  etc_at p s a = subst (λ f. is_below f p ≡ true) into (copy_lies t v needs p s a).below

  pub etc_inside : IsInside (tree.WritesOf t v) id v
  etc_inside = record {
    below = λ p s a. etc_below (folder_of id) _ p (etc_at p s a);
    folders = λ p s a. (copy_lies t v needs p s a).folders;
  }

  pub etc_spares_files : (map : Nodes) → SparesFiles (tree.WritesOf t v) id map
  etc_spares_files map = record {
    outside = λ p s out a. outside_etc (folder_of id) p out (etc_at (folder_of id ++ p) s a);
    leaves = λ p sum s has a. objects_spared (tree.WritesOf t v) id v etc_inside sum s a;
  }

-- ---- writes elsewhere

-- they lie neither in the files nor at an object, and a file that is written is new or the staged one
pub record IsElsewhere (W : Path → Seen → Type 0) (id : DepId) (stage : Path) (v : View) : Type 0 where
  pub files : (p : Path) (s : Seen) → is_below (folder_of id) p ≡ true → W p s → ⊥
  pub objects : (sum : List ℕ) (s : Seen) → W (leaf_path sum) s → ⊥
  pub comes : (p : Path) (s : Seen) → W p s → (n : ℕ) (m : Meta) (b : List ℕ) → s ≡ Leaf n m b → IsFresh n v ⊎ (v.now.at stage ≡ File n)

in_etc : (id : DepId) (p : Path) → is_below (folder_of id) (etc_of id ++ p) ≡ true
in_etc id p = etc_below (folder_of id) _ (etc_of id ++ p) (is_below-before (etc_of id) p)

module _ (W : Path → Seen → Type 0) (id : DepId) (actor : ℕ) (stage : Path) (is : stage ≡ stage_path actor) (v : View) (away : IsElsewhere W id stage v) where
  pub files_spared : (map : Nodes) → SparesFiles W id map
  files_spared map = record {
    outside = λ p s out a. away.files (folder_of id ++ p) s (in_files id p) a;
    leaves = λ p sum s has a. away.objects sum s a;
  }

  pub etc_spared : (map : Nodes) → SparesEtc W id map v
  etc_spared map = record {
    below = λ p s a. away.files (etc_of id ++ p) s (in_etc id p) a;
    sources = λ p sum s has a. away.objects sum s a;
    own = λ p k at alone q s a m b e. ⊎_elim
        (λ fresh. absurd (fresh (etc_of id ++ p) (inl (sym at))))
        (λ staged.
        let there : stage_path actor ≡ etc_of id ++ p = sym is ∙ alone stage staged in
        absurd (stage_outside id actor (subst (λ x. is_below (folder_of id) x ≡ true) (sym there) (in_etc id p))))
        (away.comes q s a k m b e);
  }

-- ---- the origin file

module _ (o : Staged) (id : DepId) (actor : ℕ) (is : o.stage ≡ stage_path actor) (at : o.at ≡ origin_of id) (v : View) (needs : staging.Needs o v) where
  origin_at : (p : Path) (s : Seen) → staging.WritesOf o v p s → (p ≡ stage_path actor) ⊎ (p ≡ origin_of id)
  origin_at p s a = ⊎_elim (λ e. inl (e ∙ is)) (λ e. inr (e.0 ∙ at)) (staged_lies o v needs p s a).place

  not_below : (p : Path) → is_below (folder_of id) p ≡ true → (p ≡ stage_path actor) ⊎ (p ≡ origin_of id) → ⊥
  not_below p below (inl e) = stage_outside id actor (subst (λ q. is_below (folder_of id) q ≡ true) e below)
  not_below p below (inr e) = origin_outside id (subst (λ q. is_below (folder_of id) q ≡ true) e below)

  not_object : (sum : List ℕ) → (leaf_path sum ≡ stage_path actor) ⊎ (leaf_path sum ≡ origin_of id) → ⊥
  not_object sum (inl e) = stage_object actor sum e
  not_object sum (inr e) = origin_object id sum e

  not_kernel : (os bootcsum : List ℕ) → (kernel_path os bootcsum ≡ stage_path actor) ⊎ (kernel_path os bootcsum ≡ origin_of id) → ⊥
  not_kernel os bootcsum (inl e) = stage_kernel actor os bootcsum [] (append-nil (kernel_path os bootcsum) ∙ e)
  not_kernel os bootcsum (inr e) = origin_kernel id os bootcsum [] (append-nil (kernel_path os bootcsum) ∙ e)

  pub origin_elsewhere : IsElsewhere (staging.WritesOf o v) id o.stage v
  origin_elsewhere = record {
    files = λ p s below a. not_below p below (origin_at p s a);
    objects = λ sum s a. not_object sum (origin_at (leaf_path sum) s a);
    comes = λ p s a. (staged_lies o v needs p s a).comes;
  }

  folders : TakesNoFolder (staging.WritesOf o v) v
  folders p s a = (staged_lies o v needs p s a).folders

  staged_file : (s : Seen) → staging.WritesOf o v o.stage s → NotDirectory s
  staged_file s a = ⊎_elim (λ w. w.1) (λ w. absurd (stage_origin id actor (sym is ∙ w.0 ∙ at))) (written_in o.phase o v o.stage s a)

  pub origin_spares_ground : (os : Name) (files : KernelFiles) → SparesGround (staging.WritesOf o v) o.stage os files v
  origin_spares_ground os files = record {
    above = above_spared (staging.WritesOf o v) v folders (kernel_path os files.bootcsum);
    folder = λ s a. absurd (not_kernel os files.bootcsum (origin_at (kernel_path os files.bootcsum) s a));
    stages = above_spared (staging.WritesOf o v) v folders o.stage;
    staged = staged_file;
    kernel = λ s a. origin_elsewhere.objects files.kernel s a;
    initramfs = λ sum s has a. origin_elsewhere.objects sum s a;
  }

-- ---- the copies of the kernel

module _ (k : KernelCopying) (id : DepId) (actor : ℕ) (is : kernels.stage_of k ≡ stage_path actor) (v : View) (needs : kernel.Needs k v) where
  -- at the staging path, or in the folder of the copies
  abbrev IsThere : Path → Type 0
  IsThere p = (p ≡ stage_path actor) ⊎ ((rest : Path) × (p ≡ kernel_path k.os k.files.bootcsum ++ rest))

  of_copy : (at : Path) (sum : List ℕ) → IsFor k.os k.files at sum → IsThere at
  of_copy at sum (inl e) = inr (vmlinuz_name k.files.kver ∷ [], e.0)
  of_copy at sum (inr e) = inr (initramfs_name k.files.kver ∷ [], e.0)

  place : (p : Path) (s : Seen) → Lies k v p s → IsThere p
  place p s (inl staged) = inl (staged.place ∙ is)
  place p s (inr (inl new)) = inr ([], new.place ∙ sym (append-nil (kernel_path k.os k.files.bootcsum)))
  place p s (inr (inr whole)) = of_copy p whole.sum whole.place

  kernel_at : (p : Path) (s : Seen) → kernel.WritesOf k v p s → IsThere p
  kernel_at p s a = place p s (copies_lie k v needs p s a)

  kernel_not_below : (p : Path) → is_below (folder_of id) p ≡ true → IsThere p → ⊥
  kernel_not_below p below (inl e) = stage_outside id actor (subst (λ q. is_below (folder_of id) q ≡ true) e below)
  kernel_not_below p below (inr e) = kernel_outside id k.os k.files.bootcsum e.0 (subst (λ q. is_below (folder_of id) q ≡ true) e.1 below)

  kernel_not_object : (sum : List ℕ) → IsThere (leaf_path sum) → ⊥
  kernel_not_object sum (inl e) = stage_object actor sum e
  kernel_not_object sum (inr e) = object_kernel sum k.os k.files.bootcsum e.0 e.1

  kernel_not_origin : IsThere (origin_of id) → ⊥
  kernel_not_origin (inl e) = stage_origin id actor (sym e)
  kernel_not_origin (inr e) = origin_kernel id k.os k.files.bootcsum e.0 (sym e.1)

  comes_in : (p : Path) (s : Seen) → Lies k v p s → (n : ℕ) (m : Meta) (b : List ℕ) → s ≡ Leaf n m b → IsFresh n v ⊎ (v.now.at (kernels.stage_of k) ≡ File n)
  comes_in p s (inl staged) n m b e = staged.comes n m b e
  comes_in p s (inr (inl new)) n m b e = let no_ : Directory folder_meta ≡ Leaf n m b = sym new.is ∙ e in cc
  comes_in p s (inr (inr whole)) n m b e =
      let same : Leaf whole.inode file_meta whole.bytes ≡ Leaf n m b = sym whole.is ∙ e in
      let i : whole.inode ≡ n = cc in
      inr (whole.staged ∙ ap File i)

  pub kernel_elsewhere : IsElsewhere (kernel.WritesOf k v) id (kernels.stage_of k) v
  kernel_elsewhere = record {
    files = λ p s below a. kernel_not_below p below (kernel_at p s a);
    objects = λ sum s a. kernel_not_object sum (kernel_at (leaf_path sum) s a);
    comes = λ p s a. comes_in p s (copies_lie k v needs p s a);
  }

  pub kernel_spares_origin : (s : Seen) → kernel.WritesOf k v (origin_of id) s → ⊥
  kernel_spares_origin s a = kernel_not_origin (kernel_at (origin_of id) s a)
