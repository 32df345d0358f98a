-- Where a step of the task writes, for all others; and its facts stay true under what others may write.
use Rattle.std.proofs.Common.{◌≡◌, ◌⊎◌, inl, inr, ⊎_elim, ℕ, true, refl, sym, ◌∙◌, ap, subst, List, ◌++◌, Some, codes}
use Rattle.ost_types.specs.declared.node.NodeName.TheVariants.{Leaf}
use Rattle.ost_types.specs.Path.{Path, is_below}
use Rattle.ost_types.specs.PathMap.{node_at}
use Rattle.ost_types.proofs.Paths.{is_below-self, under-folder, under-is_in}
use Rattle.fs_trait.specs.declared.types.Value.TheVariants.{File}
use Rattle.fs_trait.specs.View.{View}
use Rattle.fs_trait.specs.Seen.{IsDirectory, MayBe, Seen}
use Rattle.fs_trait.specs.Change.{Harmless, LeadsTo, Own, Writes}
use Rattle.fs_trait.proofs.Claims.{is_below-before}
use Rattle.fs_trait.proofs.Facts.{shows_kept}
use Rattle.repo_layout.specs.BootPaths.{kernel_path}
use Rattle.file_copy.proofs.CopyLemmas.{reads_kept}
use Rattle.staged_file.proofs.Stable as staging
use Rattle.checkout.specs.CheckoutFolder.{leaf_path}
use Rattle.checkout.proofs.CheckoutStable as checkout
use Rattle.tree_copy.specs.TreeFolder.{IsAlone}
use Rattle.tree_copy.proofs.TreeStable as tree
use Rattle.kernel_copy.specs.Copies.{AreCopied, IsFor, initramfs_path, vmlinuz_path}
use Rattle.kernel_copy.proofs.Stable as kernel
use Rattle.deployment_build.specs.declared.phase.BuildPhase.{BuildPhase}
use Rattle.deployment_build.specs.declared.phase.BuildPhase.TheVariants.{Checkout, Etc, Origin, Kernel, Ended, Refused}
use Rattle.deployment_build.specs.Deployment.{deployments, etc_of, folder_of, origin_of}
use Rattle.deployment_build.specs.Work.{Building, IsMade, stage_of}
use Rattle.deployment_build.specs.Steps.{Ground, HasFiles, HasWay, Needs, WritesOf, etc_free, needs_in, writes_in}
use Rattle.deployment_build.proofs.Apart.{etc_below, in_files}
use Rattle.deployment_build.proofs.Keeping.{KeepsAbove, SparesEtc, SparesInodes, etc_kept, files_kept, ground_kept, origin_kept, sources_kept, way_kept}

-- ---- its own writes

-- In the files; or at the origin file; or where files are staged; or at the folder of the kernel's copies, or at one of these.
abbrev pub IsOwnPath : Building → Path → Type 0
IsOwnPath t p = (is_below (folder_of t.id) p ≡ true) ⊎ ((p ≡ origin_of t.id) ⊎ ((p ≡ stage_of t) ⊎ ((p ≡ kernel_path t.id.os t.kernel.files.bootcsum) ⊎ ((sum : List ℕ) × IsFor t.id.os t.kernel.files p sum))))

-- as the part that is being made tells of its own
abbrev pub lies_in : BuildPhase → Building → View → Path → Seen → Type 0
lies_in Checkout t v p s = checkout.Lies t.checkout v p s
lies_in Etc t v p s = tree.Lies t.etc v p s
lies_in Origin t v p s = staging.Lies t.origin v p s
lies_in Kernel t v p s = kernel.Lies t.kernel v p s
lies_in ph t v p s = ⊥

-- Where a write of the next step lies.
pub record Lies (t : Building) (v : View) (p : Path) (s : Seen) : Type 0 where
  pub place : IsOwnPath t p
  pub part : lies_in t.phase t v p s

module _ (t : Building) (v : View) (made : IsMade t) where
  lies : (ph : BuildPhase) → needs_in ph t v → (p : Path) (s : Seen) → writes_in ph t v p s → lies_in ph t v p s
  lies Checkout needs p s a = checkout.checkout_lies t.checkout v p s a
  lies Etc needs p s a = tree.copy_lies t.etc v needs.part p s a
  lies Origin needs p s a = staging.staged_lies t.origin v needs.part p s a
  lies Kernel needs p s a = kernel.copies_lie t.kernel v needs.part p s a
  lies Ended needs p s a = absurd a
  lies Refused needs p s a = absurd a

  kernel_place : (p : Path) (s : Seen) → kernel.Lies t.kernel v p s → IsOwnPath t p
  kernel_place p s (inl staged) = inr (inr (inl (staged.place ∙ made.stages)))
  kernel_place p s (inr (inl new)) = inr (inr (inr (inl (new.place ∙ ap (λ o. kernel_path o t.kernel.files.bootcsum) made.os))))
  kernel_place p s (inr (inr whole)) = inr (inr (inr (inr (whole.sum, subst (λ o. IsFor o t.kernel.files p whole.sum) made.os whole.place))))

  place : (ph : BuildPhase) (p : Path) (s : Seen) → lies_in ph t v p s → IsOwnPath t p
  place Checkout p s l = inl (subst (λ f. is_below f p ≡ true) made.files.into l.below)
  place Etc p s l = inl (etc_below (folder_of t.id) _ p (subst (λ f. is_below f p ≡ true) made.etc l.below))
  place Origin p s l = ⊎_elim (λ e. inr (inr (inl e))) (λ e. inr (inl (e.0 ∙ made.origin.at))) l.place
  place Kernel p s l = kernel_place p s l
  place Ended p s l = absurd l
  place Refused p s l = absurd l

pub build_lies : (t : Building) (v : View) → Needs t v → (p : Path) (s : Seen) → WritesOf t v p s → Lies t v p s
build_lies t v needs p s a =
    let part = lies t v needs.made t.phase needs.meets p s a in
    record { place = place t v needs.made t.phase p s part; part = part }

-- ---- the writes of others

-- the object of a leaf of the tree, of one of what `etc` is to be, or of the kernel or what it first mounts
abbrev pub IsObject : Building → List ℕ → Type 0
IsObject t sum = ((p : Path) × (node_at t.checkout.tree p ≡ Some (Leaf sum))) ⊎ (((p : Path) × (node_at t.etc.tree p ≡ Some (Leaf sum))) ⊎ ((at : Path) × IsFor t.id.os t.kernel.files at sum))

-- a path above which folders stay: that of the files, of the staged file, or of the folder of the kernel's copies
abbrev pub IsTop : Building → Path → Type 0
IsTop t top = (top ≡ folder_of t.id) ⊎ ((top ≡ stage_of t) ⊎ (top ≡ kernel_path t.id.os t.kernel.files.bootcsum))

-- They spare the deployment: they write nothing in its files, at its origin file, at the staging path, at the copies of the kernel, nor
-- at the objects of its parts, and nothing but a folder at the folder of the copies. They leave folders above, and those that lead to
-- the deployments, and give the inodes of the files in `etc`, and that of the staged file, no other name.
pub record Spares (W : Path → Seen → Type 0) (t : Building) (v : View) : Type 0 where
  pub files : (p : Path) (s : Seen) → is_below (folder_of t.id) p ≡ true → W p s → ⊥
  pub origin : (s : Seen) → W (origin_of t.id) s → ⊥
  pub stage : (s : Seen) → W (stage_of t) s → ⊥
  pub copies : (at : Path) (sum : List ℕ) (s : Seen) → IsFor t.id.os t.kernel.files at sum → W at s → ⊥
  pub objects : (sum : List ℕ) (s : Seen) → IsObject t sum → W (leaf_path sum) s → ⊥
  pub folder : (s : Seen) → W (kernel_path t.id.os t.kernel.files.bootcsum) s → IsDirectory s
  pub above : (top : Path) → IsTop t top → KeepsAbove W top v
  pub way : HasWay t.id.os v → Harmless W (LeadsTo (deployments t.id.os))
  pub inodes : SparesInodes W t.id v
  pub staged : (n : ℕ) → v.now.at (stage_of t) ≡ File n → ((p : Path) (s : Seen) → MayBe v p s → Own n (stage_of t) p s) → Harmless W (Own n (stage_of t))

module _ (W : Path → Seen → Type 0) (t : Building) (v : View) (spares : Spares W t v) (made : IsMade t) (w : View) (writes : Writes W v w) where
  -- ---- what was made

  etc_in : (p : Path) → is_below (folder_of t.id) (etc_of t.id ++ p) ≡ true
  etc_in p = etc_below (folder_of t.id) _ (etc_of t.id ++ p) (is_below-before (etc_of t.id) p)

  files_on : HasFiles t v.now → HasFiles t w.now
  files_on was = files_kept W v w writes t.id t.checkout.tree
      (record { outside = λ p s out a. spares.files (folder_of t.id ++ p) s (in_files t.id p) a; leaves = λ p sum s has a. spares.objects sum s (inl (p, has)) a }) was

  sources_out : (p : Path) (sum : List ℕ) (s : Seen) → node_at t.etc.tree p ≡ Some (Leaf sum) → W (leaf_path sum) s → ⊥
  sources_out p sum s has a = spares.objects sum s (inr (inl (p, has))) a

  etc_spared : SparesEtc W t.id t.etc.tree v
  etc_spared = record { below = λ p s a. spares.files (etc_of t.id ++ p) s (etc_in p) a; sources = sources_out; own = spares.inodes }

  object_out : (at : Path) (sum : List ℕ) (s : Seen) → IsFor t.id.os t.kernel.files at sum → W (leaf_path sum) s → ⊥
  object_out at sum s for_ a = spares.objects sum s (inr (inr (at, for_))) a

  ground_on : Ground t v.now → Ground t w.now
  ground_on was = ground_kept W v w writes (stage_of t) t.id.os t.kernel.files
      (record {
        above = spares.above (kernel_path t.id.os t.kernel.files.bootcsum) (inr (inr refl));
        folder = spares.folder;
        stages = spares.above (stage_of t) (inr (inl refl));
        staged = λ s a. absurd (spares.stage s a);
        kernel = λ s a. object_out (vmlinuz_path t.id.os t.kernel.files) t.kernel.files.kernel s (inl (refl, refl)) a;
        initramfs = λ sum s has a. object_out (initramfs_path t.id.os t.kernel.files) sum s (inr (refl, has)) a;
      }) was

  way_on : HasWay t.id.os v → HasWay t.id.os w
  way_on was = way_kept W v w writes t.id.os (spares.way was) was

  -- ---- by the part that is being made

  checkout_spared : checkout.Spares W t.checkout v
  checkout_spared = record {
    below = λ p s below a. spares.files p s (subst (λ f. is_below f p ≡ true) made.files.into below) a;
    leaves = λ p sum s has a. spares.objects sum s (inl (p, has)) a;
    parents = subst (λ f. KeepsAbove W f v) (sym made.files.into) (spares.above (folder_of t.id) (inl refl));
  }

  -- above `etc` are the files
  etc_above : KeepsAbove W (etc_of t.id) v
  etc_above p s in_ there a =
      let u = under-is_in p (etc_of t.id) in_ in
      let same = under-folder (folder_of t.id) p (codes "etc") u.0 u.1 in
      absurd (spares.files p s (subst (λ q. is_below (folder_of t.id) q ≡ true) same (is_below-self (folder_of t.id))) a)

  tree_spared : tree.Spares W t.etc v
  tree_spared = record {
    below = λ p s below a. spares.files p s (etc_below (folder_of t.id) _ p (subst (λ f. is_below f p ≡ true) made.etc below)) a;
    sources = sources_out;
    parents = subst (λ f. KeepsAbove W f v) (sym made.etc) etc_above;
    own = subst (λ f. (p : Path) (k : ℕ) → v.now.at (f ++ p) ≡ File k → IsAlone v.now k (f ++ p) → (q : Path) (s : Seen) → W q s → Own k (f ++ p) q s) (sym made.etc) spares.inodes;
  }

  origin_spared : staging.Spares W t.origin v
  origin_spared = record {
    stage = spares.stage;
    leads = subst (λ f. ((p : Path) (s : Seen) → MayBe v p s → LeadsTo f p s) → Harmless W (LeadsTo f)) (sym made.origin.folder) spares.way;
    parents = spares.above (stage_of t) (inr (inl refl));
    own = spares.staged;
    target = λ s a. absurd (spares.origin s (subst (λ p. W p s) made.origin.at a));
  }

  for_id : (at : Path) (sum : List ℕ) → IsFor t.kernel.os t.kernel.files at sum → IsFor t.id.os t.kernel.files at sum
  for_id at sum for_ = subst (λ o. IsFor o t.kernel.files at sum) made.os for_

  copies_spared : kernel.Spares W t.kernel v
  copies_spared = record {
    stage = λ s a. spares.stage s (subst (λ p. W p s) made.stages a);
    copies = λ at sum s for_ a. spares.copies at sum s (for_id at sum for_) a;
    objects = λ at sum s for_ a. object_out at sum s (for_id at sum for_) a;
    folder = λ s a. spares.folder s (subst (λ o. W (kernel_path o t.kernel.files.bootcsum) s) made.os a);
    above = subst (λ o. KeepsAbove W (kernel_path o t.kernel.files.bootcsum) v) (sym made.os) (spares.above (kernel_path t.id.os t.kernel.files.bootcsum) (inr (inr refl)));
    stages = subst (λ p. KeepsAbove W p v) (sym made.stages) (spares.above (stage_of t) (inr (inl refl)));
    own = subst (λ q. (n : ℕ) → v.now.at q ≡ File n → ((p : Path) (s : Seen) → MayBe v p s → Own n q p s) → Harmless W (Own n q)) (sym made.stages) spares.staged;
  }

  copied_on : AreCopied v.now t.id.os t.kernel.files → AreCopied w.now t.id.os t.kernel.files
  copied_on was at sum for_ =
      let is = was at sum for_ in
      (is.0, reads_kept W v w at writes (λ s a. spares.copies at sum s for_ a) ∙ is.1, reads_kept W v w (leaf_path sum) writes (λ s a. object_out at sum s for_ a) ∙ is.2)

  kept_in : (ph : BuildPhase) → needs_in ph t v → needs_in ph t w
  kept_in Checkout was = record {
    part = checkout.checkout_kept W t.checkout v checkout_spared w writes was.part;
    going = was.going;
    sources = sources_kept W v w writes t.etc.tree sources_out was.sources;
    way = way_on was.way;
    ground = ground_on was.ground;
  }
  kept_in Etc was = record {
    files = files_on was.files;
    part = tree.copy_kept W t.etc v tree_spared w writes was.part;
    free = subst (λ s. etc_free t.etc.phase s) (sym (shows_kept W v w (etc_of t.id) writes (λ s a. spares.files (etc_of t.id) s (etc_below (folder_of t.id) _ (etc_of t.id) (is_below-self (etc_of t.id))) a))) was.free;
    way = way_on was.way;
    ground = ground_on was.ground;
  }
  kept_in Origin was = record {
    files = files_on was.files;
    etc = etc_kept W v w writes t.id t.etc.tree etc_spared was.etc;
    part = staging.staged_kept W t.origin v origin_spared was.part w writes;
    ground = ground_on was.ground;
  }
  kept_in Kernel was = record {
    files = files_on was.files;
    etc = etc_kept W v w writes t.id t.etc.tree etc_spared was.etc;
    origin = origin_kept W v w writes t.id t.origin.bytes spares.origin was.origin;
    part = kernel.copies_kept W t.kernel v copies_spared was.part w writes;
  }
  kept_in Ended was = record {
    files = files_on was.files;
    etc = etc_kept W v w writes t.id t.etc.tree etc_spared was.etc;
    origin = origin_kept W v w writes t.id t.origin.bytes spares.origin was.origin;
    kernel = copied_on was.kernel;
  }
  kept_in Refused was = tt

-- The facts of the task stay true.
pub build_kept : (W : Path → Seen → Type 0) (t : Building) (v : View) → Spares W t v → Needs t v → (w : View) → Writes W v w → Needs t w
build_kept W t v spares needs w writes = record { made = needs.made; meets = kept_in W t v spares needs.made w writes t.phase needs.meets }
