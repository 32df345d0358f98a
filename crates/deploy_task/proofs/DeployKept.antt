-- What a step needs stays true under what others may write.
use Rattle.std.proofs.Common.{◌≡◌, ◌⊎◌, inl, inr, ℕ, zero, suc, ◌<◌, arith, true, List, [], ◌∷◌, ◌++◌, Some, refl, sym, ◌∙◌, ap, subst}
use Rattle.ost_types.specs.declared.node.NodeName.TheVariants.{Leaf}
use Rattle.ost_types.specs.Path.{Path, is_below, under}
use Rattle.ost_types.specs.PathMap.{Nodes, node_at}
use Rattle.ost_types.proofs.Paths.{is_below-self, under-is_in}
use Rattle.fs_trait.specs.View.{View}
use Rattle.fs_trait.specs.Image.{IsTree}
use Rattle.fs_trait.specs.declared.types.Value.TheVariants.{File}
use Rattle.fs_trait.specs.Seen.{Seen, MayBe}
use Rattle.fs_trait.specs.Change.{Harmless, Own, Writes}
use Rattle.fs_trait.proofs.Claims.{is_below-before}
use Rattle.fs_trait.proofs.Facts.{shows_kept}
use Rattle.repo_layout.specs.declared.fixed.Version.TheVariants.{Zero, One}
use Rattle.repo_layout.specs.BootPaths.{boot_folder_path, boot_link_path, kernel_path, loader_folder_path}
use Rattle.boot_model.specs.declared.item.DepId.{DepId}
use Rattle.boot_model.specs.declared.item.BootItem.{BootItem}
use Rattle.boot_model.specs.Items.{IsAt}
use Rattle.checkout.specs.CheckoutFolder.{IsLeaf, leaf_path}
use Rattle.tree_read.specs.Reading as walk
use Rattle.tree_read.specs.Reading.{Reading}
use Rattle.tree_read.proofs.Walk.{mapped, unmapped}
use Rattle.tree_walk.specs.Standing.{Standing}
use Rattle.tree_scan.specs.SoFar as scans
use Rattle.tree_scan.proofs.Kept.{scan_kept}
use Rattle.file_copy.proofs.CopyLemmas.{reads_kept}
use Rattle.kernel_copy.specs.declared.files.KernelFiles.{KernelFiles}
use Rattle.kernel_copy.specs.Copies.{IsFor, initramfs_path, vmlinuz_path}
use Rattle.deploy_etc.specs.Defaults.{AreDefaults, defaults_path}
use Rattle.deployment_build.specs.declared.deployment.NewDeployment.{NewDeployment}
use Rattle.deployment_build.specs.Deployment.{IsBuilt, deployments, etc_of, folder_of, origin_of}
use Rattle.deployment_build.specs.Work.{Building}
use Rattle.deployment_build.specs.Steps as builds
use Rattle.deployment_build.specs.Steps.{HasWay}
use Rattle.deployment_build.proofs.Apart.{etc_below, files_under, id_name, in_files}
use Rattle.deployment_build.proofs.Keeping.{KeepsAbove, SparesInodes, etc_kept, files_kept, ground_kept, origin_kept, sources_kept, way_kept}
use Rattle.deployment_build.proofs.Stable as building
use Rattle.deployment_build.proofs.Stable.{build_kept}
use Rattle.deploy_clean.specs.Cleaning.{Cleaning}
use Rattle.deploy_clean.specs.Steps as cleaning
use Rattle.deploy_clean.specs.Steps.{Goes}
use Rattle.deploy_clean.specs.Unlisted as unlisted
use Rattle.deploy_clean.proofs.Keeping.{clean_kept, clean_spared}
use Rattle.boot_swap.specs.Steps.{IsAround}
use Rattle.boot_swap.proofs.Spots.{Link, LinkFolder, Loader, LoaderFolder, below_trans}
use Rattle.deploy_task.specs.declared.phase.Phase.{Phase}
use Rattle.deploy_task.specs.declared.phase.Phase.TheVariants.{Clean, Choose, Source, Etc, BeginBuild, Build, BeginSwap, Swap, Ended}
use Rattle.deploy_task.specs.Listed.{ids_in}
use Rattle.deploy_task.specs.Deploying.{Deploying, IsMade, item_of, items_of, made_in, new_items, new_of}
use Rattle.deploy_task.specs.Spared.{IsHeld, Spares, reads_at}
use Rattle.deploy_task.specs.Steps.{HasNew, HasSource, IsCleaned, IsDeployed, IsFree, IsKnown, IsReady, Needs, free_in, needs_in}
use Rattle.deploy_task.proofs.NewItems.{member_at}
use Rattle.deploy_task.proofs.Numbers.{not_listed}
use Rattle.deploy_task.proofs.SwapKept.{SparesSwap, places_on, settled_on, swap_kept}
use Rattle.deploy_task.proofs.SwapPart.{stays}
use Rattle.deploy_task.proofs.Unread.{IsNear, boots_kept}

-- the members of the new list are those of the old one, and the new one
new_member : (t : Deploying) → IsMade t → (i : ℕ) (item : BootItem) → IsAt (new_items t.plan t.id t.kept) i item → IsHeld t item.id
new_member t made zero item at = let same : item_of t.plan t.id ≡ item = at.1 in inr (sym (ap (λ (x : BootItem). x.id) same))
new_member t made (suc i) item at =
    let inside = at.0 in
    let m = member_at (items_of t.plan) 0 t.kept (stays t made) i item (omega (arith, inside), at.1) in
    inl (mapped (λ (x : BootItem). x.id) (items_of t.plan) item (m.0, m.2.0, m.2.1))

module _ (W : Path → Seen → Type 0) (t : Deploying) (v w : View) (writes : Writes W v w) (spares : Spares W t v w) (made : IsMade t) where
  -- ---- what boots

  spares_items : (items : List BootItem) → ((i : ℕ) (item : BootItem) → IsAt items i item → IsHeld t item.id) → SparesSwap W items v
  spares_items items held = record {
    spots = λ a p s wrote around. spares.boot.spots a p s wrote around;
    comes = spares.boot.comes;
    deployments = λ i item at p s wrote below. spares.deployments item.id (held i item at) p s wrote below;
  }

  old_held : (i : ℕ) (item : BootItem) → IsAt (items_of t.plan) i item → IsHeld t item.id
  old_held i item at = inl (mapped (λ (x : BootItem). x.id) (items_of t.plan) item (i, at.0, at.1))

  known_on : IsKnown t.plan v → IsKnown t.plan w
  known_on was = record {
    settled = settled_on W (items_of t.plan) v w writes (spares_items (items_of t.plan) old_held) was.settled;
    places = places_on W (items_of t.plan) v w writes (spares_items (items_of t.plan) old_held) was.places;
  }

  -- ---- the new deployment

  free : unlisted.IsFree (ids_in (items_of t.plan)) t.id
  free = record {
    stateroot = made.item.os;
    sum = made.item.commit;
    small = let s = made.numbered.small in omega (arith, s);
    unlisted = not_listed (items_of t.plan) t.plan.used.items t.plan.os t.plan.commit t.id t.kept made.numbered;
  }

  own : (p : Path) → is_below (folder_of t.id) p ≡ true → Goes (ids_in (items_of t.plan)) p
  own p below = (folder_of t.id, (t.id, free, inl refl), below)

  no_files : (p : Path) (s : Seen) → is_below (folder_of t.id) p ≡ true → W p s → ⊥
  no_files p s below wrote = spares.unlisted p s wrote (own p below)

  no_origin : (s : Seen) → W (origin_of t.id) s → ⊥
  no_origin s wrote = spares.unlisted (origin_of t.id) s wrote (origin_of t.id, (t.id, free, inr refl), is_below-self (origin_of t.id))

  for_os : (at : Path) (sum : List ℕ) → IsFor t.id.os t.plan.kernel at sum → IsFor t.plan.os t.plan.kernel at sum
  for_os at sum f = subst (λ o. IsFor o t.plan.kernel at sum) made.numbered.stateroot f

  no_copy : (at : Path) (sum : List ℕ) (s : Seen) → IsFor t.id.os t.plan.kernel at sum → W at s → ⊥
  no_copy at sum s f wrote = spares.new.copies at sum s (for_os at sum f) wrote

  no_leaf : (p : Path) (sum : List ℕ) (s : Seen) → node_at t.plan.tree p ≡ Some (Leaf sum) → W (leaf_path sum) s → ⊥
  no_leaf p sum s has wrote = spares.new.objects sum s (inl (p, has)) wrote

  no_default : (etc : Nodes) → AreDefaults t.plan.tree etc → (p : Path) (sum : List ℕ) (s : Seen) → node_at etc p ≡ Some (Leaf sum) → W (leaf_path sum) s → ⊥
  no_default etc are p sum s has wrote = no_leaf (defaults_path ++ p) sum s (sym (are p) ∙ has) wrote

  no_kernel : (at : Path) (sum : List ℕ) (s : Seen) → IsFor t.id.os t.plan.kernel at sum → W (leaf_path sum) s → ⊥
  no_kernel at sum s f wrote = spares.new.objects sum s (inr (at, for_os at sum f)) wrote

  in_etc : (p : Path) → is_below (folder_of t.id) (etc_of t.id ++ p) ≡ true
  in_etc p = etc_below (folder_of t.id) _ (etc_of t.id ++ p) (is_below-before (etc_of t.id) p)

  built_on : (etc : Nodes) → AreDefaults t.plan.tree etc → IsBuilt v.now (new_of t.plan t.id etc) → IsBuilt w.now (new_of t.plan t.id etc)
  built_on etc are was = record {
    files = files_kept W v w writes t.id t.plan.tree (record { outside = λ p s out wrote. no_files (folder_of t.id ++ p) s (in_files t.id p) wrote; leaves = λ p sum s has wrote. no_leaf p sum s has wrote }) was.files;
    etc = etc_kept W v w writes t.id etc (record { below = λ p s wrote. no_files (etc_of t.id ++ p) s (in_etc p) wrote; sources = no_default etc are; own = spares.new.inodes }) was.etc;
    origin = origin_kept W v w writes t.id t.plan.origin no_origin was.origin;
    kernel = λ at sum f.
        let is = was.kernel at sum f in
        (is.0, reads_kept W v w at writes (λ s wrote. no_copy at sum s f wrote) ∙ is.1, reads_kept W v w (leaf_path sum) writes (λ s wrote. no_kernel at sum s f wrote) ∙ is.2);
  }

  new_on : HasNew t v.now → HasNew t w.now
  new_on was = (was.0, was.1, built_on was.0 was.1 was.2)

  -- ---- what it will need

  on_way : (p : Path) (s : Seen) → W p s → is_below p (deployments t.id.os) ≡ true → ⊥
  on_way p s wrote below = spares.deployments t.id (inr refl) p s wrote
      (subst (λ q. is_below p q ≡ true) (sym (files_under t.id)) (below_trans p (deployments t.id.os) (under (deployments t.id.os) (id_name t.id)) below (is_below-before (deployments t.id.os) (id_name t.id ∷ []))))

  way_on : HasWay t.plan.os v → HasWay t.plan.os w
  way_on was = way_kept W v w writes t.plan.os (λ p s wrote below. absurd (on_way p s wrote (subst (λ o. is_below p (deployments o) ≡ true) (sym made.numbered.stateroot) below))) was

  ready_on : IsReady t.plan v → IsReady t.plan w
  ready_on was = record {
    known = known_on was.known;
    way = way_on was.way;
    leaves = λ p sum has. subst IsLeaf (sym (shows_kept W v w (leaf_path sum) writes (λ s wrote. no_leaf p sum s has wrote))) (was.leaves p sum has);
    sources = sources_kept W v w writes t.plan.tree no_leaf was.sources;
    ground = ground_kept W v w writes t.plan.stage t.plan.os t.plan.kernel (record {
      above = spares.new.above;
      folder = spares.new.folder;
      stages = spares.new.stages;
      staged = λ s wrote. absurd (spares.new.stage s wrote);
      kernel = λ s wrote. spares.new.objects t.plan.kernel.kernel s (inr (vmlinuz_path t.plan.os t.plan.kernel, inl (refl, refl))) wrote;
      initramfs = λ sum s has wrote. spares.new.objects sum s (inr (initramfs_path t.plan.os t.plan.kernel, inr (refl, has))) wrote;
    }) was.ground;
  }

  cleaned_on : IsCleaned t.plan v → IsCleaned t.plan w
  cleaned_on was = record {
    ready = ready_on was.ready;
    clean = λ p is. shows_kept W v w p writes (λ s wrote. spares.unlisted p s wrote (p, is, is_below-self p)) ∙ was.clean p is;
  }

  source_on : (defaults : Nodes) → HasSource t.plan v defaults → HasSource t.plan w defaults
  source_on defaults was = record {
    source = was.source;
    is_source = was.is_source;
    tree = was.tree;
    has = (spares.commit was.source was.is_source).whole was.tree was.has;
    are = was.are;
  }

  walk_on : (u : Reading) → made_in (Source u) t → walk.IsSoFar (Standing v.now) u → walk.IsSoFar (Standing w.now) u
  walk_on u part so begun = (spares.commit part.1.source part.1.is_source).walks u part.1.commit (so begun)

  -- ---- while it is built

  module _ (b : Building) (part : made_in (Build b) t) where
    id_is : b.id ≡ t.id
    id_is = ap (λ (n : NewDeployment). n.id) part.1.new

    kernel_is : b.kernel.files ≡ t.plan.kernel
    kernel_is = ap (λ (n : NewDeployment). n.kernel) part.1.new

    for_new : (at : Path) (sum : List ℕ) → IsFor b.id.os b.kernel.files at sum → IsFor t.id.os t.plan.kernel at sum
    for_new at sum f = subst (λ (i : DepId). IsFor i.os t.plan.kernel at sum) id_is (subst (λ (k : KernelFiles). IsFor b.id.os k at sum) kernel_is f)

    home_is : kernel_path b.id.os b.kernel.files.bootcsum ≡ kernel_path t.plan.os t.plan.kernel.bootcsum
    home_is =
        ap (λ (i : DepId). kernel_path i.os b.kernel.files.bootcsum) id_is ∙ ap (λ (k : KernelFiles). kernel_path t.id.os k.bootcsum) kernel_is ∙ ap (λ o. kernel_path o t.plan.kernel.bootcsum) made.numbered.stateroot

    no_object : (sum : List ℕ) (s : Seen) → building.IsObject b sum → W (leaf_path sum) s → ⊥
    no_object sum s (inl o) wrote = no_leaf o.0 sum s (subst (λ (n : Nodes). node_at n o.0 ≡ Some (Leaf sum)) (ap (λ (n : NewDeployment). n.tree) part.1.new) o.1) wrote
    no_object sum s (inr (inl o)) wrote = no_default part.1.etc part.1.defaults o.0 sum s (subst (λ (n : Nodes). node_at n o.0 ≡ Some (Leaf sum)) (ap (λ (n : NewDeployment). n.etc) part.1.new) o.1) wrote
    no_object sum s (inr (inr o)) wrote = no_kernel o.0 sum s (for_new o.0 sum o.1) wrote

    files_above : KeepsAbove W (folder_of t.id) v
    files_above p s in_ there wrote =
        let u = under-is_in p (folder_of t.id) in_ in
        absurd (spares.deployments t.id (inr refl) p s wrote (subst (λ q. is_below p q ≡ true) (sym u.1) (is_below-before p (u.0 ∷ []))))

    tops : (top : Path) → building.IsTop b top → KeepsAbove W top v
    tops top (inl is) = subst (λ q. KeepsAbove W q v) (sym (is ∙ ap folder_of id_is)) files_above
    tops top (inr (inl is)) = subst (λ q. KeepsAbove W q v) (sym (is ∙ part.1.stage)) spares.new.stages
    tops top (inr (inr is)) = subst (λ q. KeepsAbove W q v) (sym (is ∙ home_is)) spares.new.above

    build_spared : building.Spares W b v
    build_spared = record {
      files = λ p s below wrote. no_files p s (subst (λ (i : DepId). is_below (folder_of i) p ≡ true) id_is below) wrote;
      origin = λ s wrote. no_origin s (subst (λ (i : DepId). W (origin_of i) s) id_is wrote);
      stage = λ s wrote. spares.new.stage s (subst (λ q. W q s) part.1.stage wrote);
      copies = λ at sum s f wrote. no_copy at sum s (for_new at sum f) wrote;
      objects = no_object;
      folder = λ s wrote. spares.new.folder s (subst (λ q. W q s) home_is wrote);
      above = tops;
      way = λ has p s wrote below. absurd (on_way p s wrote (subst (λ (i : DepId). is_below p (deployments i.os) ≡ true) id_is below));
      inodes = subst (λ (i : DepId). SparesInodes W i v) (sym id_is) spares.new.inodes;
      staged = subst (λ q. (n : ℕ) → v.now.at q ≡ File n → ((p : Path) (s : Seen) → MayBe v p s → Own n q p s) → Harmless W (Own n q)) (sym part.1.stage) spares.new.staged;
    }

    free_on : IsFree b v → IsFree b w
    free_on was = subst (λ s. free_in b.phase b.checkout.phase s)
        (sym (shows_kept W v w (folder_of b.id) writes (λ s wrote. no_files (folder_of b.id) s (subst (λ (i : DepId). is_below (folder_of i) (folder_of b.id) ≡ true) id_is (is_below-self (folder_of b.id))) wrote))) was

  -- ---- while it comes to boot

  items_held : (items : List BootItem) → items ≡ new_items t.plan t.id t.kept → (i : ℕ) (item : BootItem) → IsAt items i item → IsHeld t item.id
  items_held items is i item at = new_member t made i item (subst (λ l. IsAt l i item) is at)

  around_version : (n : ℕ) → n < 2 → (p : Path) (s : Seen) → W p s → (IsAround (loader_folder_path n) p ⊎ (is_below p (boot_link_path n) ≡ true)) ⊎ ((sub : ℕ) × (sub < 2) × IsAround (boot_folder_path n sub) p) → ⊥
  around_version zero less p s wrote (inl (inl a)) = spares.boot.spots (LoaderFolder Zero) p s wrote a
  around_version zero less p s wrote (inl (inr a)) = spares.boot.spots (Link Zero) p s wrote (inl a)
  around_version zero less p s wrote (inr (zero, small, a)) = spares.boot.spots (LinkFolder Zero Zero) p s wrote a
  around_version zero less p s wrote (inr (suc zero, small, a)) = spares.boot.spots (LinkFolder Zero One) p s wrote a
  around_version zero less p s wrote (inr (suc (suc k), small, a)) = absurd (omega (arith, small))
  around_version (suc zero) less p s wrote (inl (inl a)) = spares.boot.spots (LoaderFolder One) p s wrote a
  around_version (suc zero) less p s wrote (inl (inr a)) = spares.boot.spots (Link One) p s wrote (inl a)
  around_version (suc zero) less p s wrote (inr (zero, small, a)) = spares.boot.spots (LinkFolder One Zero) p s wrote a
  around_version (suc zero) less p s wrote (inr (suc zero, small, a)) = spares.boot.spots (LinkFolder One One) p s wrote a
  around_version (suc zero) less p s wrote (inr (suc (suc k), small, a)) = absurd (omega (arith, small))
  around_version (suc (suc n)) less p s wrote a = absurd (omega (arith, less))

  apart : (p : Path) (s : Seen) → W p s → ¬ (IsNear (ids_in (new_items t.plan t.id t.kept)) p)
  apart p s wrote (inl a) = spares.boot.spots Loader p s wrote (inl a)
  apart p s wrote (inr (inl (n, less, a))) = around_version n less p s wrote a
  apart p s wrote (inr (inr (id, among, below))) =
      let m = unmapped (λ (x : BootItem). x.id) (new_items t.plan t.id t.kept) id among in
      let held : IsHeld t m.0.id = new_member t made m.1.0 m.0 (m.1.1, m.1.2) in
      spares.deployments id (subst (IsHeld t) (sym m.2) held) p s wrote below

  deployed_on : IsTree v.now → IsDeployed t v → IsDeployed t w
  deployed_on tree was = record { built = new_on was.built; boots = boots_kept W (new_items t.plan t.id t.kept) v w tree writes apart was.boots }

  -- ---- by what the next step does

  clean_on : (c : Cleaning) → c.listed ≡ ids_in (items_of t.plan) → cleaning.Needs c v → cleaning.Needs c w
  clean_on c listed was = clean_kept W c v w writes (clean_spared W c was.made (λ p s wrote goes. spares.unlisted p s wrote (subst (λ l. Goes l p) listed goes))) was

  needs_on : IsTree v.now → (ph : Phase) → t.phase ≡ ph → made_in ph t → needs_in ph t v → needs_in ph t w
  needs_on tree (Clean c) is part was = (clean_on c part was.0, ready_on was.1)
  needs_on tree Choose is part was = cleaned_on was
  needs_on tree (Source u) is part was = (walk_on u part was.0, cleaned_on was.1)
  needs_on tree (Etc defaults s) is part was = (source_on defaults was.0, scan_kept W s v w writes (λ p x wrote below. spares.reads p x wrote (subst (λ ph. reads_at ph p) (sym is) below)) was.1, cleaned_on was.2)
  needs_on tree BeginBuild is part was = cleaned_on was
  needs_on tree (Build b) is part was = (build_kept W b v (build_spared b part) was.0 w writes, free_on b part was.1, known_on was.2)
  needs_on tree BeginSwap is part was = (new_on was.0, known_on was.1)
  needs_on tree (Swap sw) is part was = (swap_kept W sw v w writes (spares_items sw.items (items_held sw.items part.1)) was.0, new_on was.1)
  needs_on tree Ended is part was = deployed_on tree was

pub deploy_kept : (W : Path → Seen → Type 0) (t : Deploying) (v w : View) → IsTree v.now → Writes W v w → Spares W t v w → Needs t v → Needs t w
deploy_kept W t v w tree writes spares needs = record { made = needs.made; meets = needs_on W t v w writes spares needs.made tree t.phase refl needs.made.part needs.meets }
