-- What of a deployment stays where its paths are spared.
use Rattle.std.proofs.Common.{◌≡◌, ⊎_elim, ℕ, true, sym, ◌∙◌, subst, List, ◌++◌, Some}
use Rattle.ost_types.specs.declared.node.NodeName.TheVariants.{Leaf}
use Rattle.ost_types.specs.Path.{Name, Path, is_in}
use Rattle.ost_types.specs.PathMap.{Nodes, node_at}
use Rattle.fs_trait.specs.declared.types.Value.TheVariants.{File}
use Rattle.fs_trait.specs.View.{View}
use Rattle.fs_trait.specs.Seen.{Seen, Vacant, Directory, Symlink, Leaf as SeenLeaf, shows, IsDirectory, NotDirectory}
use Rattle.fs_trait.specs.Change.{Harmless, LeadsTo, Own, Writes}
use Rattle.fs_trait.proofs.Effects.{may_now}
use Rattle.fs_trait.proofs.Facts.{shows_kept}
use Rattle.fs_trait.proofs.Kept.{firm_kept}
use Rattle.repo_layout.specs.BootPaths.{kernel_path}
use Rattle.repo_layout.specs.Place.{IsOutsideEtc}
use Rattle.boot_model.specs.declared.item.DepId.{DepId}
use Rattle.file_copy.proofs.CopyLemmas.{reads_kept}
use Rattle.folder_build.specs.Node.{file_meta}
use Rattle.staged_file.specs.Steps.{IsFileWith}
use Rattle.checkout.specs.CheckoutFolder.{leaf_path}
use Rattle.checkout.specs.CheckoutSteps.{HasHome}
use Rattle.checkout.proofs.CheckoutLemmas.{Stands-kept}
use Rattle.checkout_compare.specs.Compare.{IsCheckoutOutsideEtc}
use Rattle.tree_copy.specs.TreeFolder.{HasSources, IsAlone, IsCopy, IsSource}
use Rattle.tree_copy.proofs.TreeKept as copied
use Rattle.kernel_copy.specs.declared.files.KernelFiles.{KernelFiles}
use Rattle.kernel_copy.specs.Steps.{HasObject, NotLeaf}
use Rattle.kernel_copy.proofs.PutMeans.{folder_no_leaf, some_kept}
use Rattle.deployment_build.specs.Deployment.{HasOrigin, deployments, etc_of, folder_of, origin_of}
use Rattle.deployment_build.specs.Steps.{HasGround, HasWay}

-- A folder stays: whatever is written in its place is one.
abbrev pub KeepsAbove : (Path → Seen → Type 0) → Path → View → Type 0
KeepsAbove W top v = (p : Path) (s : Seen) → is_in p top ≡ true → IsDirectory (shows v.now p) → W p s → IsDirectory s

-- The files stay: nothing is written there outside `etc`, nor at the objects of the tree's leaves.
pub record SparesFiles (W : Path → Seen → Type 0) (id : DepId) (tree : Nodes) : Type 0 where
  pub outside : (p : Path) (s : Seen) → IsOutsideEtc p → W (folder_of id ++ p) s → ⊥
  pub leaves : (p : Path) (sum : List ℕ) (s : Seen) → node_at tree p ≡ Some (Leaf sum) → W (leaf_path sum) s → ⊥

-- The inodes of the files in `etc` get no other name.
abbrev pub SparesInodes : (Path → Seen → Type 0) → DepId → View → Type 0
SparesInodes W id v = (p : Path) (k : ℕ) → v.now.at (etc_of id ++ p) ≡ File k → IsAlone v.now k (etc_of id ++ p) → (q : Path) (s : Seen) → W q s → Own k (etc_of id ++ p) q s

-- The copy at `etc` stays: nothing is written there, nor at its objects.
pub record SparesEtc (W : Path → Seen → Type 0) (id : DepId) (etc : Nodes) (v : View) : Type 0 where
  pub below : (p : Path) (s : Seen) → W (etc_of id ++ p) s → ⊥
  pub sources : (p : Path) (sum : List ℕ) (s : Seen) → node_at etc p ≡ Some (Leaf sum) → W (leaf_path sum) s → ⊥
  pub own : SparesInodes W id v

-- What the copies of the kernel will need stays.
pub record SparesGround (W : Path → Seen → Type 0) (stage : Path) (os : Name) (files : KernelFiles) (v : View) : Type 0 where
  pub above : KeepsAbove W (kernel_path os files.bootcsum) v
  pub folder : (s : Seen) → W (kernel_path os files.bootcsum) s → IsDirectory s
  pub stages : KeepsAbove W stage v
  pub staged : (s : Seen) → W stage s → NotDirectory s
  pub kernel : (s : Seen) → W (leaf_path files.kernel) s → ⊥
  pub initramfs : (sum : List ℕ) (s : Seen) → files.initramfs ≡ Some sum → W (leaf_path sum) s → ⊥

-- where no folder's place is taken, folders stay
not_both : (s : Seen) → IsDirectory s → NotDirectory s → ⊥
not_both Vacant is not = is
not_both (Directory m) is not = not
not_both (Symlink m l) is not = is
not_both (SeenLeaf n m b) is not = is

-- the writes take no folder's place
abbrev pub TakesNoFolder : (Path → Seen → Type 0) → View → Type 0
TakesNoFolder W v = (p : Path) (s : Seen) → W p s → NotDirectory (shows v.now p)

pub above_spared : (W : Path → Seen → Type 0) (v : View) → TakesNoFolder W v → (top : Path) → KeepsAbove W top v
above_spared W v none top p s in_ there a = absurd (not_both (shows v.now p) there (none p s a))

pub way_spared : (W : Path → Seen → Type 0) (v : View) → TakesNoFolder W v → (os : Name) → HasWay os v → Harmless W (LeadsTo (deployments os))
way_spared W v none os way p s a below = absurd (not_both (shows v.now p) (way p (shows v.now p) (may_now v p) below) (none p s a))

module _ (W : Path → Seen → Type 0) (v w : View) (writes : Writes W v w) where
  pub home_kept : (top : Path) → KeepsAbove W top v → HasHome top v.now → HasHome top w.now
  home_kept top spares home p in_ = ⊎_elim (λ same. subst IsDirectory (sym same) (home p in_)) (λ wrote. spares p (shows w.now p) in_ (home p in_) wrote) (writes.now p)

  pub way_kept : (os : Name) → Harmless W (LeadsTo (deployments os)) → HasWay os v → HasWay os w
  way_kept os spares way p s may = firm_kept W (LeadsTo (deployments os)) v w writes spares way p s may

  pub files_kept : (id : DepId) (tree : Nodes) → SparesFiles W id tree → IsCheckoutOutsideEtc v.now (folder_of id) tree → IsCheckoutOutsideEtc w.now (folder_of id) tree
  files_kept id tree spares was p out =
      Stands-kept v.now w.now (folder_of id) p (node_at tree p)
      (shows_kept W v w (folder_of id ++ p) writes (λ s a. spares.outside p s out a))
      (λ sum leaf has. shows_kept W v w (leaf_path sum) writes (λ s a. spares.leaves p sum s has a))
      (was p out)

  pub etc_kept : (id : DepId) (etc : Nodes) → SparesEtc W id etc v → IsCopy v.now (etc_of id) etc → IsCopy w.now (etc_of id) etc
  etc_kept id etc spares was p =
      copied.Stands-kept v.now w.now (etc_of id) p (node_at etc p)
      (shows_kept W v w (etc_of id ++ p) writes (λ s a. spares.below p s a))
      (λ sum has. shows_kept W v w (leaf_path sum) writes (λ s a. spares.sources p sum s has a))
      (λ k at alone. copied.alone_kept W v w k (etc_of id ++ p) writes (spares.own p k at alone) alone)
      (was p)

  pub sources_kept : (etc : Nodes) → ((p : Path) (sum : List ℕ) (s : Seen) → node_at etc p ≡ Some (Leaf sum) → W (leaf_path sum) s → ⊥) → HasSources v.now etc → HasSources w.now etc
  sources_kept etc spares was p sum has = subst IsSource (sym (shows_kept W v w (leaf_path sum) writes (λ s a. spares p sum s has a))) (was p sum has)

  pub origin_kept : (id : DepId) (text : List ℕ) → ((s : Seen) → W (origin_of id) s → ⊥) → HasOrigin v.now id text → HasOrigin w.now id text
  origin_kept id text spares was = subst (IsFileWith file_meta text) (sym (shows_kept W v w (origin_of id) writes spares)) was

  object_kept : (sum : List ℕ) → ((s : Seen) → W (leaf_path sum) s → ⊥) → HasObject v.now sum → HasObject w.now sum
  object_kept sum spares was = (was.0, reads_kept W v w (leaf_path sum) writes spares ∙ was.1)

  pub ground_kept : (stage : Path) (os : Name) (files : KernelFiles) → SparesGround W stage os files v → HasGround stage os files v.now → HasGround stage os files w.now
  ground_kept stage os files spares was = record {
    above = home_kept (kernel_path os files.bootcsum) spares.above was.above;
    folder = ⊎_elim (λ same. subst NotLeaf (sym same) was.folder)
        (λ a. folder_no_leaf (shows w.now (kernel_path os files.bootcsum)) (spares.folder (shows w.now (kernel_path os files.bootcsum)) a)) (writes.now (kernel_path os files.bootcsum));
    stages = home_kept stage spares.stages was.stages;
    free = ⊎_elim (λ same. subst NotDirectory (sym same) was.free) (λ a. spares.staged (shows w.now stage) a) (writes.now stage);
    kernel = object_kept files.kernel spares.kernel was.kernel;
    initramfs = some_kept files.initramfs (HasObject v.now) (HasObject w.now) (λ sum has object. object_kept sum (λ s a. spares.initramfs sum s has a) object) was.initramfs;
  }
