-- Of one disk one thing is told of a deployment.
use Rattle.std.proofs.Common.{◌≡◌, inl, inr, ⊎_elim, ℕ, List, ◌++◌, Some, Ok, Err, refl, sym, ◌∙◌, ap, subst}
use Rattle.ost_types.specs.declared.limits.Limits.{Limits}
use Rattle.ost_types.specs.Path.{Name, Path}
use Rattle.ost_types.specs.PathMap.{Nodes}
use Rattle.fs_trait.specs.Seen.{Seen, Vacant, Directory, Symlink, Leaf, shows, IsDirectory, NotDirectory}
use Rattle.fs_trait.specs.View.{Disk}
use Rattle.tree_walk.specs.Standing.{AreRight}
use Rattle.tree_walk.proofs.Rightly.{whole_rightly}
use Rattle.boot_model.specs.declared.item.DepId.{DepId}
use Rattle.checkout_compare.specs.Compare.{IsDeployedOutsideEtc, Tells}
use Rattle.checkout_compare.proofs.Checkouts.{told_once}
use Rattle.checkout_compare.proofs.Orders.{not_apart}
use Rattle.tree_kernel.specs.Boots.{Boots, BootsOnce}
use Rattle.tree_kernel.specs.declared.find.TreeKernel.{TreeKernel}
use Rattle.tree_kernel.proofs.OnceLemmas.{boots_once}
use Rattle.kernel_copy.specs.declared.files.KernelFiles.{KernelFiles}
use Rattle.kernel_copy.specs.Copies.{AreCopied, IsFirstOther, IsOther}
use Rattle.deployment_check.specs.declared.judgement.Judgement.{Judgement}
use Rattle.deployment_check.specs.declared.judgement.Judgement.TheVariants.{Whole, NoDeployment, NotCheckout, WrongKind, KernelCopy}
use Rattle.deployment_check.specs.Deployments.{IsId, IsWholeDeployment, IsWholeTree, etc_of, files_of, home_of}
use Rattle.deployment_check.specs.Judging.{CanDeploy, IsNoDeployment, IsNotCheckout, JudgedOnce, Judges, LacksCopy, LacksEtc}
use Rattle.deployment_check.proofs.Maps.{same_maps}
use Rattle.deployment_check.proofs.Rooms.{room_below}
use Rattle.deployment_check.proofs.Trees.{none_far}

-- ---- a commit has one tree

one_tree : (limits : Limits) (d : Disk) (commit : List ℕ) (s t : Nodes) → IsWholeTree limits d commit s → IsWholeTree limits d commit t → s ≡ t
one_tree limits d commit s t a b = same_maps s t a.map.ascending b.map.ascending
    (λ e among. (b.shown e.0 e.1).1 ((a.shown e.0 e.1).0 among))
    (λ e among. (a.shown e.0 e.1).1 ((b.shown e.0 e.1).0 among))

-- ---- one copy is the first

first_once : (d : Disk) (os : Name) (files : KernelFiles) (p q : Path) → IsFirstOther d os files (Some p) → IsFirstOther d os files (Some q) → p ≡ q
first_once d os files p q a b = not_apart p q (b.1 p a.0) (a.1 q b.0)

not_copied : (d : Disk) (os : Name) (files : KernelFiles) (p : Path) → AreCopied d os files → IsOther d os files p → ⊥
not_copied d os files p copied other = other.2 (copied p other.0 other.1)

-- ---- one judgement

folder_or_not : (s : Seen) → IsDirectory s → NotDirectory s → ⊥
folder_or_not Vacant folder none = folder
folder_or_not (Directory m) folder none = none
folder_or_not (Symlink m t) folder none = folder
folder_or_not (Leaf n m b) folder none = folder

module _ (once : BootsOnce) (limits : Limits) (d : Disk) (id : DepId) (bootcsum : List ℕ) (is : IsId id) (right : AreRight limits.content d) where
  abbrev Can : Nodes → TreeKernel → Type 0
  Can = CanDeploy limits d id.commit

  same_tree : (s t : Nodes) (k l : TreeKernel) → Can s k → Can t l → s ≡ t
  same_tree s t k l a b = one_tree limits d id.commit s t a.has b.has

  same_kernel : (s t : Nodes) (k l : TreeKernel) → Can s k → Can t l → k ≡ l
  same_kernel s t k l a b =
      let e : Ok k ≡ Ok l = once d t (Ok k) (Ok l) (subst (λ m. Boots d m (Ok k)) (same_tree s t k l a b) a.boots) b.boots in
      cc

  -- that which can be deployed is no such
  not_none : (t : Nodes) (k : TreeKernel) → Can t k → IsNoDeployment limits d id.commit → ⊥
  not_none t k can (inl incomplete) = incomplete (whole_rightly d limits right id.commit can.has.whole)
  not_none t k can (inr fault) =
      let same = one_tree limits d id.commit t fault.tree can.has fault.has in
      let e : Ok k ≡ Err fault.fault = once d fault.tree (Ok k) (Err fault.fault) (subst (λ m. Boots d m (Ok k)) same can.boots) fault.boots in
      let no : Ok k ≡ Err fault.fault = e in
      cc

  -- nor a checkout one that differs
  not_differs : (t : Nodes) (k : TreeKernel) → Can t k → IsDeployedOutsideEtc d (home_of id) t → (p : Path) → IsNotCheckout limits d id p → ⊥
  not_differs t k can checkout p differs =
      let same = same_tree differs.tree t differs.kernel k differs.can can in
      let told : Tells d (home_of id) t (Some differs.relative) = subst (λ m. Tells d (home_of id) m (Some differs.relative)) same differs.first in
      ⊎_elim
      (λ other. other (checkout differs.relative told.0.outside))
      (λ far. none_far limits d id.commit t can.has (home_of id) (room_below id is) checkout differs.relative told.0.outside far)
      told.0.wrong

  differs_once : (p q : Path) → IsNotCheckout limits d id p → IsNotCheckout limits d id q → p ≡ q
  differs_once p q a b =
      let same = same_tree a.tree b.tree a.kernel b.kernel a.can b.can in
      let e : Some a.relative ≡ Some b.relative = told_once d (home_of id) b.tree (Some a.relative) (Some b.relative) (subst (λ m. Tells d (home_of id) m (Some a.relative)) same a.first) b.first in
      let relative : a.relative ≡ b.relative = cc in
      a.path_is ∙ ap (λ r. home_of id ++ r) relative ∙ sym b.path_is

  copies_once : (p q : Path) → LacksCopy limits d id bootcsum p → LacksCopy limits d id bootcsum q → p ≡ q
  copies_once p q a b =
      let same = same_kernel a.tree b.tree a.kernel b.kernel a.has_etc.deployed.can b.has_etc.deployed.can in
      first_once d id.os (files_of b.kernel bootcsum) p q (subst (λ k. IsFirstOther d id.os (files_of k bootcsum) (Some p)) same a.first) b.first

  no_etc : (p : Path) → IsDirectory (shows d (etc_of id)) → LacksEtc limits d id p → ⊥
  no_etc p etc lacks = folder_or_not (shows d (etc_of id)) etc lacks.none

  can_whole : (w : IsWholeDeployment limits d id bootcsum) → Can w.tree w.kernel
  can_whole w = record { has = w.has; boots = w.boots }

  whole_copies : (w : IsWholeDeployment limits d id bootcsum) (p : Path) → LacksCopy limits d id bootcsum p → ⊥
  whole_copies w p lacks =
      let same = same_kernel w.tree lacks.tree w.kernel lacks.kernel (can_whole w) lacks.has_etc.deployed.can in
      not_copied d id.os (files_of lacks.kernel bootcsum) p (subst (λ k. AreCopied d id.os (files_of k bootcsum)) same w.copies) lacks.first.0

  whole_alone : (w : IsWholeDeployment limits d id bootcsum) (b : Judgement) → Judges limits d id bootcsum b → Whole ≡ b
  whole_alone w Whole x = refl
  whole_alone w NoDeployment x = absurd (not_none w.tree w.kernel (can_whole w) x)
  whole_alone w (NotCheckout p) x = absurd (not_differs w.tree w.kernel (can_whole w) w.checkout p x)
  whole_alone w (WrongKind p) x = absurd (no_etc p w.etc x)
  whole_alone w (KernelCopy p) x = absurd (whole_copies w p x)

  none_alone : IsNoDeployment limits d id.commit → (b : Judgement) → Judges limits d id bootcsum b → NoDeployment ≡ b
  none_alone none Whole x = absurd (not_none x.tree x.kernel (can_whole x) none)
  none_alone none NoDeployment x = refl
  none_alone none (NotCheckout p) x = absurd (not_none x.tree x.kernel x.can none)
  none_alone none (WrongKind p) x = absurd (not_none x.tree x.kernel x.deployed.can none)
  none_alone none (KernelCopy p) x = absurd (not_none x.tree x.kernel x.has_etc.deployed.can none)

  differs_alone : (p : Path) → IsNotCheckout limits d id p → (b : Judgement) → Judges limits d id bootcsum b → NotCheckout p ≡ b
  differs_alone p differs Whole x = absurd (not_differs x.tree x.kernel (can_whole x) x.checkout p differs)
  differs_alone p differs NoDeployment x = absurd (not_none differs.tree differs.kernel differs.can x)
  differs_alone p differs (NotCheckout q) x = ap NotCheckout (differs_once p q differs x)
  differs_alone p differs (WrongKind q) x = absurd (not_differs x.tree x.kernel x.deployed.can x.deployed.checkout p differs)
  differs_alone p differs (KernelCopy q) x = absurd (not_differs x.tree x.kernel x.has_etc.deployed.can x.has_etc.deployed.checkout p differs)

  etc_alone : (p : Path) → LacksEtc limits d id p → (b : Judgement) → Judges limits d id bootcsum b → WrongKind p ≡ b
  etc_alone p lacks Whole x = absurd (no_etc p x.etc lacks)
  etc_alone p lacks NoDeployment x = absurd (not_none lacks.tree lacks.kernel lacks.deployed.can x)
  etc_alone p lacks (NotCheckout q) x = absurd (not_differs lacks.tree lacks.kernel lacks.deployed.can lacks.deployed.checkout q x)
  etc_alone p lacks (WrongKind q) x = ap WrongKind (lacks.path_is ∙ sym x.path_is)
  etc_alone p lacks (KernelCopy q) x = absurd (no_etc p x.has_etc.etc lacks)

  copy_alone : (p : Path) → LacksCopy limits d id bootcsum p → (b : Judgement) → Judges limits d id bootcsum b → KernelCopy p ≡ b
  copy_alone p lacks Whole x = absurd (whole_copies x p lacks)
  copy_alone p lacks NoDeployment x = absurd (not_none lacks.tree lacks.kernel lacks.has_etc.deployed.can x)
  copy_alone p lacks (NotCheckout q) x = absurd (not_differs lacks.tree lacks.kernel lacks.has_etc.deployed.can lacks.has_etc.deployed.checkout q x)
  copy_alone p lacks (WrongKind q) x = absurd (no_etc q lacks.has_etc.etc x)
  copy_alone p lacks (KernelCopy q) x = ap KernelCopy (copies_once p q lacks x)

pub judged_once : BootsOnce → JudgedOnce
judged_once once limits d id bootcsum Whole b is right x y = whole_alone once limits d id bootcsum is right x b y
judged_once once limits d id bootcsum NoDeployment b is right x y = none_alone once limits d id bootcsum is right x b y
judged_once once limits d id bootcsum (NotCheckout p) b is right x y = differs_alone once limits d id bootcsum is right p x b y
judged_once once limits d id bootcsum (WrongKind p) b is right x y = etc_alone once limits d id bootcsum is right p x b y
judged_once once limits d id bootcsum (KernelCopy p) b is right x y = copy_alone once limits d id bootcsum is right p x b y

pub one_judgement : JudgedOnce
one_judgement = judged_once boots_once
