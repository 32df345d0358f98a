-- Where the task writes, for all others; that its facts stay true under what others may write; and what a crash leaves of a copy.
use Rattle.std.proofs.Common.{◌≡◌, ◌⊎◌, inl, inr, ⊎_elim, ℕ, true, refl, sym, ◌∙◌, ap, subst, List, Some}
use Rattle.std.specs.Prelude.{IfSome}
use Rattle.ost_types.specs.Path.{Name, Path, under, is_in}
use Rattle.ost_types.proofs.Paths.{under-is_in, under-folder, under-not_folder}
use Rattle.fs_trait.specs.declared.types.Value.TheVariants.{File}
use Rattle.fs_trait.specs.View.{View}
use Rattle.fs_trait.specs.Image.{reads}
use Rattle.fs_trait.specs.Seen.{Seen, Vacant, Directory, Leaf, shows, MayBe, IsDirectory, NotDirectory}
use Rattle.fs_trait.specs.Change.{Harmless, Own, Writes}
use Rattle.fs_trait.proofs.Facts.{shows_kept}
use Rattle.repo_layout.specs.BootPaths.{kernel_path}
use Rattle.file_copy.specs.Putting.{Putting}
use Rattle.file_copy.specs.PutSteps as put
use Rattle.file_copy.proofs.CopyLemmas.{reads_kept}
use Rattle.file_copy.proofs.PutStable as placed
use Rattle.file_copy.proofs.PutStable.{put_kept}
use Rattle.folder_build.specs.Node.{file_meta, folder_meta}
use Rattle.folder_build.specs.Steps.{HasHome}
use Rattle.kernel_copy.specs.declared.files.KernelFiles.{KernelFiles}
use Rattle.kernel_copy.specs.declared.phase.KernelPhase.{KernelPhase}
use Rattle.kernel_copy.specs.declared.phase.KernelPhase.TheVariants.{Folder, Kernel, Initramfs, Ended}
use Rattle.kernel_copy.specs.Copies.{IsCopy, IsFor, file_path, initramfs_name, initramfs_path, vmlinuz_name, vmlinuz_path}
use Rattle.kernel_copy.specs.Work.{HasSecond, IsPlaced, IsPut, IsWithin, KernelCopying, begun, home_of, stage_of}
use Rattle.kernel_copy.specs.Steps.{HasObject, Needs, NotLeaf, WritesOf, needs_in, needs_second, writes_in, writes_second}
use Rattle.kernel_copy.proofs.Apart.{stage_copy}
use Rattle.kernel_copy.proofs.PutFacts.{IsStaged, put_at}
use Rattle.kernel_copy.proofs.PutMeans.{folder_no_leaf, some_kept}
use Rattle.kernel_copy.proofs.Working.{made_begun}

-- ---- its beginning

-- what a new one needs: folders above the folder of the copies and above the staging path, no leaf at the one and no folder at the
-- other, and the objects
pub copies_new : (stage : Path) (os : Name) (files : KernelFiles) (v : View) → IsPlaced stage os files → HasHome (kernel_path os files.bootcsum) v.now → NotLeaf (shows v.now (kernel_path os files.bootcsum))
    → HasHome stage v.now → NotDirectory (shows v.now stage) → HasObject v.now files.kernel → IfSome files.initramfs (HasObject v.now) → Needs (begun stage os files) v
copies_new stage os files v placed above folder stages free object second = record { made = made_begun stage os files placed; above = above; stage = free; stages = stages; meets = (folder, object, second) }

-- ---- its own writes

-- the folder of the copies, where nothing stood
pub record IsNewFolder (t : KernelCopying) (v : View) (p : Path) (s : Seen) : Type 0 where
  pub place : p ≡ home_of t
  pub vacant : shows v.now p ≡ Vacant
  pub is : s ≡ Directory folder_meta

-- a copy with all the bytes of its object, which was staged
pub record IsWhole (t : KernelCopying) (v : View) (p : Path) (s : Seen) : Type 0 where
  pub sum : List ℕ
  pub place : IsFor t.os t.files p sum
  pub inode : ℕ
  pub bytes : List ℕ
  pub is : s ≡ Leaf inode file_meta bytes
  pub source : reads v.now (file_path sum) ≡ Some bytes
  pub staged : v.now.at (stage_of t) ≡ File inode

-- Where a write of the next step lies.
abbrev pub Lies : KernelCopying → View → Path → Seen → Type 0
Lies t v p s = IsStaged (stage_of t) v p s ⊎ (IsNewFolder t v p s ⊎ IsWhole t v p s)

-- a copy that is put
put_lies : (t : KernelCopying) (v : View) (c : Putting) (at : Path) (sum : List ℕ) → IsPut c (stage_of t) at sum → IsFor t.os t.files at sum → put.Needs c v → (p : Path) (s : Seen) → put.WritesOf c v p s → Lies t v p s
put_lies t v c at sum of for_ needs p s a =
    ⊎_elim (λ b. inl (subst (λ q. IsStaged q v p s) of.stage b))
    (λ b. inr (inr (record {
      sum = sum;
      place = subst (λ q. IsFor t.os t.files q sum) (sym (b.0 ∙ of.target)) for_;
      inode = b.1.0;
      bytes = b.1.1;
      is = b.1.2 ∙ ap (λ m. Leaf b.1.0 m b.1.1) of.meta;
      source = subst (λ q. reads v.now q ≡ Some b.1.1) of.source b.1.3;
      staged = subst (λ q. v.now.at q ≡ File b.1.0) of.stage b.1.4;
    })))
    (put_at c v needs p s a)

module _ (t : KernelCopying) (v : View) (needs : Needs t v) where
  -- the second copy
  module _ (is : t.phase ≡ Initramfs) where
    second : HasSecond t
    second = subst (λ ph. IsWithin ph t) is needs.made.within

    in_second : needs_in Initramfs t v
    in_second = subst (λ ph. needs_in ph t v) is needs.meets

    second_needs : put.Needs second.putting v
    second_needs = subst (λ i. needs_second i v) second.is in_second.1

  lies : (ph : KernelPhase) → t.phase ≡ ph → needs_in ph t v → (p : Path) (s : Seen) → writes_in ph t v p s → Lies t v p s
  lies Folder is meets p s a = inr (inl (record { place = a.0; vacant = a.1; is = a.2 }))
  lies Kernel is meets p s a = put_lies t v t.kernel (vmlinuz_path t.os t.files) t.files.kernel needs.made.first (inl (refl, refl)) meets.0 p s a
  lies Initramfs is meets p s a =
      let c = second is in
      put_lies t v c.putting (initramfs_path t.os t.files) c.sum c.put (inr (refl, c.has)) (second_needs is) p s (subst (λ i. writes_second i v p s) c.is a)
  lies Ended is meets p s a = absurd a

  pub copies_lie : (p : Path) (s : Seen) → WritesOf t v p s → Lies t v p s
  copies_lie p s a = lies t.phase refl needs.meets p s a

  -- the path of a copy is neither the staging path nor the folder
  at_copy : (at : Path) (sum : List ℕ) → IsFor t.os t.files at sum → (x : Name) × (at ≡ under (home_of t) x)
  at_copy at sum (inl is) = (vmlinuz_name t.files.kver, is.0)
  at_copy at sum (inr is) = (initramfs_name t.files.kver, is.0)

  not_own : (at : Path) (x : Name) → at ≡ under (home_of t) x → (s : Seen) → Lies t v at s → IsWhole t v at s
  not_own at x is s (inl staged) = absurd (stage_copy (stage_of t) (home_of t) needs.made.placed.outside x (sym staged.place ∙ is))
  not_own at x is s (inr (inl new)) = absurd (under-not_folder (home_of t) x (sym is ∙ new.place))
  not_own at x is s (inr (inr whole)) = whole

  -- After a step a crash leaves at the path of a copy what it might leave there before, or the whole copy.
  pub copy_may : (w : View) → Writes (WritesOf t v) v w → (at : Path) (sum : List ℕ) → IsFor t.os t.files at sum → (s : Seen) → MayBe w at s → MayBe v at s ⊎ IsWhole t v at s
  copy_may w writes at sum for_ s may =
      let x = at_copy at sum for_ in
      ⊎_elim (λ old. inl old) (λ a. inr (not_own at x.0 x.1 s (copies_lie at s a))) (writes.only at s may)

-- ---- the writes of others

-- They spare the copies: they write nothing at the staging path, at the paths of the copies and at those of their objects, and
-- nothing but a folder at the folder of the copies, leave folders where folders are above, and give the inode of the staged copy no
-- other name.
pub record Spares (W : Path → Seen → Type 0) (t : KernelCopying) (v : View) : Type 0 where
  pub stage : (s : Seen) → W (stage_of t) s → ⊥
  pub copies : (at : Path) (sum : List ℕ) (s : Seen) → IsFor t.os t.files at sum → W at s → ⊥
  pub objects : (at : Path) (sum : List ℕ) (s : Seen) → IsFor t.os t.files at sum → W (file_path sum) s → ⊥
  pub folder : (s : Seen) → W (home_of t) s → IsDirectory s
  pub above : (p : Path) (s : Seen) → is_in p (home_of t) ≡ true → IsDirectory (shows v.now p) → W p s → IsDirectory s
  pub stages : (p : Path) (s : Seen) → is_in p (stage_of t) ≡ true → IsDirectory (shows v.now p) → W p s → IsDirectory s
  pub own : (n : ℕ) → v.now.at (stage_of t) ≡ File n → ((p : Path) (s : Seen) → MayBe v p s → Own n (stage_of t) p s) → Harmless W (Own n (stage_of t))

module _ (W : Path → Seen → Type 0) (t : KernelCopying) (v : View) (spares : Spares W t v) (needs : Needs t v) (w : View) (writes : Writes W v w) where
  home_on : (top : Path) → ((p : Path) (s : Seen) → is_in p top ≡ true → IsDirectory (shows v.now p) → W p s → IsDirectory s) → HasHome top v.now → HasHome top w.now
  home_on top folders home p in_ = ⊎_elim (λ e. subst IsDirectory (sym e) (home p in_)) (λ wrote. folders p (shows w.now p) in_ (home p in_) wrote) (writes.now p)

  object_on : (at : Path) (sum : List ℕ) → IsFor t.os t.files at sum → HasObject v.now sum → HasObject w.now sum
  object_on at sum for_ object = (object.0, reads_kept W v w (file_path sum) writes (λ s a. spares.objects at sum s for_ a) ∙ object.1)

  copy_on : (at : Path) (sum : List ℕ) → IsFor t.os t.files at sum → IsCopy v.now at sum → IsCopy w.now at sum
  copy_on at sum for_ same = (
    same.0,
    reads_kept W v w at writes (λ s a. spares.copies at sum s for_ a) ∙ same.1,
    reads_kept W v w (file_path sum) writes (λ s a. spares.objects at sum s for_ a) ∙ same.2,
  )

  second_on : IfSome t.files.initramfs (HasObject v.now) → IfSome t.files.initramfs (HasObject w.now)
  second_on was = some_kept t.files.initramfs (HasObject v.now) (HasObject w.now) (λ sum e object. object_on (initramfs_path t.os t.files) sum (inr (refl, e)) object) was

  folder_on : NotLeaf (shows v.now (home_of t)) → NotLeaf (shows w.now (home_of t))
  folder_on was = ⊎_elim (λ e. subst NotLeaf (sym e) was) (λ a. folder_no_leaf (shows w.now (home_of t)) (spares.folder (shows w.now (home_of t)) a)) (writes.now (home_of t))

  -- a copy that is being put
  module _ (c : Putting) (x : Name) (sum : List ℕ) (of : IsPut c (stage_of t) (under (home_of t) x) sum) (for_ : IsFor t.os t.files (under (home_of t) x) sum) where
    in_home : (p : Path) → is_in p c.at ≡ true → p ≡ home_of t
    in_home p in_ =
        let u = under-is_in p c.at in_ in
        under-folder p (home_of t) u.0 x (sym u.1 ∙ of.target)

    put_spared : placed.Spares W c v
    put_spared = record {
      copying = record {
        staged = record {
          stage = λ s a. spares.stage s (subst (λ q. W q s) of.stage a);
          parents = λ p s in_ there a. spares.stages p s (subst (λ q. is_in p q ≡ true) of.stage in_) there a;
          own = subst (λ q. (n : ℕ) → v.now.at q ≡ File n → ((p : Path) (s : Seen) → MayBe v p s → Own n q p s) → Harmless W (Own n q)) (sym of.stage) spares.own;
        };
        source = λ s a. spares.objects (under (home_of t) x) sum s for_ (subst (λ q. W q s) of.source a);
      };
      target = λ s a. spares.copies (under (home_of t) x) sum s for_ (subst (λ q. W q s) of.target a);
      home = λ p s in_ there a. spares.folder s (subst (λ q. W q s) (in_home p in_) a);
    }

    put_on : put.Needs c v → put.Needs c w
    put_on was = put_kept W c v put_spared was w writes

  kept_in : (ph : KernelPhase) → t.phase ≡ ph → needs_in ph t v → needs_in ph t w
  kept_in Folder is was = (folder_on was.0, object_on (vmlinuz_path t.os t.files) t.files.kernel (inl (refl, refl)) was.1, second_on was.2)
  kept_in Kernel is was = (put_on t.kernel (vmlinuz_name t.files.kver) t.files.kernel needs.made.first (inl (refl, refl)) was.0, second_on was.1)
  kept_in Initramfs is was =
      let c = second t v needs is in
      let on : put.Needs c.putting w = put_on c.putting (initramfs_name t.files.kver) c.sum c.put (inr (refl, c.has)) (second_needs t v needs is) in
      (copy_on (vmlinuz_path t.os t.files) t.files.kernel (inl (refl, refl)) was.0, subst (λ i. needs_second i w) (sym c.is) on)
  kept_in Ended is was = λ at sum for_. copy_on at sum for_ (was at sum for_)

  stage_free : NotDirectory (shows w.now (stage_of t))
  stage_free = subst NotDirectory (sym (shows_kept W v w (stage_of t) writes spares.stage)) needs.stage

  -- The facts of the task stay true.
  pub copies_kept : Needs t w
  copies_kept = record {
    made = needs.made;
    above = home_on (home_of t) spares.above needs.above;
    stage = stage_free;
    stages = home_on (stage_of t) spares.stages needs.stages;
    meets = kept_in t.phase refl needs.meets;
  }
