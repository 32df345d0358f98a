-- When a copy can be begun, and what copies make together.
use Rattle.std.proofs.Common.{◌≡◌, ◌≢◌, inl, inr, ℕ, refl, sym, ◌∙◌, subst, List, [], ◌∷◌, Option, Some, None}
use Rattle.std.specs.Prelude.{IfSome}
use Rattle.ost_types.specs.Path.{Name, Path, under}
use Rattle.ost_types.proofs.Paths.{under-is_in, under-folder}
use Rattle.fs_trait.specs.View.{Disk, View}
use Rattle.fs_trait.specs.Seen.{Seen, Vacant, Directory, Symlink, Leaf, shows, IsDirectory, NotDirectory}
use Rattle.repo_layout.specs.BootPaths.{kernel_path}
use Rattle.file_copy.specs.PutSteps as put
use Rattle.file_copy.proofs.PutStable.{put_new}
use Rattle.folder_build.specs.Node.{file_meta}
use Rattle.folder_build.specs.Steps.{HasHome}
use Rattle.kernel_copy.specs.declared.files.KernelFiles.{KernelFiles}
use Rattle.kernel_copy.specs.Copies.{AreCopied, IsCopy, IsFor, file_path, initramfs_path, vmlinuz_path}
use Rattle.kernel_copy.specs.Work.{IsPlaced, put_begun}
use Rattle.kernel_copy.specs.Steps.{HasObject, NotLeaf}
use Rattle.kernel_copy.proofs.Apart.{object_apart, stage_copy}

-- where the folder and the object are there
pub can_put : (stage : Path) (os : Name) (files : KernelFiles) (x : Name) (sum : List ℕ) → IsPlaced stage os files → IsFor os files (under (kernel_path os files.bootcsum) x) sum
    → (w : View) → IsDirectory (shows w.now (kernel_path os files.bootcsum)) → NotDirectory (shows w.now stage) → HasHome stage w.now → HasObject w.now sum
    → put.Needs (put_begun stage (under (kernel_path os files.bootcsum) x) sum) w
can_put stage os files x sum placed for_ w there free stages object =
    let folder = kernel_path os files.bootcsum in
    put_new (file_path sum) stage (under folder x) file_meta w object.0
    (record { inside = (folder, x, refl); apart = stage_copy stage folder placed.outside x; other = object_apart sum os files.bootcsum (x ∷ []) })
    (λ p in_. let u = under-is_in p (under folder x) in_ in subst (λ q. IsDirectory (shows w.now q)) (under-folder folder p x u.0 u.1) there)
    (placed.objects (under folder x) sum for_) object.1 placed.inside free stages

-- ---- what the copies are

pub only_first : (d : Disk) (os : Name) (files : KernelFiles) → files.initramfs ≡ None → IsCopy d (vmlinuz_path os files) files.kernel → AreCopied d os files
only_first d os files none copied at sum (inl is) = subst (λ p. IsCopy d p sum) (sym is.0) (subst (IsCopy d (vmlinuz_path os files)) (sym is.1) copied)
only_first d os files none copied at sum (inr is) = let n : None ≡ Some sum = sym none ∙ is.1 in cc

pub both_copied : (d : Disk) (os : Name) (files : KernelFiles) (second : List ℕ) → files.initramfs ≡ Some second → IsCopy d (vmlinuz_path os files) files.kernel → IsCopy d (initramfs_path os files) second
    → AreCopied d os files
both_copied d os files second some copied also at sum (inl is) = subst (λ p. IsCopy d p sum) (sym is.0) (subst (IsCopy d (vmlinuz_path os files)) (sym is.1) copied)
both_copied d os files second some copied also at sum (inr is) =
    let e : Some second ≡ Some sum = sym some ∙ is.1 in
    let same : second ≡ sum = cc in
    subst (λ p. IsCopy d p sum) (sym is.0) (subst (IsCopy d (initramfs_path os files)) same also)

-- ---- small facts

pub some_kept : (o : Option (List ℕ)) (P Q : List ℕ → Type 0) → ((sum : List ℕ) → o ≡ Some sum → P sum → Q sum) → IfSome o P → IfSome o Q
some_kept None P Q f is = tt
some_kept (Some sum) P Q f is = f sum refl is

pub not_leaf : (s : Seen) → NotLeaf s → s ≢ Vacant → IsDirectory s
not_leaf Vacant no_ some = absurd (some refl)
not_leaf (Directory m) no_ some = tt
not_leaf (Symlink m l) no_ some = absurd no_
not_leaf (Leaf n m b) no_ some = absurd no_

pub folder_no_leaf : (s : Seen) → IsDirectory s → NotLeaf s
folder_no_leaf Vacant is = absurd is
folder_no_leaf (Directory m) is = tt
folder_no_leaf (Symlink m l) is = absurd is
folder_no_leaf (Leaf n m b) is = absurd is
