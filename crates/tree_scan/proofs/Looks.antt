-- A folder is listed and a file read, where no call fails; and what a file is read as.
use Rattle.std.proofs.Common.{◌≡◌, ⊎_elim, ℕ, arith, refl, sym, subst, List, None, Err}
use Rattle.ost_types.specs.declared.meta.Meta.{Meta}
use Rattle.ost_types.specs.Mode.{IsFileMode}
use Rattle.ost_types.specs.Path.{Name, Path}
use Rattle.ost_forms.specs.declared.body.Body.TheVariants.{Regular}
use Rattle.fs_trait.specs.declared.types.FsErr.{FsErr}
use Rattle.fs_trait.specs.declared.types.Value.{Value}
use Rattle.fs_trait.specs.declared.types.Value.TheVariants.{Absent, Folder, Link, File}
use Rattle.fs_trait.specs.View.{Disk}
use Rattle.fs_trait.specs.Image.{IsTree}
use Rattle.fs_trait.specs.Effect.{Answered, OfNone, inode_of, no_file, no_folder}
use Rattle.fs_trait.specs.Seen.{Directory, seen, shows}
use Rattle.fs_trait.proofs.Claims.{folder_shows}
use Rattle.fs_trait.proofs.Refusals.{no_file-there, no_folder-there}
use Rattle.fs_trait.proofs.Answering.{read_fails}
use Rattle.tree_scan.specs.Scan.{HasSum}
use Rattle.tree_scan.specs.Faults.{IsUnreadable}
use Rattle.tree_scan.specs.Looking.{HasLeaf, IsRegular, IsSumOf, Tells}
use Rattle.tree_scan.specs.declared.look.Looked.TheVariants as looks
use Rattle.tree_scan.proofs.Trees.{is_directory}

-- ---- a folder

module _ (d : Disk) (p : Path) (m : Meta) (is : shows d p ≡ Directory m) where
  pub list_fails : IsTree d → (P : List Name → Type 0) (e : FsErr) → Answered (no_folder p d) P (Err e) → OfNone e
  list_fails tree P e answer = read_fails (no_folder p d) P OfNone (no_folder-there d tree p (folder_shows d p (is_directory (shows d p) m is))) tt tt e answer

-- ---- a file

file_sum : (d : Disk) (z : Value) (m : Meta) (limit : ℕ) → IsRegular d limit m z → IsFileMode m.mode → (bytes sum : List ℕ) → bytes ≡ d.bytes (inode_of z) → IsSumOf m (Regular bytes) sum
    → HasSum (seen d z) sum × (IsUnreadable limit (seen d z) → ⊥)
file_sum d Absent m limit is fits bytes sum read of = absurd is
file_sum d (Folder k) m limit is fits bytes sum read of = absurd is
file_sum d (Link k t) m limit is fits bytes sum read of = absurd is
file_sum d (File n) m limit is fits bytes sum read of =
    let whole : IsSumOf (d.meta n) (Regular (d.bytes n)) sum = subst (λ x. IsSumOf x (Regular (d.bytes n)) sum) (sym is.0) (subst (λ b. IsSumOf m (Regular b) sum) read of) in
    (record { leaf = tt; stream = whole.stream; form = whole.form; is = whole.is }, λ bad. ⊎_elim (λ long. let short = is.1 in omega (arith, long, short)) (λ other. other (subst (λ (x : Meta). IsFileMode x.mode) (sym is.0) fits)) bad)

file_free : (d : Disk) (tree : IsTree d) (p : Path) (m : Meta) (limit : ℕ) (z : Value) → d.at p ≡ z → IsRegular d limit m z → no_file p d ≡ None
file_free d tree p m limit Absent at is = absurd is
file_free d tree p m limit (Folder k) at is = absurd is
file_free d tree p m limit (Link k t) at is = absurd is
file_free d tree p m limit (File n) at is = no_file-there d tree p n at

module _ (d : Disk) (p : Path) (m : Meta) (limit : ℕ) (is : HasLeaf d p m limit) where
  pub sum_file : IsFileMode m.mode → (bytes sum : List ℕ) → bytes ≡ d.bytes (inode_of (d.at p)) → IsSumOf m (Regular bytes) sum → Tells d p limit (looks.Leaf sum)
  sum_file fits bytes sum read of = file_sum d (d.at p) m limit is fits bytes sum read of

  pub read_file_fails : IsTree d → (P : List ℕ → Type 0) (e : FsErr) → Answered (no_file p d) P (Err e) → OfNone e
  read_file_fails tree P e answer = read_fails (no_file p d) P OfNone (file_free d tree p m limit (d.at p) refl is) tt tt e answer
