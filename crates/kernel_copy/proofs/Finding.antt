-- What the comparisons of the copies come to.
use Rattle.std.proofs.Common.{◌≡◌, ◌≢◌, inl, inr, ℕ, refl, sym, ◌∙◌, ap, subst, List, Option, Some, None, Result, Ok, Err, IsTrue}
use Rattle.std.specs.Prelude.{◌↔◌, Bool}
use Rattle.std.specs.declared.cmp.Ordering.TheVariants.{Less, Greater}
use Rattle.ost_types.specs.Path.{Name, Path, path_cmp}
use Rattle.fs_trait.specs.declared.types.FsErr.{FsErr}
use Rattle.fs_trait.specs.declared.task.StepResult.{StepResult}
use Rattle.fs_trait.specs.declared.task.StepResult.TheVariants.{Done}
use Rattle.fs_trait.specs.View.{Disk}
use Rattle.file_copy.specs.Comparing.{Answers, AreSame, Comparing, IsStepped, OnDone}
use Rattle.file_copy.proofs.PutLemmas.{compare_same}
use Rattle.kernel_copy.specs.declared.files.KernelFiles.{KernelFiles}
use Rattle.kernel_copy.specs.Copies.{AreCopied, Finds, IsCopy, IsFirstOther, IsFor, initramfs_path, vmlinuz_path}
use Rattle.kernel_copy.specs.Compared.{FindsAt, IsFound, IsFoundAny, TellsFiles}
use Rattle.kernel_copy.proofs.Apart.{kernel_later, not_less_itself}
use Rattle.kernel_copy.proofs.PutMeans.{both_copied, only_first}

-- ---- a comparison

-- no step of it changes its paths
pub same_paths : (old new : Comparing) (r : Result (StepResult Bool) FsErr) (turn : StepResult Bool) → r ≡ Ok turn → IsStepped old r new → (new.one ≡ old.one) × (new.other ≡ old.other)
same_paths old new r turn is stepped =
    let same = compare_same old new r turn is stepped in
    (ap (λ (t : Comparing). t.one) same, ap (λ (t : Comparing). t.other) same)

-- what it answers, for the paths that it had at first
pub answers_as : (d : Disk) (t : Comparing) (one other : Path) → t.one ≡ one → t.other ≡ other → (turn : StepResult Bool) (same : Bool) → turn ≡ Done same → OnDone (Ok turn) (Answers d t)
    → TellsFiles d one other (Ok same)
answers_as d t one other first second turn same is answer =
    let here : IsTrue same ↔ AreSame d t.one t.other = subst (λ x. OnDone (Ok x) (Answers d t)) is answer in
    subst (λ p. IsTrue same ↔ AreSame d one p) second (subst (λ p. IsTrue same ↔ AreSame d p t.other) first here)

-- ---- the copies

module _ (d : Disk) (os : Name) (files : KernelFiles) where
  -- the second copy's path comes first
  none_before : (p other : Path) (sum : List ℕ) → p ≡ initramfs_path os files → IsFor os files other sum → path_cmp other p ≢ Less
  none_before p other sum at (inl is) less =
      let e : path_cmp (vmlinuz_path os files) (initramfs_path os files) ≡ Less = subst (λ q. path_cmp (vmlinuz_path os files) q ≡ Less) at (subst (λ q. path_cmp q p ≡ Less) is.0 less) in
      let n : Greater ≡ Less = sym (kernel_later os files) ∙ e in
      cc
  none_before p other sum at (inr is) less =
      not_less_itself p (subst (λ q. path_cmp q p ≡ Less) (is.0 ∙ sym at) less)

  other_by : (o : Option (List ℕ)) → files.initramfs ≡ o → (p : Path) → IsFoundAny d (initramfs_path os files) o (Some p) → IsFirstOther d os files (Some p)
  other_by None e p found = let n : Some p ≡ None = found in cc
  other_by (Some sum) e p found = (
    (sum, inr (found.0, e), λ same. found.1 (subst (λ q. IsCopy d q sum) found.0 same)),
    λ other wrong. none_before p other wrong.0 found.0 wrong.1,
  )

  -- the second copy isn't there,
  pub found_second : (p : Path) → IsFoundAny d (initramfs_path os files) files.initramfs (Some p) → IsFirstOther d os files (Some p)
  found_second p found = other_by files.initramfs refl p found

  -- or only the first,
  second_right : (o : Option (List ℕ)) → files.initramfs ≡ o → IsFoundAny d (initramfs_path os files) o None → (sum : List ℕ) → files.initramfs ≡ Some sum → IsCopy d (initramfs_path os files) sum
  second_right None e found sum is = let n : None ≡ Some sum = sym e ∙ is in cc
  second_right (Some other) e found sum is =
      let s : Some other ≡ Some sum = sym e ∙ is in
      let same : other ≡ sum = cc in
      subst (IsCopy d (initramfs_path os files)) same found

  pub found_first : IsFoundAny d (initramfs_path os files) files.initramfs None → (p : Path) → IsFound d (vmlinuz_path os files) files.kernel (Some p) → IsFirstOther d os files (Some p)
  found_first none p found = (
    (files.kernel, inl (found.0, refl), λ same. found.1 (subst (λ q. IsCopy d q files.kernel) found.0 same)),
    λ other wrong. by other wrong.0 wrong.1 wrong.2,
  )
    where
      by : (other : Path) (sum : List ℕ) → IsFor os files other sum → (IsCopy d other sum → ⊥) → path_cmp other p ≢ Less
      by other sum (inl is) wrong less = not_less_itself p (subst (λ q. path_cmp q p ≡ Less) (is.0 ∙ sym found.0) less)
      by other sum (inr is) wrong less = wrong (subst (λ q. IsCopy d q sum) (sym is.0) (second_right files.initramfs refl none sum is.1))

  -- or both are.
  copied_by : (o : Option (List ℕ)) → files.initramfs ≡ o → IsFoundAny d (initramfs_path os files) o None → IsCopy d (vmlinuz_path os files) files.kernel → AreCopied d os files
  copied_by None e none first = only_first d os files e first
  copied_by (Some sum) e right first = both_copied d os files sum e first right

  pub found_none : IsFoundAny d (initramfs_path os files) files.initramfs None → IsFound d (vmlinuz_path os files) files.kernel None → IsFirstOther d os files None
  found_none none first = copied_by files.initramfs refl none first

  pub finds_rest : IsFoundAny d (initramfs_path os files) files.initramfs None → (r : Result (Option Path) FsErr) → FindsAt d (vmlinuz_path os files) files.kernel r → Finds d os files r
  finds_rest none (Ok None) found = found_none none found
  finds_rest none (Ok (Some p)) found = found_first none p found
  finds_rest none (Err e) why = why
