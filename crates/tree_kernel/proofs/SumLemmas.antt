-- What a sum has taken, where one piece more was taken.
use Rattle.std.proofs.Common.{◌≡◌, ℕ, ◌≤◌, ◌<◌, ◌+◌, ◌-◌, arith, Bool, true, false, ltb-false, refl, sym, ◌∙◌, ap, subst, List, ◌++◌, length, take, Some, Ok, append-nil, append_assoc, if◌then◌else◌}
use Rattle.std.specs.Prelude.{nat_lt}
use Rattle.std.specs.Int.{to_be_bytes, w64}
use Rattle.std.proofs.Math.Seq.{take-add}
use Rattle.std.proofs.lemmas.List.{take_all}
use Rattle.ost_types.specs.declared.object.Kind.TheVariants.{File}
use Rattle.fs_trait.specs.View.{Disk}
use Rattle.fs_trait.specs.Effect.{part}
use Rattle.repo_layout.specs.Paths.{object_path}
use Rattle.file_copy.specs.Pieces.{IsPiece}
use Rattle.file_copy.proofs.PieceLemmas.{length_part}
use Rattle.deploy_list.specs.BootSum.{HasTaken, boot_bytes}
use Rattle.tree_kernel.specs.Sizes.{IsInitramfs}
use Rattle.tree_kernel.specs.Sum.{AreBytes}
use Rattle.tree_kernel.specs.Summing.{Summing, Takes, initramfs_from, kernel_from}
use Rattle.tree_kernel.specs.Telling.{IsInInitramfs, IsInKernel, IsSoFar, so_far_in}
use Rattle.tree_kernel.specs.declared.phase.SumPhase.{SumPhase}
use Rattle.tree_kernel.specs.declared.phase.SumPhase.TheVariants.{Kernel, Initramfs, Finish}

-- ---- what is known where so much was taken

module _ (d : Disk) (t : Summing) where
  initramfs_goes : (size at : ℕ) → IsInInitramfs d t size at → so_far_in (initramfs_from size at) d t
  initramfs_goes size at so = by (nat_lt at size) refl
    where
      by : (b : Bool) → nat_lt at size ≡ b → so_far_in (if b then Initramfs size at else Finish) d t
      by true more = so
      by false over = record {
        first = so.first;
        second = so.second;
        are = so.are;
        taken = subst (λ b. HasTaken t.sum (boot_bytes so.first b)) (take_all at so.second (let less : size ≤ at = ltb-false at size over in omega (arith, so.second_long, less))) so.taken;
      }

  kernel_goes : (size at after : ℕ) → IsInKernel d t size at after → so_far_in (kernel_from size at after) d t
  kernel_goes size at after so = by (nat_lt at size) refl
    where
      bytes : size ≤ at → to_be_bytes w64 (length so.first) ++ take at so.first ≡ boot_bytes so.first (take 0 so.second)
      bytes less = ap (λ x. to_be_bytes w64 (length so.first) ++ x) (take_all at so.first (omega (arith, so.first_long, less)) ∙ sym (append-nil so.first))

      by : (b : Bool) → nat_lt at size ≡ b → so_far_in (if b then Kernel size at after else initramfs_from after 0) d t
      by true more = so
      by false over =
          initramfs_goes after 0
          (record {
            first = so.first;
            second = so.second;
            are = so.are;
            second_long = so.second_long;
            taken = subst (HasTaken t.sum) (bytes (ltb-false at size over)) so.taken;
          })

-- ---- one piece more

are_same : (d : Disk) (old new : Summing) → new.kernel ≡ old.kernel → new.initramfs ≡ old.initramfs → (first second : List ℕ) → AreBytes d old.kernel old.initramfs first second → AreBytes d new.kernel new.initramfs first second
are_same d old new kernel initramfs first second are = subst (λ o. AreBytes d new.kernel o first second) (sym initramfs) (subst (λ k. AreBytes d k old.initramfs first second) (sym kernel) are)

module _ (at end : ℕ) (bytes piece : List ℕ) (is : piece ≡ part at (end - at) bytes) (grows : at < end) (within : end ≤ length bytes) where
  counted : at + length piece ≡ end
  counted = let long = length_part at end bytes (omega (arith, grows)) within in omega (arith, ap length is, long, grows)

  further : take at bytes ++ piece ≡ take (at + length piece) bytes
  further =
      let e : at + (end - at) ≡ end = omega (arith, grows) in
      ap (λ p. take at bytes ++ p) is ∙ sym (take-add at (end - at) bytes) ∙ ap (λ n. take n bytes) (e ∙ sym counted)

module _ (d : Disk) (old new : Summing) (piece : List ℕ) (next : SumPhase) (takes : Takes old piece next new) where
  kernel_more : (size at end after : ℕ) (so : IsInKernel d old size at after) → piece ≡ part at (end - at) so.first → at < end → end ≤ size → IsInKernel d new size (at + length piece) after
  kernel_more size at end after so is grows within =
      let inside : end ≤ length so.first = omega (arith, so.first_long, within) in
      let front = to_be_bytes w64 (length so.first) in record {
        first = so.first;
        second = so.second;
        are = are_same d old new takes.kernel_is takes.initramfs_is so.first so.second so.are;
        first_long = so.first_long;
        second_long = so.second_long;
        taken = subst (HasTaken new.sum) (append_assoc front (take at so.first) piece ∙ ap (λ x. front ++ x) (further at end so.first piece is grows inside)) (takes.taken (front ++ take at so.first) so.taken);
      }

  initramfs_more : (size at end : ℕ) (so : IsInInitramfs d old size at) → piece ≡ part at (end - at) so.second → at < end → end ≤ size → IsInInitramfs d new size (at + length piece)
  initramfs_more size at end so is grows within =
      let inside : end ≤ length so.second = omega (arith, so.second_long, within) in
      let front = to_be_bytes w64 (length so.first) in
      let more = append_assoc so.first (take at so.second) piece ∙ ap (λ x. so.first ++ x) (further at end so.second piece is grows inside) in record {
        first = so.first;
        second = so.second;
        are = are_same d old new takes.kernel_is takes.initramfs_is so.first so.second so.are;
        second_long = so.second_long;
        taken = subst (HasTaken new.sum) (append_assoc front (so.first ++ take at so.second) piece ∙ ap (λ x. front ++ x) more) (takes.taken (boot_bytes so.first (take at so.second)) so.taken);
      }

  pub kernel_taken : (size at end after : ℕ) → old.phase ≡ Kernel size at after → IsPiece d (object_path File old.kernel) at end (Ok piece) → at < end → end ≤ size → next ≡ kernel_from size (at + length piece) after → IsSoFar d old → IsSoFar d new
  kernel_taken size at end after is told grows within from so =
      let known : IsInKernel d old size at after = subst (λ ph. so_far_in ph d old) is so in
      let read = told known.first known.are.first_is (omega (arith, known.first_long, within)) in
      subst (λ ph. so_far_in ph d new) (sym (takes.phase_is ∙ from)) (kernel_goes d new size (at + length piece) after (kernel_more size at end after known read grows within))

  pub initramfs_taken : (size at end : ℕ) (file : List ℕ) → old.phase ≡ Initramfs size at → old.initramfs ≡ Some file → IsPiece d (object_path File file) at end (Ok piece) → at < end → end ≤ size → next ≡ initramfs_from size (at + length piece) → IsSoFar d old → IsSoFar d new
  initramfs_taken size at end file is there told grows within from so =
      let known : IsInInitramfs d old size at = subst (λ ph. so_far_in ph d old) is so in
      let read = told known.second (subst (λ o. IsInitramfs d o known.second) there known.are.second_is) (omega (arith, known.second_long, within)) in
      subst (λ ph. so_far_in ph d new) (sym (takes.phase_is ∙ from)) (initramfs_goes d new size (at + length piece) (initramfs_more size at end known read grows within))
