-- Which step it was.
use Rattle.std.proofs.Common.{◌≡◌, ℕ, ◌<◌, ◌≤◌, Bool, true, false, refl, sym, ◌∙◌, ap, subst, List, Ok, if◌then◌else◌}
use Rattle.std.specs.Prelude.{nat_lt}
use Rattle.fs_trait.specs.declared.task.StepResult.TheVariants.{More}
use Rattle.file_copy.specs.Pieces.{piece_end}
use Rattle.tree_kernel.specs.Summing.{Begins, IsStepped, Summing, Takes, goes_in, initramfs_from, kernel_from, turn_of}
use Rattle.tree_kernel.specs.declared.phase.SumPhase.{SumPhase}
use Rattle.tree_kernel.specs.declared.phase.SumPhase.TheVariants.{Look, Kernel, Initramfs, Finish}

initramfs_turn : (size at : ℕ) → More ≡ turn_of (initramfs_from size at)
initramfs_turn size at = by (nat_lt at size)
  where
    by : (b : Bool) → More ≡ turn_of (if b then Initramfs size at else Finish)
    by true = refl
    by false = refl

kernel_turn : (size at after : ℕ) → More ≡ turn_of (kernel_from size at after)
kernel_turn size at after = by (nat_lt at size)
  where
    by : (b : Bool) → More ≡ turn_of (if b then Kernel size at after else initramfs_from after 0)
    by true = refl
    by false = initramfs_turn after 0

pub look_stepped : (old new : Summing) (len size after : ℕ) (next : SumPhase) → old.phase ≡ Look → Begins old len next new → next ≡ kernel_from size 0 after → IsStepped old (Ok More) new
look_stepped old new len size after next is begins from =
    let goes : new.phase ≡ kernel_from size 0 after = begins.phase_is ∙ from in
    (subst (λ ph. goes_in ph new.phase) (sym is) (size, after, goes), begins.kernel_is, begins.initramfs_is, kernel_turn size 0 after ∙ ap turn_of (sym goes))

module _ (old new : Summing) (piece : List ℕ) (next : SumPhase) (takes : Takes old piece next new) where
  pub kernel_stepped : (size at after n : ℕ) → old.phase ≡ Kernel size at after → next ≡ kernel_from size n after → at < n → n ≤ piece_end size at → IsStepped old (Ok More) new
  kernel_stepped size at after n is from some few =
      let goes : new.phase ≡ kernel_from size n after = takes.phase_is ∙ from in
      (subst (λ ph. goes_in ph new.phase) (sym is) (n, some, few, goes), takes.kernel_is, takes.initramfs_is, kernel_turn size n after ∙ ap turn_of (sym goes))

  pub initramfs_stepped : (size at n : ℕ) → old.phase ≡ Initramfs size at → next ≡ initramfs_from size n → at < n → n ≤ piece_end size at → IsStepped old (Ok More) new
  initramfs_stepped size at n is from some few =
      let goes : new.phase ≡ initramfs_from size n = takes.phase_is ∙ from in
      (subst (λ ph. goes_in ph new.phase) (sym is) (n, some, few, goes), takes.kernel_is, takes.initramfs_is, initramfs_turn size n ∙ ap turn_of (sym goes))
