-- What is known of a disk while a sum is made, and what each step tells.
use Rattle.std.specs.Prelude.{◌≡◌, ◌++◌, List, ℕ, length, take, Result, Ok, Err}
use Rattle.std.specs.Int.{to_be_bytes, w64}
use Rattle.fs_trait.specs.declared.types.FsErr.{FsErr}
use Rattle.fs_trait.specs.declared.types.FsErr.TheVariants.{Missing}
use Rattle.fs_trait.specs.declared.task.StepResult.{StepResult}
use Rattle.fs_trait.specs.declared.task.StepResult.TheVariants.{More, Done}
use Rattle.fs_trait.specs.Effect.{OfNone}
use Rattle.fs_trait.specs.View.{Disk}
use Rattle.deploy_list.specs.BootSum.{HasTaken, boot_bytes}
use Rattle.tree_kernel.specs.Sum.{AreBytes, HasFiles, IsBootSum}
use Rattle.tree_kernel.specs.Summing.{Summing}
use Rattle.tree_kernel.specs.declared.phase.SumPhase.{SumPhase}
use Rattle.tree_kernel.specs.declared.phase.SumPhase.TheVariants.{Look, Kernel, Initramfs, Finish, Ended}

-- The sum has taken the kernel's length and so many of its bytes.
pub record IsInKernel (d : Disk) (t : Summing) (size at after : ℕ) : Type 0 where
  pub first : List ℕ
  pub second : List ℕ
  pub are : AreBytes d t.kernel t.initramfs first second
  pub first_long : length first ≡ size
  pub second_long : length second ≡ after
  pub taken : HasTaken t.sum (to_be_bytes w64 (length first) ++ take at first)

-- It has taken that, the kernel and so many bytes of the initramfs.
pub record IsInInitramfs (d : Disk) (t : Summing) (size at : ℕ) : Type 0 where
  pub first : List ℕ
  pub second : List ℕ
  pub are : AreBytes d t.kernel t.initramfs first second
  pub second_long : length second ≡ size
  pub taken : HasTaken t.sum (boot_bytes first (take at second))

-- It has taken all.
pub record IsWhole (d : Disk) (t : Summing) : Type 0 where
  pub first : List ℕ
  pub second : List ℕ
  pub are : AreBytes d t.kernel t.initramfs first second
  pub taken : HasTaken t.sum (boot_bytes first second)

-- What a task knows of a disk: at its beginning nothing, and in the end the sum.
abbrev pub so_far_in : SumPhase → Disk → Summing → Type 0
so_far_in Look d t = Unit {0}
so_far_in (Kernel size at after) d t = IsInKernel d t size at after
so_far_in (Initramfs size at) d t = IsInInitramfs d t size at
so_far_in Finish d t = IsWhole d t
so_far_in (Ended sum) d t = IsBootSum d t.kernel t.initramfs sum

abbrev pub IsSoFar : Disk → Summing → Type 0
IsSoFar d t = so_far_in t.phase d t

-- Why a step isn't done: a file isn't there, or a call failed or wanted for memory.
abbrev pub Refuses : Disk → Summing → FsErr → Type 0
Refuses d t Missing = HasFiles d t.kernel t.initramfs → ⊥
Refuses d t e = OfNone e

-- What a step tells of a disk of which the task knew that much: as much of the task after it, and in the end the sum.
abbrev pub StepTells : Disk → Summing → Result (StepResult (List ℕ)) FsErr → Summing → Type 0
StepTells d old (Ok More) new = IsSoFar d new
StepTells d old (Ok (Done sum)) new = IsSoFar d new × IsBootSum d old.kernel old.initramfs sum
StepTells d old (Err e) new = Refuses d old e
