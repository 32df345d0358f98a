-- A sum that is being made, and which step comes next.
use Rattle.std.specs.Prelude.{◌≡◌, ◌≤◌, ◌<◌, ◌+◌, ◌-◌, ◌++◌, nat_lt, List, ℕ, Option, Result, Ok, Err, IsSome, if◌then◌else◌}
use Rattle.std.specs.Int.{to_be_bytes, w64}
use Rattle.fs_trait.specs.declared.types.FsErr.{FsErr}
use Rattle.fs_trait.specs.declared.task.StepResult.{StepResult}
use Rattle.fs_trait.specs.declared.task.StepResult.TheVariants.{More, Done}
use Rattle.fs_trait.specs.Count.{last}
use Rattle.file_copy.specs.Pieces.{piece_end}
use Rattle.deploy_list.specs.BootSum.{HasTaken}
use Rattle.deploy_list.specs.declared.boot_sum.BootSum.{BootSum}
use Rattle.tree_kernel.specs.Sizes.{HasSize}
use Rattle.tree_kernel.specs.declared.phase.SumPhase.{SumPhase}
use Rattle.tree_kernel.specs.declared.phase.SumPhase.TheVariants.{Look, Kernel, Initramfs, Finish, Ended}

-- the sums of the objects of both files, the sum so far, and the phase
pub record Summing : Type 0 where
  pub kernel : List ℕ
  pub initramfs : Option (List ℕ)
  pub sum : BootSum
  pub phase : SumPhase

-- at its beginning it only looks
pub record IsBegun (kernel : List ℕ) (initramfs : Option (List ℕ)) (t : Summing) : Type 0 where
  pub kernel_is : t.kernel ≡ kernel
  pub initramfs_is : t.initramfs ≡ initramfs
  pub phase_is : t.phase ≡ Look

-- something is left to take
abbrev pub within_in : SumPhase → Option (List ℕ) → Type 0
within_in (Kernel size at after) initramfs = (at < size) × (size ≤ last) × (after ≤ last) × HasSize initramfs after
within_in (Initramfs size at) initramfs = (at < size) × (size ≤ last) × IsSome initramfs
within_in ph initramfs = Unit {0}

abbrev pub IsAt : Summing → SumPhase → Type 0
IsAt t ph = (t.phase ≡ ph) × within_in ph t.initramfs

-- what comes next where the kernel was taken, and so many bytes of the initramfs,
abbrev pub initramfs_from : ℕ → ℕ → SumPhase
initramfs_from size at = if nat_lt at size then Initramfs size at else Finish

-- and where so many of the kernel's were
abbrev pub kernel_from : ℕ → ℕ → ℕ → SumPhase
kernel_from size at after = if nat_lt at size then Kernel size at after else initramfs_from after 0

-- The sum begins with the kernel's length, and this comes next.
pub record Begins (old : Summing) (len : ℕ) (next : SumPhase) (new : Summing) : Type 0 where
  pub kernel_is : new.kernel ≡ old.kernel
  pub initramfs_is : new.initramfs ≡ old.initramfs
  pub phase_is : new.phase ≡ next
  pub taken : HasTaken new.sum (to_be_bytes w64 len)

-- The sum goes on with these bytes, and this comes next.
pub record Takes (old : Summing) (piece : List ℕ) (next : SumPhase) (new : Summing) : Type 0 where
  pub kernel_is : new.kernel ≡ old.kernel
  pub initramfs_is : new.initramfs ≡ old.initramfs
  pub phase_is : new.phase ≡ next
  pub taken : (bytes : List ℕ) → HasTaken old.sum bytes → HasTaken new.sum (bytes ++ piece)

-- a task that has its sum is done
abbrev pub turn_of : SumPhase → StepResult (List ℕ)
turn_of (Ended sum) = Done sum
turn_of ph = More

-- Which step it was: a look at both files; a piece of one of them, of at least one byte and at most 1 MiB; or the sum was made.
abbrev pub goes_in : SumPhase → SumPhase → Type 0
goes_in Look new = (size : ℕ) × (after : ℕ) × (new ≡ kernel_from size 0 after)
goes_in (Kernel size at after) new = (n : ℕ) × (at < n) × (n ≤ piece_end size at) × (new ≡ kernel_from size n after)
goes_in (Initramfs size at) new = (n : ℕ) × (at < n) × (n ≤ piece_end size at) × (new ≡ initramfs_from size n)
goes_in Finish new = (sum : List ℕ) × (new ≡ Ended sum)
goes_in (Ended sum) new = new ≡ Ended sum

-- A step is of the same files, and is done with the sum where that is there. One that wasn't done leaves the task as it was.
abbrev pub IsStepped : Summing → Result (StepResult (List ℕ)) FsErr → Summing → Type 0
IsStepped old (Ok turn) new = goes_in old.phase new.phase × (new.kernel ≡ old.kernel) × (new.initramfs ≡ old.initramfs) × (turn ≡ turn_of new.phase)
IsStepped old (Err e) new = new ≡ old

abbrev pub OnMore : Result (StepResult (List ℕ)) FsErr → Type 0 → Type 0
OnMore (Ok More) P = P
OnMore r P = Unit {0}

-- no more steps than this are left: each byte counts as one, and files whose sizes aren't known as the longest
abbrev pub left_in : SumPhase → ℕ
left_in Look = 2 + (last + last)
left_in (Kernel size at after) = 1 + (size - at) + after
left_in (Initramfs size at) = 1 + (size - at)
left_in Finish = 1
left_in (Ended sum) = 0

abbrev pub left : Summing → ℕ
left t = left_in t.phase
