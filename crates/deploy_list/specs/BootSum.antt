-- The sum of a kernel and what it first mounts.
use Rattle.std.specs.Prelude.{ℕ, List, ◌++◌, length}
use Rattle.std.specs.Int.{to_be_bytes, w64}
use Rattle.sha2.specs.Hashers.{Holds256}
use Rattle.deploy_list.specs.declared.boot_sum.BootSum.{BootSum}

-- the kernel's length in eight bytes, the greatest first, so that other contents never give the same bytes
abbrev pub boot_bytes : List ℕ → List ℕ → List ℕ
boot_bytes kernel initramfs = to_be_bytes w64 (length kernel) ++ (kernel ++ initramfs)

-- the sum has these bytes so far
abbrev pub HasTaken : BootSum → List ℕ → Type 0
HasTaken sum bytes = Holds256 sum.hasher bytes
