-- The sum of a kernel and its initramfs, by the sums of their objects.
use Rattle.std.specs.Prelude.{◌≡◌, List, ℕ, Option}
use Rattle.sha2.specs.Sha256.{sha256}
use Rattle.fs_trait.specs.View.{Disk}
use Rattle.deploy_list.specs.BootSum.{boot_bytes}
use Rattle.tree_kernel.specs.Sizes.{IsContent, IsInitramfs}

-- the bytes of both files on a disk
pub record AreBytes (d : Disk) (kernel : List ℕ) (initramfs : Option (List ℕ)) (first second : List ℕ) : Type 0 where
  pub first_is : IsContent d kernel first
  pub second_is : IsInitramfs d initramfs second

-- both files are there
abbrev pub HasFiles : Disk → List ℕ → Option (List ℕ) → Type 0
HasFiles d kernel initramfs = (first : List ℕ) × (second : List ℕ) × AreBytes d kernel initramfs first second

-- the sum of what stands there
abbrev pub IsBootSum : Disk → List ℕ → Option (List ℕ) → List ℕ → Type 0
IsBootSum d kernel initramfs sum = (first : List ℕ) × (second : List ℕ) × AreBytes d kernel initramfs first second × (sum ≡ sha256 (boot_bytes first second))
