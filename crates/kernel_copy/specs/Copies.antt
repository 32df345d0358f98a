-- The copies of a kernel that the boot loader reads (OSTree manual, "Deployments"; Boot Loader Specification, "Type #1 Boot Loader
-- Specification Entries").
use Rattle.std.specs.Prelude.{◌≡◌, ◌≢◌, ◌⊎◌, ◌++◌, ℕ, List, codes, Option, Some, None, Result, Ok, Err}
use Rattle.std.specs.declared.cmp.Ordering.TheVariants.{Less}
use Rattle.ost_types.specs.declared.object.Kind.TheVariants.{File}
use Rattle.ost_types.specs.Path.{Name, Path, path_cmp, under}
use Rattle.fs_trait.specs.declared.types.FsErr.{FsErr}
use Rattle.fs_trait.specs.View.{Disk}
use Rattle.fs_trait.specs.Effect.{OfNone}
use Rattle.repo_layout.specs.BootPaths.{kernel_path}
use Rattle.repo_layout.specs.Paths.{object_path}
use Rattle.file_copy.specs.Comparing.{AreSame}
use Rattle.kernel_copy.specs.declared.files.KernelFiles.{KernelFiles}

-- how the copies are named by the kernel's version, as the entries of the boot loader name them,
abbrev pub vmlinuz_name : Name → Name
vmlinuz_name kver = codes "vmlinuz-" ++ kver

abbrev pub initramfs_name : Name → Name
initramfs_name kver = codes "initramfs-" ++ (kver ++ codes ".img")

-- and where they stand
abbrev pub vmlinuz_path : Name → KernelFiles → Path
vmlinuz_path os files = under (kernel_path os files.bootcsum) (vmlinuz_name files.kver)

abbrev pub initramfs_path : Name → KernelFiles → Path
initramfs_path os files = under (kernel_path os files.bootcsum) (initramfs_name files.kver)

-- where the object of a file stands
abbrev pub file_path : List ℕ → Path
file_path sum = object_path File sum

-- which object is to have a copy at which path: that of the kernel, and that of what it first mounts, if there is one
abbrev pub IsFor : Name → KernelFiles → Path → List ℕ → Type 0
IsFor os files at sum = ((at ≡ vmlinuz_path os files) × (sum ≡ files.kernel)) ⊎ ((at ≡ initramfs_path os files) × (files.initramfs ≡ Some sum))

-- a regular file with the object's bytes, whatever its attributes
abbrev pub IsCopy : Disk → Path → List ℕ → Type 0
IsCopy d at sum = AreSame d at (file_path sum)

-- The copies are there.
abbrev pub AreCopied : Disk → Name → KernelFiles → Type 0
AreCopied d os files = (at : Path) (sum : List ℕ) → IsFor os files at sum → IsCopy d at sum

-- One of them isn't.
abbrev pub IsOther : Disk → Name → KernelFiles → Path → Type 0
IsOther d os files at = (sum : List ℕ) × IsFor os files at sum × ¬ (IsCopy d at sum)

-- The first of which that holds, in the order of paths, or that all are there. No two answers hold of one disk.
abbrev pub IsFirstOther : Disk → Name → KernelFiles → Option Path → Type 0
IsFirstOther d os files None = AreCopied d os files
IsFirstOther d os files (Some at) = IsOther d os files at × ((other : Path) → IsOther d os files other → path_cmp other at ≢ Less)

abbrev pub Finds : Disk → Name → KernelFiles → Result (Option Path) FsErr → Type 0
Finds d os files (Ok found) = IsFirstOther d os files found
Finds d os files (Err e) = OfNone e
