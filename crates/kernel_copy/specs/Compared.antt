-- What a comparison of a copy with its object answers.
use Rattle.std.specs.Prelude.{◌≡◌, ◌↔◌, ℕ, Bool, IsTrue, List, Option, Some, None, Result, Ok, Err}
use Rattle.ost_types.specs.Path.{Name, Path}
use Rattle.fs_trait.specs.declared.types.FsErr.{FsErr}
use Rattle.fs_trait.specs.View.{Disk}
use Rattle.fs_trait.specs.Effect.{OfNone}
use Rattle.file_copy.specs.Comparing.{AreSame}
use Rattle.kernel_copy.specs.declared.files.KernelFiles.{KernelFiles}
use Rattle.kernel_copy.specs.Copies.{IsCopy, file_path, initramfs_path}

-- whether two paths show regular files with the same bytes
abbrev pub TellsFiles : Disk → Path → Path → Result Bool FsErr → Type 0
TellsFiles d one other (Ok same) = IsTrue same ↔ AreSame d one other
TellsFiles d one other (Err e) = OfNone e

abbrev pub Tells : Disk → Path → List ℕ → Result Bool FsErr → Type 0
Tells d at sum r = TellsFiles d at (file_path sum) r

-- the path, where it has no copy of the object
abbrev pub IsFound : Disk → Path → List ℕ → Option Path → Type 0
IsFound d at sum None = IsCopy d at sum
IsFound d at sum (Some p) = (p ≡ at) × ¬ (IsCopy d at sum)

abbrev pub FindsAt : Disk → Path → List ℕ → Result (Option Path) FsErr → Type 0
FindsAt d at sum (Ok found) = IsFound d at sum found
FindsAt d at sum (Err e) = OfNone e

-- so of an object, if there is one
abbrev pub IsFoundAny : Disk → Path → Option (List ℕ) → Option Path → Type 0
IsFoundAny d at None found = found ≡ None
IsFoundAny d at (Some sum) found = IsFound d at sum found

abbrev pub FindsSecond : Disk → Name → KernelFiles → Result (Option Path) FsErr → Type 0
FindsSecond d os files (Ok found) = IsFoundAny d (initramfs_path os files) files.initramfs found
FindsSecond d os files (Err e) = OfNone e
