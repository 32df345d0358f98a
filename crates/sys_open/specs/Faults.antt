-- Why a repository isn't opened, as far as a call of the file system is the reason.
use Rattle.std.specs.Prelude.{◌≡◌, ◌⊎◌, ◌≤◌, ℕ, Result, IsErrOf}
use Rattle.ost_types.specs.Path.{Path}
use Rattle.fs_trait.specs.declared.types.FsErr.{FsErr}
use Rattle.fs_trait.specs.declared.types.FsErr.TheVariants as err
use Rattle.fs_trait.specs.Count.{Rose}
use Rattle.sys_open.specs.declared.fault.OpenFault.{OpenFault}
use Rattle.sys_open.specs.declared.fault.OpenFault.TheVariants.{Disk, Outside, NoMemory}

-- what is told where a call on a path answered an error
abbrev pub IsRefusal : Path → FsErr → OpenFault → Type 0
IsRefusal at err.Failed fault = fault ≡ Disk
IsRefusal at err.NoMemory fault = fault ≡ NoMemory
IsRefusal at e fault = (fault ≡ Outside at) ⊎ (fault ≡ NoMemory)

-- a call failed, or wanted for memory
abbrev pub IsInterruption : OpenFault → Type 0
IsInterruption Disk = Unit {0}
IsInterruption NoMemory = Unit {0}
IsInterruption fault = ⊥

-- `Disk` comes only where the count of faults rose, or stands at its last value
pub record HasReason {T : Type 0} (before now : ℕ) (result : Result T OpenFault) : Type 0 where
  pub later : before ≤ now
  pub disk : IsErrOf result Disk → Rose before now
