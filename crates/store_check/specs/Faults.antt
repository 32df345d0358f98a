-- When a call of the file system is the reason.
use Rattle.std.specs.Prelude.{◌≤◌, ℕ, Result, Ok, Err}
use Rattle.fs_trait.specs.declared.types.FsErr.TheVariants as fs
use Rattle.fs_trait.specs.Count.{Rose}
use Rattle.store_check.specs.declared.fault.ObjectsFault.{ObjectsFault}
use Rattle.store_check.specs.declared.fault.ObjectsFault.TheVariants as objects
use Rattle.store_check.specs.declared.fault.CommitsFault.{CommitsFault}
use Rattle.store_check.specs.declared.fault.CommitsFault.TheVariants as commits

-- a call failed
abbrev pub FailedBy : ObjectsFault → Type 0
FailedBy (objects.Fs fs.Failed) = Unit {0}
FailedBy f = ⊥

abbrev pub ObjectsFailed : {T : Type 0} → Result T ObjectsFault → Type 0
ObjectsFailed (Ok x) = ⊥
ObjectsFailed (Err f) = FailedBy f

abbrev pub CommitsFailed : {T : Type 0} → Result T CommitsFault → Type 0
CommitsFailed (Err (commits.Fs fs.Failed)) = Unit {0}
CommitsFailed r = ⊥

-- A call failed only where the count of faults rose, or stands at its last value.
pub record HasCauseOf (before now : ℕ) (Failed : Type 0) : Type 0 where
  pub later : before ≤ now
  pub failed : Failed → Rose before now
