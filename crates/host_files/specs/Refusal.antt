-- What a refusal is to the caller of a file system.
use Rattle.std.specs.Prelude.{◌≡◌, ◌+◌, ℕ, Result, Ok, Err}
use Rattle.fs_trait.specs.declared.types.FsErr.{FsErr}
use Rattle.fs_trait.specs.declared.types.FsErr.TheVariants as error
use Rattle.host_files.specs.declared.refusal.Refusal.{Refusal}
use Rattle.host_files.specs.declared.refusal.Refusal.TheVariants.{Failed, Exists, Missing, NotFolder, NotEmpty}

abbrev pub answer : Refusal → FsErr
answer Failed = error.Failed
answer Exists = error.Exists
answer Missing = error.Missing
answer NotFolder = error.NotFolder
answer NotEmpty = error.NotEmpty

-- what a call answers, by what became of it
abbrev pub answered : {T : Type 0} → Result T Refusal → Result T FsErr
answered (Ok x) = Ok x
answered (Err refusal) = Err (answer refusal)

-- where a call lacked memory, the clock goes back by one
abbrev pub IsClockAfter : {T : Type 0} → ℕ → ℕ → Result T FsErr → Type 0
IsClockAfter before now (Ok x) = now ≡ before
IsClockAfter before now (Err error.NoMemory) = now + 1 ≡ before
IsClockAfter before now (Err error.Failed) = now ≡ before
IsClockAfter before now (Err error.Exists) = now ≡ before
IsClockAfter before now (Err error.Missing) = now ≡ before
IsClockAfter before now (Err error.NotFolder) = now ≡ before
IsClockAfter before now (Err error.NotEmpty) = now ≡ before
