-- What the record of a call comes to.
use Rattle.std.specs.Prelude.{◌≡◌, ◌≢◌, ◌⊎◌, ℕ, Bool, true, false, if◌then◌else◌, ◌==◌, List, [], ◌∷◌, ◌++◌, Option, Some, None, Result, Ok, Err, IsErrOf, IsOk}
use Rattle.fs_trait.specs.declared.types.FsErr.{FsErr}
use Rattle.fs_trait.specs.declared.types.FsErr.TheVariants.{Failed, NoMemory}
use Rattle.fs_trait.specs.View.{View}
use Rattle.fs_memory.specs.declared.plan.FailAt.{FailAt}
use Rattle.memory_record.specs.declared.change.Change.{Change}
use Rattle.memory_record.specs.declared.change.Change.TheVariants.{Nothing}

-- the plan's word on a call: none, or that it fails, before its effect or after
unfoldable pub planned : List FailAt → ℕ → Option Bool
planned [] n = None
planned (f ∷ fs) n = if f.call == n then Some f.done else planned fs n

-- What is recorded of a call that wants this change, or is refused, and what it answers: a planned call fails, and no
-- other does. One that is refused changes nothing, whatever the plan says.
abbrev pub Settles : Option Bool → Result Change FsErr → Change → Result (Unit {0}) FsErr → Type 0
Settles None (Ok d) c r = (c ≡ d) × (r ≡ Ok tt)
Settles None (Err e) c r = (c ≡ Nothing) × (r ≡ Err e)
Settles (Some true) (Ok d) c r = (c ≡ d) × (r ≡ Err Failed)
Settles (Some false) (Ok d) c r = (c ≡ Nothing) × (r ≡ Err Failed)
Settles (Some done) (Err e) c r = (c ≡ Nothing) × (r ≡ Err Failed)

-- one change is recorded, or none for want of memory
abbrev pub IsRecorded : List Change → Option Bool → Result Change FsErr → Result (Unit {0}) FsErr → List Change → Type 0
IsRecorded old plan change r new = ((c : Change) × Settles plan change c r × (new ≡ old ++ c ∷ []) × (change ≢ Err NoMemory)) ⊎ ((new ≡ old) × (r ≡ Err NoMemory))

-- A changing call obeys the plan: it fails where it is planned, unless it wants for memory, and nowhere else. One that is
-- to take its effect first does so, unless it is refused; any other changes nothing.
abbrev pub Obeys : {T : Type 0} → Option Bool → Option FsErr → View → View → Result T FsErr → View → Type 0
Obeys None refusal v w r new = IsErrOf r Failed → ⊥
Obeys (Some true) None v w r new = IsErrOf r NoMemory ⊎ (IsErrOf r Failed × (new ≡ w))
Obeys (Some true) (Some e) v w r new = IsErrOf r NoMemory ⊎ (IsErrOf r Failed × (new ≡ v))
Obeys (Some false) refusal v w r new = IsErrOf r NoMemory ⊎ (IsErrOf r Failed × (new ≡ v))

-- the same of a reading call
abbrev pub ObeysReading : {T : Type 0} → Option Bool → Result T FsErr → Type 0
ObeysReading None r = IsErrOf r Failed → ⊥
ObeysReading (Some done) r = IsErrOf r Failed

-- what the plan makes of a reading call before it looks
abbrev pub IsTurn : {T : Type 0} → Option Bool → Result T FsErr → Type 0
IsTurn None r = IsOk r
IsTurn (Some done) r = IsErrOf r Failed
