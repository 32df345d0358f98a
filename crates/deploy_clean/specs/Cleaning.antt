-- The deployments that no list names on their way to being removed, and which step comes next.
use Rattle.std.specs.Prelude.{◌≡◌, ◌⊎◌, ◌+◌, ◌-◌, ◌*◌, ℕ, List, [], ◌∷◌, length, Result, Ok, Err}
use Rattle.ost_types.specs.Path.{Name, Path, under}
use Rattle.fs_trait.specs.declared.types.FsErr.{FsErr}
use Rattle.fs_trait.specs.declared.task.StepResult.{StepResult}
use Rattle.fs_trait.specs.declared.task.StepResult.TheVariants.{More, Done}
use Rattle.repo_layout.specs.OsName.{IsOsName}
use Rattle.boot_model.specs.declared.item.DepId.{DepId}
use Rattle.checkout.specs.Remove as removal
use Rattle.checkout.specs.Remove.{Removing}
use Rattle.deploy_clean.specs.declared.phase.Phase.{Phase}
use Rattle.deploy_clean.specs.declared.phase.Phase.TheVariants.{Begin, Open, See, Remove, Ended}
use Rattle.deploy_clean.specs.Opened.{Opened, passed}
use Rattle.deploy_clean.specs.Unlisted.{IsUnlistedName, deployments}
use Rattle.deploy_clean.specs.NextName.{IsUnlistedPath}

-- The list, the names beside those of stateroots that weren't looked at yet, the next one first, and how far it is.
pub record Cleaning : Type 0 where
  pub listed : List DepId
  pub stateroots : List Name
  pub phase : Phase

-- at its beginning
abbrev pub begun : List DepId → Cleaning
begun listed = record { listed = listed; stateroots = []; phase = Begin }

abbrev pub IsWithin : Phase → List DepId → Type 0
IsWithin (Remove o c) listed = IsUnlistedPath listed o c.at
IsWithin ph listed = Unit {0}

-- what each such task keeps
abbrev pub IsMade : Cleaning → Type 0
IsMade t = IsWithin t.phase t.listed

-- the same with a phase
abbrev pub in_phase : Phase → Cleaning → Cleaning
in_phase ph t = record t { phase = ph }

-- The names in the folder of stateroots are known.
abbrev pub Begins : Cleaning → Cleaning → Type 0
Begins old new = (names : List Name) × (new ≡ record old { stateroots = names; phase = Open })

-- The next of them is passed over where it is no stateroot's, and else it is in hand with the names of its deployments; after the last
-- one the task is done.
abbrev pub opens_in : List Name → Cleaning → StepResult (Unit {0}) → Cleaning → Type 0
opens_in [] old turn new = (turn ≡ Done tt) × (new ≡ in_phase Ended old)
opens_in (x ∷ rest) old turn new =
    (turn ≡ More)
    × (((¬ (IsOsName x)) × (new ≡ record old { stateroots = rest }))
    ⊎ (IsOsName x × ((names : List Name) × (new ≡ record old { stateroots = rest; phase = See (record { os = x; names = names }) }))))

-- The next of these is passed over where it isn't that of a deployment that isn't listed, nor of its origin file, and else its removal
-- begins; after the last one it is the next stateroot's turn.
abbrev pub sees_in : List Name → Opened → Cleaning → Cleaning → Type 0
sees_in [] o old new = new ≡ in_phase Open old
sees_in (x ∷ rest) o old new =
    ((¬ (IsUnlistedName old.listed o.os x)) × (new ≡ in_phase (See (passed o)) old))
    ⊎ (IsUnlistedName old.listed o.os x × (new ≡ in_phase (Remove o (removal.begun (under (deployments o.os) x))) old))

-- the removal goes one step on, and after its last one the name is passed
abbrev pub removed_to : StepResult (Unit {0}) → Opened → Removing → Phase
removed_to More o c = Remove o c
removed_to (Done x) o c = See (passed o)

abbrev pub Removes : Opened → Removing → Cleaning → Cleaning → Type 0
Removes o c old new = (d : Removing) × removal.Follows (removal.act c) c d × (new ≡ in_phase (removed_to (removal.turn_in d.phase) o d) old)

abbrev pub IsSeeing : Phase → Type 0
IsSeeing (See o) = Unit {0}
IsSeeing ph = ⊥

abbrev pub IsRemoving : Phase → Type 0
IsRemoving (Remove o c) = Unit {0}
IsRemoving ph = ⊥

-- what is to be removed next stands at this path
abbrev pub path_in : Phase → List DepId → Path → Type 0
path_in (See o) listed p = IsUnlistedPath listed o p
path_in ph listed p = ⊥

abbrev pub IsNextPath : Path → Cleaning → Type 0
IsNextPath p t = path_in t.phase t.listed p

-- the phase in which that removal begins, and the one after it
abbrev pub removing_from : Path → Phase → Phase
removing_from p (See o) = Remove o (removal.begun p)
removing_from p ph = ph

abbrev pub passed_by : Phase → Phase
passed_by (Remove o c) = See (passed o)
passed_by ph = ph

-- Which step it was, and what changed in the task.
abbrev pub steps_in : Phase → Cleaning → StepResult (Unit {0}) → Cleaning → Type 0
steps_in Begin old turn new = (turn ≡ More) × Begins old new
steps_in Open old turn new = opens_in old.stateroots old turn new
steps_in (See o) old turn new = (turn ≡ More) × sees_in o.names o old new
steps_in (Remove o c) old turn new = (turn ≡ More) × Removes o c old new
steps_in Ended old turn new = (turn ≡ Done tt) × (new ≡ old)

-- One that wasn't done leaves the task as it was.
abbrev pub IsStepped : Cleaning → Result (StepResult (Unit {0})) FsErr → Cleaning → Type 0
IsStepped old (Ok turn) new = steps_in old.phase old turn new
IsStepped old (Err e) new = new ≡ old

-- no name takes more steps than this: one that looks at it, and those of a removal
abbrev pub name_steps : ℕ
name_steps = 170141183460469231731687303715884105731

-- no stateroot takes more: those of as many names as there is memory for, and two
abbrev pub stateroot_steps : ℕ
stateroot_steps = 18446744073709551616 * name_steps + 2

-- No more steps than this are left, whatever is found.
abbrev pub left_in : Phase → ℕ → ℕ
left_in Begin count = 18446744073709551616 * stateroot_steps + 2
left_in Open count = count * stateroot_steps + 1
left_in (See o) count = count * stateroot_steps + length o.names * name_steps + 2
left_in (Remove o c) count = count * stateroot_steps + (length o.names - 1) * name_steps + removal.left c + 3
left_in Ended count = 0

abbrev pub left : Cleaning → ℕ
left t = left_in t.phase (length t.stateroots)

-- how a step moves the clock: only a removal calls for a change
abbrev pub Takes : Phase → ℕ → ℕ → Type 0
Takes (Remove o c) before now = removal.Takes (removal.act c) before now
Takes ph before now = now ≡ before
