-- What each step needs, writes, tells and is refused for.
use Rattle.std.specs.Prelude.{◌≡◌, ◌⊎◌, IsTrue, List, Contains, Option, Some, Result, OnOk, IfOk, IfErr, IsErrOf}
use Rattle.ost_types.specs.Path.{Name, Path, is_below, under}
use Rattle.fs_trait.specs.declared.types.FsErr.{FsErr}
use Rattle.fs_trait.specs.declared.types.FsErr.TheVariants.{NoMemory}
use Rattle.fs_trait.specs.declared.task.StepResult.{StepResult}
use Rattle.fs_trait.specs.declared.task.StepResult.TheVariants.{More, Done}
use Rattle.fs_trait.specs.View.{View}
use Rattle.fs_trait.specs.Image.{Told}
use Rattle.fs_trait.specs.Effect.{OfNone}
use Rattle.fs_trait.specs.Seen.{Seen, Vacant, shows}
use Rattle.fs_trait.specs.Change.{Writes}
use Rattle.boot_model.specs.declared.item.DepId.{DepId}
use Rattle.checkout.specs.RemoveSteps as removal
use Rattle.deploy_clean.specs.declared.phase.Phase.{Phase}
use Rattle.deploy_clean.specs.declared.phase.Phase.TheVariants.{Begin, Open, See, Remove, Ended}
use Rattle.deploy_clean.specs.Opened.{Opened}
use Rattle.deploy_clean.specs.Cleaning.{Cleaning, IsMade}
use Rattle.deploy_clean.specs.Unlisted.{IsClean, IsUnlisted, deployments}

-- What the next step may write: what a removal does.
abbrev pub writes_in : Phase → View → Path → Seen → Type 0
writes_in (Remove o c) v p s = removal.WritesOf c v p s
writes_in ph v p s = ⊥

abbrev pub WritesOf : Cleaning → View → Path → Seen → Type 0
WritesOf t = writes_in t.phase

-- It stands at or below the path of a deployment that isn't listed, or of its origin file.
abbrev pub Goes : List DepId → Path → Type 0
Goes listed p = (q : Path) × IsUnlisted listed q × IsTrue (is_below q p)

-- what a step leaves, whatever it answers
abbrev pub leaves_in : Phase → View → View → Type 0
leaves_in (Remove o c) v w = removal.Leaves c v w
leaves_in ph v w = w ≡ v

-- The path lies under the deployments of a stateroot that wasn't looked at yet,
abbrev pub IsAhead : List Name → Path → Type 0
IsAhead stateroots p = (os : Name) × (name : Name) × Contains stateroots os × (p ≡ under (deployments os) name)

-- or under a name of the one in hand that wasn't seen to yet.
abbrev pub IsInHand : Opened → Path → Type 0
IsInHand o p = (name : Name) × Contains o.names name × (p ≡ under (deployments o.os) name)

-- where something may still stand that is to go
abbrev pub ahead_in : Phase → List Name → Path → Type 0
ahead_in Begin stateroots p = Unit {0}
ahead_in Open stateroots p = IsAhead stateroots p
ahead_in (See o) stateroots p = IsInHand o p ⊎ IsAhead stateroots p
ahead_in (Remove o c) stateroots p = IsInHand o p ⊎ IsAhead stateroots p
ahead_in Ended stateroots p = ⊥

abbrev pub removal_in : Phase → View → Type 0
removal_in (Remove o c) v = removal.Needs c v
removal_in ph v = Unit {0}

-- What the next step needs. A new task needs nothing of the view.
pub record Needs (t : Cleaning) (v : View) : Type 0 where
  pub made : IsMade t
  pub known : (p : Path) → IsUnlisted t.listed p → (shows v.now p ≡ Vacant) ⊎ ahead_in t.phase t.stateroots p
  pub removing : removal_in t.phase v

-- at or below the path that is being removed
abbrev pub removed_in : Phase → Path → Type 0
removed_in (Remove o c) p = IsTrue (is_below c.at p)
removed_in ph p = ⊥

-- What the next step has stays so while others put nothing at such a path, and write nothing at or below the one that is being removed.
pub record Spares (W : Path → Seen → Type 0) (t : Cleaning) : Type 0 where
  pub puts : (p : Path) (s : Seen) → W p s → IsUnlisted t.listed p → s ≡ Vacant
  pub removed : (p : Path) (s : Seen) → W p s → ¬ (removed_in t.phase p)

-- Why a step isn't done: the call failed or wanted for memory, or what is to be removed has too long a path.
abbrev pub refuses_in : Phase → View → FsErr → Type 0
refuses_in (Remove o c) v e = removal.Refuses c v e
refuses_in ph v e = OfNone e

-- at the end nothing stands at the path of a deployment that isn't listed, nor at that of its origin file
abbrev pub Tells : List DepId → View → StepResult (Unit {0}) → Type 0
Tells listed w More = Unit {0}
Tells listed w (Done x) = IsClean w.now listed

-- What a step says of a view that is told: what it wrote and leaves, what the next one has, what its answer tells, why it wasn't done,
-- and that one which wanted for memory changed nothing.
pub record IsToldStep (old new : Cleaning) (v : View) (r : Result (StepResult (Unit {0})) FsErr) (view : Option View) : Type 0 where
  pub writes : Told view (λ w. Writes (WritesOf old v) v w)
  pub leaves : Told view (leaves_in old.phase v)
  pub after : OnOk r (Told view (λ w. Needs new w))
  pub tells : IfOk r (λ turn. Told view (λ w. Tells old.listed w turn))
  pub fails : IfErr r (refuses_in old.phase v)
  pub unchanged : IsErrOf r NoMemory → view ≡ Some v
