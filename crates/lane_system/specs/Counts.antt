-- How many objects are in the store.
use Rattle.std.specs.Prelude.{◌≡◌, ◌<◌, ◌≤◌, ℕ, Option, Some}
use Rattle.ost_types.specs.declared.object.ObjName.{ObjName}
use Rattle.fs_trait.specs.declared.types.Value.TheVariants.{Absent}
use Rattle.fs_trait.specs.View.{View}
use Rattle.repo_model.specs.Objects.{path_of}
use Rattle.obj_store.specs.declared.phase.Put.TheVariants.{Stored}
use Rattle.durable_store.specs.Full.{HasAsMany}
use Rattle.command.specs.Doing.{Doing}
use Rattle.lane_system.specs.declared.ask.Ask.{Ask}
use Rattle.lane_system.specs.declared.ask.Ask.TheVariants.{More}
use Rattle.lane_system.specs.declared.lane.Lane.{Lane}
use Rattle.lane_system.specs.declared.lane.Running.{Running}
use Rattle.lane_system.specs.Lanes.{IsAt}
use Rattle.lane_system.specs.Steps.{IsCounted, standing}
use Rattle.lane_system.specs.System.{System}

-- How an act changes the number of objects: one less where it removed one; one more where it goes on and its step stored one; and else
-- as it was.
abbrev pub Counted : {F T W A : Type 0} → Doing T W A → System F T W A → System F T W A → ℕ → Ask → Type 0
Counted {F} {T} {W} {A} d old new actor More = (l : Lane T W A) × (r : Running T) × IsAt new.lanes actor l × (l.task ≡ Some r) × IsCounted (standing old.base.books.gone new.base.books.gone old.objects) (d.met r.work) new.objects
Counted d old new actor ask = new.objects ≡ standing old.base.books.gone new.base.books.gone old.objects

-- an object that an act's step stored wasn't there before, and the store had room for it
abbrev pub Stores : {F T W A : Type 0} → Doing T W A → System F T W A → System F T W A → ℕ → View → Ask → Type 0
Stores {F} {T} {W} {A} d old new actor v More = (l : Lane T W A) (r : Running T) (name : ObjName) → IsAt new.lanes actor l → l.task ≡ Some r → d.met r.work ≡ Some (name, Stored) → (old.objects < old.limits.objects) × (v.now.at (path_of name) ≡ Absent)
Stores d old new actor v ask = Unit {0}

-- What an act does to that number: and as long as it is within the bound it goes on to be so.
pub record Objects {F T W A : Type 0} (d : Doing T W A) (view : F → Option View) (old new : System F T W A) (actor : ℕ) (ask : Ask) : Type 0 where
  pub counts : Counted d old new actor ask
  pub stores : (v : View) → view old.base.fs ≡ Some v → Stores d old new actor v ask
  pub bounded : (v : View) → view old.base.fs ≡ Some v → old.objects ≤ old.limits.objects → new.objects ≤ new.limits.objects

-- as many objects as were counted stand in the view now
abbrev pub AreCounted : {F T W A : Type 0} → System F T W A → View → Type 0
AreCounted s v = HasAsMany v.now s.objects
