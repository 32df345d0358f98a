-- Which objects the lanes have pinned.
use Rattle.std.specs.Prelude.{ℕ, List, Contains}
use Rattle.ost_types.specs.declared.limits.Limits.{Limits}
use Rattle.ost_types.specs.declared.object.ObjName.{ObjName}
use Rattle.rely_guarantee.specs.declared.books.Books as rust
use Rattle.rely_guarantee.specs.declared.books.Pin.{Pin}
use Rattle.command.specs.Meaning.{Meaning}
use Rattle.command.specs.Since.{Since}
use Rattle.lane_system.specs.declared.lane.Lane.{Lane}
use Rattle.lane_system.specs.declared.lane.Running.{Running}
use Rattle.lane_system.specs.Lanes.{IsCommand, IsRunning}
use Rattle.lane_system.specs.States.{since_in}

-- the object is in the command's work, and where the view is told it is there by this
abbrev pub IsWorkOf : {W A : Type 0} → Type 0 → Meaning W A → Since → W → ObjName → Type 0
IsWorkOf told m since c name = m.works since c name × (told → m.reaches since c name)

-- The pin is one of a lane whose command runs, and in the work of that command.
pub record IsPinOf {T W A : Type 0} (told : Type 0) (m : Meaning W A) (limits : Limits) (b : rust.Books) (lanes : List (Lane T W A)) (p : Pin) : Type 0 where
  pub number : ℕ
  pub task : Running T
  pub command : W
  pub runs : IsRunning lanes p.lane number task
  pub is : IsCommand lanes p.lane number command
  pub work : IsWorkOf told m (since_in limits b task.start) command p.object

-- so is each
abbrev pub AreInWork : {T W A : Type 0} → Type 0 → Meaning W A → Limits → rust.Books → List (Lane T W A) → Type 0
AreInWork told m limits b lanes = (p : Pin) → Contains b.pins.items p → IsPinOf told m limits b lanes p
