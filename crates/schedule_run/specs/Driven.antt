-- Acts one after the other, and what they keep.
use Rattle.std.specs.Prelude.{◌≡◌, ℕ, List, [], ◌∷◌}
use Rattle.command.specs.Meaning.{Meaning}
use Rattle.lane_system.specs.declared.ask.Ask.{Ask}
use Rattle.lane_system.specs.Booked.{Acted, AnswerTells, IsLater, commands_of}
use Rattle.lane_system.specs.Family.{Family, FsSpec}
use Rattle.lane_system.specs.Preserves.{Preserves}
use Rattle.lane_system.specs.System.{System}

-- what holds after acts if it held before
pub record Driven {F T W A : Type 0} (f : FsSpec F) (c : Family T W A) (old new : System F T W A) : Type 0 where
  pub commands : commands_of new ≡ commands_of old
  pub later : IsLater old new
  pub preserves : Preserves f c old new

-- what an act of a lane tells with its answer
abbrev pub ActsAs : {F T W A : Type 0} → FsSpec F → Meaning W A → System F T W A → System F T W A → ℕ → Ask → Type 0
ActsAs f m old new actor ask = Acted (AnswerTells m f.view (f.faults old.base.fs) (f.faults new.base.fs) old) old new actor ask

-- one act of each of these actors, in their order
abbrev pub ActsOf : {F T W A : Type 0} → FsSpec F → Meaning W A → List ℕ → System F T W A → System F T W A → Type 0
ActsOf f m [] old new = new ≡ old
ActsOf f m (actor ∷ actors) old new = (next : System _ _ _ _) × (ask : Ask) × ActsAs f m old next actor ask × ActsOf f m actors next new
