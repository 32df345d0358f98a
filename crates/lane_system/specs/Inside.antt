-- That something else than this program changed the disk is told by no reply, where the view is told.
use Rattle.std.specs.Prelude.{ℕ, List}
use Rattle.fs_trait.specs.View.{View}
use Rattle.repo_model.specs.Objects.{Store}
use Rattle.durable_store.specs.Brought.{NoHashCollisionOn}
use Rattle.command.specs.Meaning.{Meaning}
use Rattle.lane_system.specs.declared.lane.Lane.{Lane}
use Rattle.lane_system.specs.declared.lane.Reply.{Reply}
use Rattle.lane_system.specs.Family.{FsSpec}
use Rattle.lane_system.specs.Lanes.{IsTo}
use Rattle.lane_system.specs.Replies.{IsOutside, OfAnswer}
use Rattle.lane_system.specs.Storing.{WasBrought}
use Rattle.lane_system.specs.System.{System}

-- no step was refused for it
abbrev pub AreUnrefused : {T W A : Type 0} → List (Lane T W A) → Type 0
AreUnrefused {T} {W} {A} lanes = (lane number : ℕ) (r : Reply A) → IsTo lanes lane number r → ¬ (IsOutside r.answer)

-- Nor does an answer say that an object isn't there as its name says, if since this moment reads never saw other bytes with the name of
-- bytes that were brought.
pub record NoExternalChangeIn {T W A : Type 0} (m : Meaning W A) (was : ℕ → View → Type 0) (moment : ℕ) (brings : Store) (lanes : List (Lane T W A)) : Type 0 where
  pub unrefused : AreUnrefused lanes
  pub seen : ((v : View) → was moment v → NoHashCollisionOn brings v.now) → (lane number : ℕ) (r : Reply A) → IsTo lanes lane number r → ¬ (OfAnswer m.outside r.answer)

-- so of a system, since its opening
abbrev pub NoExternalChange : {F T W A : Type 0} → FsSpec F → Meaning W A → System F T W A → Type 0
NoExternalChange f m s = NoExternalChangeIn m (f.was s.base.fs) s.base.books.opened (WasBrought m s) s.lanes
