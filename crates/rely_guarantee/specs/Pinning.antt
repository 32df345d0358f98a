-- What becomes of the pins in an act.
use Rattle.std.specs.Prelude.{◌≡◌, ◌++◌, ◌∷◌, [], ℕ, Bool, not, nat_eq, List, Option, Some, None}
use Rattle.std.specs.List.{filter}
use Rattle.ost_types.specs.declared.object.ObjName.{ObjName}
use Rattle.rely_guarantee.specs.declared.books.Pin.{Pin}
use Rattle.rely_guarantee.specs.declared.kind.Outcome.{Outcome}
use Rattle.rely_guarantee.specs.declared.kind.Outcome.TheVariants as came
use Rattle.rely_guarantee.specs.Laws.{Kind, Take}

-- the object that a step of this kind pins
abbrev pub pin_in : Kind → Option ObjName
pin_in (Take wants) = wants.pin
pin_in kind = None

-- the pins with one more of the lane, where one is asked for
abbrev pub with_pin : Option ObjName → ℕ → List Pin → List Pin
with_pin None lane pins = pins
with_pin (Some object) lane pins = pins ++ record { lane = lane; object = object } ∷ []

-- the pins of the other lanes
abbrev pub is_others : ℕ → Pin → Bool
is_others lane p = not (nat_eq p.lane lane)

abbrev pub without : ℕ → List Pin → List Pin
without lane pins = filter (is_others lane) pins

-- A command keeps its pins while it runs, with what its step asked for, also where no command goes on from then on: nobody removes
-- anything any more, so nothing waits for them. At its end it gives all of them up. No other pin comes or goes.
abbrev pub ArePinned : Option ObjName → ℕ → Outcome → List Pin → List Pin → Type 0
ArePinned pin lane came.More old new = new ≡ with_pin pin lane old
ArePinned pin lane (came.Halted why) old new = new ≡ with_pin pin lane old
ArePinned pin lane came.Done old new = new ≡ without lane old
ArePinned pin lane (came.Refused e) old new = new ≡ without lane old
ArePinned pin lane came.Blocked old new = new ≡ old
