-- Lanes of commands: which command has which reply, and which one runs.
use Rattle.std.specs.Prelude.{◌≡◌, ◌<◌, ◌+◌, ℕ, List, [], ◌∷◌, length, slice_index_or, Some}
use Rattle.lane_system.specs.declared.lane.Lane.{Lane}
use Rattle.lane_system.specs.declared.lane.Reply.{Reply}
use Rattle.lane_system.specs.declared.lane.Running.{Running}

-- what stands in a list at a place
abbrev pub IsAt : {X : Type 0} → List X → ℕ → X → Type 0
IsAt xs i x = (i < length xs) × (slice_index_or xs i x ≡ x)

-- a command of a lane
abbrev pub IsCommand : {T W A : Type 0} → List (Lane T W A) → ℕ → ℕ → W → Type 0
IsCommand {T} {W} {A} lanes lane number c = (l : Lane T W A) × IsAt lanes lane l × IsAt l.words.items number c

-- the reply to this command of the lane
abbrev pub IsTo : {T W A : Type 0} → List (Lane T W A) → ℕ → ℕ → Reply A → Type 0
IsTo {T} {W} {A} lanes lane number r = (l : Lane T W A) × IsAt lanes lane l × IsAt l.replies.items number r

-- this command of the lane runs so
abbrev pub IsRunning : {T W A : Type 0} → List (Lane T W A) → ℕ → ℕ → Running T → Type 0
IsRunning {T} {W} {A} lanes lane number r = (l : Lane T W A) × IsAt lanes lane l × (number ≡ length l.replies.items) × (l.task ≡ Some r)

-- the lane's next command, which has no reply
abbrev pub IsNext : {T W A : Type 0} → Lane T W A → W → Type 0
IsNext l c = IsAt l.words.items (length l.replies.items) c

-- how many replies there are
abbrev pub count_of : {T W A : Type 0} → List (Lane T W A) → ℕ
count_of [] = 0
count_of (l ∷ rest) = length l.replies.items + count_of rest

-- Each number below that of the replies is the order of one reply, and of no other.
pub record Numbered {T W A : Type 0} (lanes : List (Lane T W A)) : Type 0 where
  pub below : (lane number : ℕ) (r : Reply A) → IsTo lanes lane number r → r.order < count_of lanes
  pub each : (k : ℕ) → k < count_of lanes → (lane : ℕ) × (number : ℕ) × (r : Reply A) × IsTo lanes lane number r × (r.order ≡ k)
  pub once : (lane number other another : ℕ) (r q : Reply A) → IsTo lanes lane number r → IsTo lanes other another q → r.order ≡ q.order → (lane ≡ other) × (number ≡ another)
