-- How many acts a lane may still need, and which lane holds it off.
use Rattle.std.specs.Prelude.{◌≡◌, ◌≢◌, ◌⊎◌, ◌<◌, ◌≤◌, ◌+◌, ◌-◌, ◌*◌, ℕ, zero, suc, true, List, [], ◌∷◌, length, Option, Some, None}
use Rattle.rely_guarantee.specs.Laws.{Kind, Publish, Take}
use Rattle.command.specs.Doing.{Doing, most}
use Rattle.lane_system.specs.declared.ask.Ask.{Ask}
use Rattle.lane_system.specs.declared.ask.Ask.TheVariants.{Done, More}
use Rattle.lane_system.specs.declared.lane.Lane.{Lane}
use Rattle.lane_system.specs.declared.lane.Running.{Running}
use Rattle.lane_system.specs.Booked.{HasCommand}
use Rattle.lane_system.specs.Family.{Family}
use Rattle.lane_system.specs.LaneActs.{told_by}
use Rattle.lane_system.specs.Lanes.{IsAt}
use Rattle.lane_system.specs.System.{System}

-- how many commands of the lane have no reply
abbrev pub to_come : {T W A : Type 0} → Lane T W A → ℕ
to_come l = length l.words.items - length l.replies.items

-- at most so many acts are left of a command that runs so, or hasn't begun
abbrev pub left_of : {T W A : Type 0} → Doing T W A → Option (Running T) → ℕ
left_of d None = most
left_of d (Some r) = d.left r.work

abbrev pub rank_by : ℕ → ℕ → ℕ
rank_by zero left = 0
rank_by (suc n) left = left

-- so of its next command, if it has more
abbrev pub rank_of : {T W A : Type 0} → Doing T W A → Lane T W A → ℕ
rank_of d l = rank_by (to_come l) (left_of d l.task)

-- of the lane of this number; none where there is no such lane
abbrev pub at_lane : {X : Type 0} → (X → ℕ) → List X → ℕ → ℕ
at_lane g [] i = 0
at_lane g (x ∷ xs) zero = g x
at_lane g (x ∷ xs) (suc i) = at_lane g xs i

abbrev pub rank : {F T W A : Type 0} → Doing T W A → System F T W A → ℕ → ℕ
rank d s lane = at_lane (rank_of d) s.lanes lane

abbrev pub commands_left : {F T W A : Type 0} → System F T W A → ℕ → ℕ
commands_left s lane = at_lane to_come s.lanes lane

-- How far an act brings its lane: one that goes on leaves its command fewer acts, and one that is done the lane a command less. No
-- act brings another lane farther, or back.
pub record Ranked {F T W A : Type 0} (d : Doing T W A) (old new : System F T W A) (actor : ℕ) (ask : Ask) : Type 0 where
  pub falls : ask ≡ More → (commands_left new actor ≡ commands_left old actor) × (rank d new actor < rank d old actor)
  pub done : (lane command : ℕ) → ask ≡ Done lane command → (commands_left new actor + 1 ≡ commands_left old actor) × (rank d new actor ≤ most)
  pub others : (lane : ℕ) → lane ≢ actor → (commands_left new lane ≡ commands_left old lane) × (rank d new lane ≡ rank d old lane)

-- the other lane holds the ref lock, or, where this one doesn't, the lock on the list of deployments
abbrev pub HoldsOff : {F T W A : Type 0} → System F T W A → ℕ → ℕ → Type 0
HoldsOff s lane other = (s.base.books.turn ≡ Some other) ⊎ ((s.base.books.sysroot ≡ Some other) × ¬ (s.base.books.turn ≡ Some lane))

-- so does another one, which has a command without a reply
abbrev pub IsHeldOff : {F T W A : Type 0} → System F T W A → ℕ → Type 0
IsHeldOff s lane = (other : ℕ) × (other ≢ lane) × HoldsOff s lane other × HasCommand s other

-- another lane holds the ref lock
abbrev pub LacksRefLock : {F T W A : Type 0} → System F T W A → ℕ → Type 0
LacksRefLock s lane = (other : ℕ) × (other ≢ lane) × (s.base.books.turn ≡ Some other)

-- a step of this kind asks for the ref lock
abbrev pub AsksRefLock : Kind → Type 0
AsksRefLock (Take wants) = wants.turn ≡ true
AsksRefLock (Publish e) = Unit {0}
AsksRefLock kind = ⊥

-- so does the next step of the lane's command, which has begun
abbrev pub Asks : {F T W A : Type 0} → Family T W A → System F T W A → ℕ → Type 0
Asks {F} {T} {W} {A} c s lane = (l : Lane T W A) × (r : Running T) × IsAt s.lanes lane l × (l.task ≡ Some r) × AsksRefLock (c.tasks.kind (told_by c.doing s.objects r.work))

-- no lane has a command without a reply
abbrev pub IsOver : {F T W A : Type 0} → System F T W A → Type 0
IsOver s = (lane : ℕ) → HasCommand s lane → ⊥

-- each lane has no more replies than commands
abbrev pub AreWithin : {F T W A : Type 0} → System F T W A → Type 0
AreWithin {F} {T} {W} {A} s = (lane : ℕ) (l : Lane T W A) → IsAt s.lanes lane l → length l.replies.items ≤ length l.words.items

-- each lane has as many replies as commands
abbrev pub HasEnded : {F T W A : Type 0} → System F T W A → Type 0
HasEnded {F} {T} {W} {A} s = (lane : ℕ) (l : Lane T W A) → IsAt s.lanes lane l → length l.replies.items ≡ length l.words.items

-- what is left of a lane: a command that has no reply counts more than all acts of one
abbrev pub work_left : {T W A : Type 0} → Doing T W A → Lane T W A → ℕ
work_left d l = to_come l * 340282366920938463463374607431768211456 + rank_of d l

-- and of all
abbrev pub total : {X : Type 0} → (X → ℕ) → List X → ℕ
total g [] = 0
total g (x ∷ xs) = g x + total g xs

abbrev pub left_in_all : {F T W A : Type 0} → Doing T W A → System F T W A → ℕ
left_in_all d s = total (work_left d) s.lanes
