-- Which act it was.
use Rattle.std.specs.Prelude.{◌≡◌, ◌<◌, ◌≤◌, ◌++◌, ◌∷◌, [], ℕ, List, length, map, slice_set, Option, Some, None}
use Rattle.fs_trait.specs.View.{View}
use Rattle.rely_guarantee.specs.declared.books.Entry.{Entry}
use Rattle.rely_guarantee.specs.State.{opening_state}
use Rattle.command.specs.declared.ended.Ended.{Ended}
use Rattle.command.specs.Meaning.{Meaning}
use Rattle.command.specs.Since.{placed}
use Rattle.lane_system.specs.declared.ask.Ask.{Ask}
use Rattle.lane_system.specs.declared.ask.Ask.TheVariants.{Blocked, Done, Ended as Over, More}
use Rattle.lane_system.specs.declared.lane.Lane.{Lane}
use Rattle.lane_system.specs.declared.lane.Reply.{Reply}
use Rattle.lane_system.specs.declared.lane.Running.{Running}
use Rattle.lane_system.specs.LaneActs.{task_start}
use Rattle.lane_system.specs.Lanes.{IsAt, IsNext, count_of}
use Rattle.lane_system.specs.Replied.{Replied}
use Rattle.lane_system.specs.Replies.{IfAnswer, IsTold, Shown}
use Rattle.lane_system.specs.States.{now_of, since_in}
use Rattle.lane_system.specs.System.{System}

-- the lane has a command without a reply
abbrev pub HasCommand : {F T W A : Type 0} → System F T W A → ℕ → Type 0
HasCommand {F} {T} {W} {A} s lane = (l : Lane T W A) × IsAt s.lanes lane l × (length l.replies.items < length l.words.items)

-- the commands of the lanes
abbrev pub commands_of : {F T W A : Type 0} → System F T W A → List (List W)
commands_of s = map (λ l. l.words.items) s.lanes

-- what the beginning was stays, as do the bounds, and the history only grows
abbrev pub IsLater : {F T W A : Type 0} → System F T W A → System F T W A → Type 0
IsLater old new = (new.base.books.start ≡ old.base.books.start) × (new.base.books.opened ≡ old.base.books.opened)
    × (more : List Entry) × (new.base.books.history.items ≡ old.base.books.history.items ++ more) × (new.limits ≡ old.limits)

-- What the answer to the lane's next command tells where its act began: of the disk and of calls that failed in it, and of the objects in
-- the store.
abbrev pub AnswerTells : {F T W A : Type 0} → Meaning W A → (F → Option View) → ℕ → ℕ → System F T W A → Lane T W A → Ended A → Type 0
AnswerTells {F} {T} {W} {A} m view before now s l x =
    ((c : W) → IsNext l c → Shown m (placed (since_in s.limits s.base.books (task_start s.base.books.history.items l.task)) (now_of s.base.books)) (view s.base.fs) s.base.books.halted before now c x)
    × IfAnswer (λ a. m.full a → s.limits.objects ≤ s.objects) x

-- This lane is otherwise than it was, but for its commands; and no other.
pub record Moves {F T W A : Type 0} (old new : System F T W A) (lane : ℕ) (l l' : Lane T W A) : Type 0 where
  pub at : IsAt old.lanes lane l
  pub now : new.lanes ≡ slice_set old.lanes lane l'
  pub words : l'.words ≡ l.words
  pub command : length l.replies.items < length l.words.items
  pub later : IsLater old new

-- the command goes on, from where it began
abbrev pub GoesOn : {F T W A : Type 0} → System F T W A → Lane T W A → Lane T W A → Type 0
GoesOn {F} {T} s l l' = (l'.replies ≡ l.replies) × (r : Running T) × (l'.task ≡ Some r) × (r.start ≡ task_start s.base.books.history.items l.task)

-- it has its reply, with how many changes lasted at its beginning and do now, and how many replies were given before it
pub record IsGiven {F T W A : Type 0} (Tells : Ended A → Type 0) (old new : System F T W A) (l l' : Lane T W A) (r : Reply A) : Type 0 where
  pub replies : l'.replies.items ≡ l.replies.items ++ r ∷ []
  pub task : l'.task ≡ None
  pub start : r.start ≡ task_start old.base.books.history.items l.task
  pub place : r.place ≡ length new.base.books.history.items
  pub order : r.order ≡ count_of old.lanes
  pub tells : Tells r.answer

-- One act: it goes on and gives no reply; or it is held off, or has no command, and changes nothing; or it is done, and gives the reply of
-- the lane's next command.
abbrev pub Acted : {F T W A : Type 0} → (Lane T W A → Ended A → Type 0) → System F T W A → System F T W A → ℕ → Ask → Type 0
Acted {F} {T} {W} {A} Tells old new actor More = (l : Lane T W A) × (l' : Lane T W A) × Moves old new actor l l' × GoesOn old l l'
Acted Tells old new actor Blocked = HasCommand old actor × (new ≡ old)
Acted Tells old new actor Over = ¬ (HasCommand old actor) × (new ≡ old)
Acted {F} {T} {W} {A} Tells old new actor (Done lane command) = (l : Lane T W A) × (l' : Lane T W A) × (r : Reply A) × Moves old new actor l l' × IsGiven (Tells l) old new l l' r × (lane ≡ actor) × (command ≡ length l.replies.items)

-- what the replies say of the history
abbrev pub IsReplied : {F T W A : Type 0} → (F → Option View) → Meaning W A → System F T W A → Type 0
IsReplied view m s = Replied (IsTold view) m s.limits (opening_state s.base.books.start) s.base.books.history.items s.base.books.pending s.lanes
