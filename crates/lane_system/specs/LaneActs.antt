-- What an act of a lane did.
use Rattle.std.specs.Prelude.{◌≡◌, ◌⊎◌, ◌≤◌, ℕ, List, length, Option, Some, None}
use Rattle.ost_types.specs.declared.limits.Limits.{Limits}
use Rattle.rely_guarantee.specs.declared.books.Base.{Base}
use Rattle.rely_guarantee.specs.declared.books.Entry.{Entry}
use Rattle.rely_guarantee.specs.declared.kind.Halt.TheVariants as halt
use Rattle.rely_guarantee.specs.declared.kind.Outcome.{Outcome}
use Rattle.rely_guarantee.specs.declared.kind.Outcome.TheVariants as came
use Rattle.rely_guarantee.specs.Books.{books_of}
use Rattle.rely_guarantee.specs.Laws.{Runs}
use Rattle.ref_book.specs.declared.book.RefBook.{RefBook}
use Rattle.ref_book.specs.Tracks.{HasRoom, Tracks}
use Rattle.command.specs.declared.ended.Ended.{Ended}
use Rattle.command.specs.declared.ended.Ended.TheVariants as ended
use Rattle.command.specs.Doing.{Doing, HasRoomFor, IsAnswer, most}
use Rattle.command.specs.Meaning.{Meaning}
use Rattle.lane_system.specs.declared.act.Came.{Came}
use Rattle.lane_system.specs.declared.act.Came.TheVariants.{Blocked, More, Answered}
use Rattle.lane_system.specs.declared.lane.Lane.{Lane}
use Rattle.lane_system.specs.declared.lane.Running.{Running}
use Rattle.lane_system.specs.Family.{Family, FsSpec}
use Rattle.lane_system.specs.Lanes.{IsNext}
use Rattle.lane_system.specs.States.{now_of, since_in}
use Rattle.lane_system.specs.Steps.{HasEnded, IsCounted, IsEndedAs, Stepped, standing}

-- how many changes lasted when the command began, or do now where it hasn't begun
abbrev pub task_start : {T : Type 0} → List Entry → Option (Running T) → ℕ
task_start entries None = length entries
task_start entries (Some r) = r.start

-- the task whose step is the lane's next one: the one that runs, or one at its beginning
abbrev pub IsTaskOf : {T W A : Type 0} → Doing T W A → ℕ → Option (Running T) → T → Type 0
IsTaskOf d lane None t = d.begins lane t × (d.left t ≤ most)
IsTaskOf d lane (Some r) t = t ≡ r.work

-- one that was told how many objects there are
abbrev pub told_by : {T W A : Type 0} → Doing T W A → ℕ → T → T
told_by d objects t = d.hears (record { objects = objects }) t

-- The task of the command took a step while commands go on, once it was told how many objects there are. It is after what the command is to
-- do, has its facts, and there is room for its ref, for which the beginning may have made some.
pub record Takes {F T W A : Type 0} (f : FsSpec F) (c : Family T W A) (limits : Limits) (actor lane number : ℕ) (refs refs' : RefBook) (objects : ℕ) (old new : Base F) (words : W) (task : Option (Running T)) (outcome : Outcome) (t' : T) : Type 0 where
  pub live : old.books.halted ≡ None
  pub work : T
  pub is : IsTaskOf c.doing lane task work
  pub early : task_start old.books.history.items task ≤ length old.books.history.items
  pub after : c.doing.pursues (since_in limits old.books (task_start old.books.history.items task)) words work
  pub runs : Runs c.tasks.kind c.tasks.facts lane work (f.view old.fs) (books_of old.books)
  pub between : RefBook
  pub grew : (name : List ℕ) → HasRoom refs name → HasRoom between name
  pub room : HasRoomFor c.means between (since_in limits old.books (task_start old.books.history.items task)) words
  pub step : Stepped f c.tasks actor lane number between refs' outcome (told_by c.doing objects work) t' old new

-- an answer that was given by the books alone, to a command that hasn't begun or since no command goes on
abbrev pub IsAtOnce : {F T W A : Type 0} → FsSpec F → Meaning W A → Limits → Base F → W → Option (Running T) → Ended A → Type 0
IsAtOnce f m limits old words task (ended.Answered a) = (old.books.halted ≡ None) × (task ≡ None) × IsAnswer m (since_in limits old.books (length old.books.history.items)) words a
IsAtOnce f m limits old words task ended.NoMemory = ((old.books.halted ≡ None) × (task ≡ None)) ⊎ (old.books.halted ≡ Some halt.Strayed)
IsAtOnce f m limits old words task (ended.Halted n) = (old.books.halted ≡ Some halt.Failed) × (n ≡ f.faults old.fs)
IsAtOnce f m limits old words task (ended.Outside path) = (old.books.halted ≡ Some halt.Strayed) × (f.refused old.fs ≡ Some path)
IsAtOnce f m limits old words task x = ⊥

-- What it came to, by the task before and after: held off, it left all as it was.
abbrev pub Did : {F T W A : Type 0} → FsSpec F → Family T W A → Limits → ℕ → ℕ → ℕ → RefBook → RefBook → ℕ → ℕ → Base F → Base F → W → Option (Running T) → Option (Running T) → Came A → Type 0
Did {F} {T} f c limits actor lane number refs refs' objects objects' old new words task task' Blocked =
    (task' ≡ task) × (objects' ≡ objects) × (t' : T) × Takes f c limits actor lane number refs refs' objects old new words task came.Blocked t'
Did {F} {T} f c limits actor lane number refs refs' objects objects' old new words task task' More =
    (t' : T) × (task' ≡ Some (record { work = t'; start = task_start old.books.history.items task })) × IsCounted (standing old.books.gone new.books.gone objects) (c.doing.met t') objects'
    × Takes f c limits actor lane number refs refs' objects old new words task came.More t'
Did {F} {T} f c limits actor lane number refs refs' objects objects' old new words task task' (Answered x start) =
    (task' ≡ None) × (objects' ≡ standing old.books.gone new.books.gone objects) × (start ≡ task_start old.books.history.items task)
    × (((new ≡ old) × IsAtOnce f c.means limits old words task x)
    ⊎ ((outcome : Outcome) × (t' : T) × HasEnded outcome × IsEndedAs c.doing.answer (f.refused new.fs) outcome t' (f.faults new.fs) x × Takes f c limits actor lane number refs refs' objects old new words task outcome t'))

-- An act of a lane, which has this command next: the command stays, and its reply is given later.
pub record LaneActs {F T W A : Type 0} (f : FsSpec F) (c : Family T W A) (limits : Limits) (actor lane : ℕ) (refs refs' : RefBook) (objects objects' : ℕ) (old new : Base F) (l l' : Lane T W A) (result : Came A) : Type 0 where
  pub words : W
  pub next : IsNext l words
  pub same : l'.words ≡ l.words
  pub replies : l'.replies ≡ l.replies
  pub tracks : Tracks refs' (now_of new.books).refs
  pub rooms : (name : List ℕ) → HasRoom refs name → HasRoom refs' name
  pub did : Did f c limits actor lane (length l.replies.items) refs refs' objects objects' old new words l.task l'.task result
