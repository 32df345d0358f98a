-- What a step comes to, as the functions of an act tell it.
use Rattle.std.proofs.Common.{◌≡◌, inr, ⊎_elim, ◌<◌, ℕ, refl, sym, ◌∙◌, ap, subst, arith, List, [], ◌∷◌, length, get_or, Option, Some, None, IsSome}
use Rattle.ost_types.specs.declared.limits.Limits.{Limits}
use Rattle.ost_types.specs.Path.{Path}
use Rattle.fs_trait.specs.declared.types.FsErr.{FsErr}
use Rattle.fs_trait.specs.declared.types.FsErr.TheVariants as err
use Rattle.fs_trait.specs.Effect.{OfNone}
use Rattle.fs_trait.specs.View.{View}
use Rattle.rely_guarantee.specs.declared.books.Base.{Base}
use Rattle.rely_guarantee.specs.declared.event.Event.{Event}
use Rattle.rely_guarantee.specs.declared.kind.Halt.{Halt}
use Rattle.rely_guarantee.specs.declared.kind.Halt.TheVariants as halt
use Rattle.rely_guarantee.specs.declared.kind.Outcome.{Outcome}
use Rattle.rely_guarantee.specs.declared.kind.Outcome.TheVariants as came
use Rattle.rely_guarantee.specs.Laws.{Ready, Runs, MakeDurable}
use Rattle.rely_guarantee.specs.SystemInvariant.{SystemInvariant}
use Rattle.rely_guarantee.specs.State.{SystemState}
use Rattle.ref_book.specs.declared.book.RefBook.{RefBook}
use Rattle.ref_book.specs.Tracks.{HasEventRoom, HasRoom}
use Rattle.command.specs.declared.begun.Begun.TheVariants as begun
use Rattle.command.specs.declared.ended.Ended.{Ended}
use Rattle.command.specs.declared.ended.Ended.TheVariants as ended
use Rattle.command.specs.Doing.{Doing, IsBegun}
use Rattle.command.specs.Laws.{CommandLaws}
use Rattle.command.specs.Meaning.{Meaning}
use Rattle.command.specs.Staging.{StagingPathFree}
use Rattle.lane_system.specs.declared.act.Came.{Came}
use Rattle.lane_system.specs.declared.act.Came.TheVariants.{Answered, Blocked, More}
use Rattle.lane_system.specs.declared.lane.Lane.{Lane}
use Rattle.lane_system.specs.declared.lane.Running.{Running}
use Rattle.lane_system.specs.Family.{Family, FsSpec}
use Rattle.lane_system.specs.Kept.{LaneKept, RunsIn}
use Rattle.lane_system.specs.LaneActs.{IsAtOnce, LaneActs, Takes, task_start, told_by}
use Rattle.lane_system.specs.Lanes.{IsAt, IsNext}
use Rattle.lane_system.specs.States.{now_of, since_in}
use Rattle.lane_system.specs.Steps.{CountsAt, HasEnded, IsCutShort, IsEndedAs, IsRefusal, IsStray, Stepped, standing}
use Rattle.lane_system.proofs.Telling.{standing_same}
use Rattle.lane_system.proofs.Doing.{begun_room, begun_runs, begun_takes, ended_acts, has_answer, held_acts, more_acts, running_takes, started_room}
use Rattle.lane_system.proofs.Places.{at_is}

-- there is a next command where not all have replies
pub at_some : {X : Type 0} (xs : List X) (i : ℕ) → i < length xs → (x : X) × IsAt xs i x
at_some [] i few = absurd (omega (arith, few))
at_some (x ∷ xs) i few = (get_or (x ∷ xs) i x, at_is (x ∷ xs) i x few)

pub has_ended : (outcome : Outcome) → (outcome ≡ came.Blocked → ⊥) → (outcome ≡ came.More → ⊥) → HasEnded outcome
has_ended came.Blocked held more = held refl
has_ended came.More held more = more refl
has_ended came.Done held more = tt
has_ended (came.Halted why) held more = tt
has_ended (came.Refused e) held more = tt

counts_end : {T W A : Type 0} (d : Doing T W A) (before now : ℕ) (t : T) (outcome : Outcome) → (outcome ≡ came.More → ⊥) → CountsAt d before t outcome now → now ≡ before
counts_end d before now t came.More more is = absurd (more refl)
counts_end d before now t came.Blocked more is = is
counts_end d before now t came.Done more is = is
counts_end d before now t (came.Halted why) more is = is
counts_end d before now t (came.Refused e) more is = is

-- and one that doesn't want for memory, for a failed call
pub refused_failed : (A : Type 0) (e : FsErr) → OfNone e → (e ≡ err.NoMemory → ⊥) → IsRefusal {A = A} e ended.DiskFault
refused_failed A err.Failed none memory = refl
refused_failed A err.NoMemory none memory = absurd (memory refl)
refused_failed A err.Exists none memory = none
refused_failed A err.Missing none memory = none
refused_failed A err.NotFolder none memory = none
refused_failed A err.NotEmpty none memory = none

-- what a command answers where no command goes on is answered at once
pub short_at_once : {F T W A : Type 0} (f : FsSpec F) (m : Meaning W A) (limits : Limits) (old : Base F) (words : W) (task : Option (Running T)) (why : Halt) → old.books.halted ≡ Some why → (x : Ended A) → IsCutShort why (f.refused old.fs) (f.faults old.fs) x → IsAtOnce f m limits old words task x
short_at_once f m limits old words task halt.Failed over x is = subst (IsAtOnce f m limits old words task) (sym is) (over, refl)
short_at_once f m limits old words task halt.Strayed over x is = by (f.refused old.fs) refl is
  where
    by : (path : Option Path) → f.refused old.fs ≡ path → IsStray path x → IsAtOnce f m limits old words task x
    by None at so = subst (IsAtOnce f m limits old words task) (sym so) (inr over)
    by (Some path) at so = ⊎_elim
        (λ told. subst (IsAtOnce f m limits old words task) (sym told) (over, at))
        (λ lack. subst (IsAtOnce f m limits old words task) (sym lack) (inr over))
        so

-- a lane whose task is known
module _ {F T W A : Type 0} (f : FsSpec F) (c : Family T W A) (limits : Limits) (lane : ℕ) (l : Lane T W A) (task : Option (Running T)) (is : l.task ≡ task) where
  pub kept_with : (refs : RefBook) (base : Base F) → LaneKept f c limits lane refs base l → LaneKept f c limits lane refs base (record { words = l.words; task = task; replies = l.replies })
  kept_with refs base k = subst (λ (o : Option (Running T)). LaneKept f c limits lane refs base (record { words = l.words; task = o; replies = l.replies })) is k

  pub acts_with : (refs refs' : RefBook) (objects objects' : ℕ) (old new : Base F) (l' : Lane T W A) (result : Came A) → LaneActs f c limits lane lane refs refs' objects objects' old new (record { words = l.words; task = task; replies = l.replies }) l' result
      → LaneActs f c limits lane lane refs refs' objects objects' old new l l' result
  acts_with refs refs' objects objects' old new l' result x = subst (λ (o : Option (Running T)). LaneActs f c limits lane lane refs refs' objects objects' old new (record { words = l.words; task = o; replies = l.replies }) l' result) (sym is) x

-- What the step of a task came to, as the functions tell it: u is the task before it, and u' the one after it, unless it was held off.
module _ {F T W A : Type 0} (f : FsSpec F) (c : Family T W A) (limits : Limits) (lane number : ℕ) (refs mid refs' : RefBook) (objects objects' : ℕ) (old new : Base F) (l : Lane T W A) (words : W) (next : IsNext l words) (is_number : number ≡ length l.replies.items) (u u' : T) (outcome : Outcome)
    (took : (o : Outcome) (t : T) → Stepped f c.tasks lane lane (length l.replies.items) mid refs' o (told_by c.doing objects u) t old new → Takes f c limits lane lane (length l.replies.items) refs refs' objects old new words l.task o t)
    (step : (t : T) × Stepped f c.tasks lane lane number mid refs' outcome (told_by c.doing objects u) t old new × ((outcome ≡ came.Blocked → ⊥) → u' ≡ t)) (counts : CountsAt c.doing (standing old.books.gone new.books.gone objects) u' outcome objects') where
  abbrev left : ℕ
  left = standing old.books.gone new.books.gone objects

  taken : (o : Outcome) → outcome ≡ o → Takes f c limits lane lane (length l.replies.items) refs refs' objects old new words l.task o step.0
  taken o is = took o step.0 (subst (λ (x : Outcome). Stepped f c.tasks lane lane (length l.replies.items) mid refs' x (told_by c.doing objects u) step.0 old new) is
      (subst (λ n. Stepped f c.tasks lane lane n mid refs' outcome (told_by c.doing objects u) step.0 old new) is_number step.1))

  went : (o : Outcome) → outcome ≡ o → (o ≡ came.Blocked → ⊥) → Takes f c limits lane lane (length l.replies.items) refs refs' objects old new words l.task o u'
  went o is not = subst (Takes f c limits lane lane (length l.replies.items) refs refs' objects old new words l.task o) (sym (step.2 (λ held. not (sym is ∙ held)))) (taken o is)

  pub comes_held : outcome ≡ came.Blocked → LaneActs f c limits lane lane refs refs' objects objects' old new l l Blocked
  comes_held is = held_acts f c limits lane refs refs' objects objects' old new l words next step.0 (taken came.Blocked is) (subst (λ (o : Outcome). CountsAt c.doing left u' o objects') is counts ∙ ap (λ (b : Base F). standing old.books.gone b.books.gone objects) ((taken came.Blocked is).step.blocked refl).0 ∙ standing_same old.books.gone objects)

  pub comes_more : outcome ≡ came.More → (start : ℕ) → start ≡ task_start old.books.history.items l.task → LaneActs f c limits lane lane refs refs' objects objects' old new l (record { words = l.words; task = Some (record { work = u'; start = start }); replies = l.replies }) More
  comes_more is start from = subst (λ n. LaneActs f c limits lane lane refs refs' objects objects' old new l (record { words = l.words; task = Some (record { work = u'; start = n }); replies = l.replies }) More) (sym from)
      (more_acts f c limits lane refs refs' objects objects' old new l words next u' (went came.More is (λ x. cc)) (subst (λ (o : Outcome). CountsAt c.doing left u' o objects') is counts))

  module _ (held : outcome ≡ came.Blocked → ⊥) where
    pub comes_answered : CommandLaws c.tasks c.means c.doing → outcome ≡ came.Done → IsSome (c.doing.answer u')
    comes_answered laws is = has_answer f c laws limits lane lane (length l.replies.items) refs refs' objects old new words l.task outcome u' (went outcome refl held) is

    pub comes_ended : (outcome ≡ came.More → ⊥) → (x : Ended A) → IsEndedAs c.doing.answer (f.refused new.fs) outcome u' (f.faults new.fs) x → (start : ℕ) → start ≡ task_start old.books.history.items l.task
        → LaneActs f c limits lane lane refs refs' objects objects' old new l (record { words = l.words; task = None; replies = l.replies }) (Answered x start)
    comes_ended more x by start from = subst (λ n. LaneActs f c limits lane lane refs refs' objects objects' old new l (record { words = l.words; task = None; replies = l.replies }) (Answered x n)) (sym from)
        (ended_acts f c limits lane refs refs' objects objects' old new l words next u' outcome (has_ended outcome held more) (went outcome refl held) (counts_end c.doing left objects' u' outcome more counts) x by)

-- A command that begins: u is its task, before its first step.
module _ {F T W A : Type 0} (f : FsSpec F) (c : Family T W A) (laws : CommandLaws c.tasks c.means c.doing) (limits : Limits) (lane : ℕ) (refs mid : RefBook) (objects : ℕ) (old : Base F) (l : Lane T W A) (words : W) (k : LaneKept f c limits lane refs old l) (none : l.task ≡ None)
    (live : old.books.halted ≡ None) (home : (v : View) → f.view old.fs ≡ Some v → StagingPathFree lane v) (sound : SystemInvariant f.view f.clock f.spare f.was old) (grew : (name : List ℕ) → HasRoom refs name → HasRoom mid name) (u : T)
    (is : IsBegun c.means c.doing limits lane (now_of old.books) words mid (begun.Runs u)) where
  pub first_ready : Ready f.view f.clock f.spare f.was (Runs c.tasks.kind c.tasks.facts lane u) old
  first_ready = record { sound = sound; live = live; task = begun_runs f c limits lane laws refs mid old l words k none live home sound u is }

  pub first_room : (e : Event) → c.tasks.kind (told_by c.doing objects u) ≡ MakeDurable e → HasEventRoom mid e
  first_room = begun_room c laws limits lane (now_of old.books) words mid u is objects

  pub first_takes : (refs' : RefBook) (new : Base F) (o : Outcome) (t : T) → Stepped f c.tasks lane lane (length l.replies.items) mid refs' o (told_by c.doing objects u) t old new → Takes f c limits lane lane (length l.replies.items) refs refs' objects old new words l.task o t
  first_takes refs' new o t step = subst (λ (x : Option (Running T)). Takes f c limits lane lane (length l.replies.items) refs refs' objects old new words x o t) (sym none)
      (begun_takes f c limits lane laws refs mid refs' objects old new l words k none live home sound grew u is o t step)

-- One that goes on, of a lane with this task.
module _ {F T W A : Type 0} (f : FsSpec F) (c : Family T W A) (laws : CommandLaws c.tasks c.means c.doing) (limits : Limits) (lane : ℕ) (refs : RefBook) (objects : ℕ) (old : Base F) (l : Lane T W A) (r : Running T) (k : LaneKept f c limits lane refs old l) (task : l.task ≡ Some r)
    (live : old.books.halted ≡ None) where
  pub next_ready : SystemInvariant f.view f.clock f.spare f.was old → Ready f.view f.clock f.spare f.was (Runs c.tasks.kind c.tasks.facts lane r.work) old
  next_ready sound = record { sound = sound; live = live; task = subst (RunsIn c lane (f.view old.fs) old.books) task (k.runs live) }

  pub next_room : (e : Event) → c.tasks.kind (told_by c.doing objects r.work) ≡ MakeDurable e → HasEventRoom refs e
  next_room = started_room c laws limits refs old.books l r (k.started r task) objects

  -- it is after what its command is to do
  pub next_after : (start : SystemState) × (place : SystemState) × (words : W) × c.doing.pursues (record { limits = limits; start = start; place = place }) words r.work
  next_after = (let s = since_in limits old.books r.start in (s.start, s.place, (k.started r task).words, (k.started r task).after))

  abbrev pub next_words : W
  next_words = (k.started r task).words

  pub next_is : IsNext l next_words
  next_is = (k.started r task).next

  pub next_takes : (refs' : RefBook) (new : Base F) (o : Outcome) (t : T) → Stepped f c.tasks lane lane (length l.replies.items) refs refs' o (told_by c.doing objects r.work) t old new → Takes f c limits lane lane (length l.replies.items) refs refs' objects old new next_words l.task o t
  next_takes refs' new o t step = subst (λ (x : Option (Running T)). Takes f c limits lane lane (length l.replies.items) refs refs' objects old new next_words x o t) (sym task)
      (running_takes f c limits lane refs refs' objects old new l r k task live o t step)
