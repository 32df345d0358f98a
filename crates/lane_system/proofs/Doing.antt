-- What the functions of an act come to, as what the act did.
use Rattle.std.proofs.Common.{◌≡◌, inl, inr, ℕ, refl, sym, ap, subst, arith, List, length, Option, Some, None, IsSome}
use Rattle.ost_types.specs.declared.limits.Limits.{Limits}
use Rattle.fs_trait.specs.View.{View}
use Rattle.rely_guarantee.specs.declared.books.Base.{Base}
use Rattle.rely_guarantee.specs.declared.books.Books as rust
use Rattle.rely_guarantee.specs.declared.event.Event.{Event}
use Rattle.rely_guarantee.specs.declared.kind.Outcome.{Outcome}
use Rattle.rely_guarantee.specs.declared.kind.Outcome.TheVariants as came
use Rattle.rely_guarantee.specs.Books.{books_of}
use Rattle.rely_guarantee.specs.Laws.{Runs, MakeDurable}
use Rattle.rely_guarantee.specs.State.{SystemState}
use Rattle.rely_guarantee.specs.SystemInvariant.{SystemInvariant}
use Rattle.ref_book.specs.declared.book.RefBook.{RefBook}
use Rattle.ref_book.specs.Tracks.{HasEventRoom, HasRoom, Tracks}
use Rattle.command.specs.declared.begun.Begun.TheVariants as begun
use Rattle.command.specs.declared.ended.Ended.{Ended}
use Rattle.command.specs.Doing.{HasRoomFor, IsBegun}
use Rattle.command.specs.Laws.{CommandLaws}
use Rattle.command.specs.Since.{Since, begun_in}
use Rattle.command.specs.Staging.{StagingPathFree}
use Rattle.lane_system.specs.declared.act.Came.TheVariants.{Answered, Blocked, More}
use Rattle.lane_system.specs.declared.lane.Lane.{Lane}
use Rattle.lane_system.specs.declared.lane.Running.{Running}
use Rattle.lane_system.specs.Family.{Family, FsSpec}
use Rattle.lane_system.specs.Kept.{LaneKept, RunsIn, Started}
use Rattle.lane_system.specs.LaneActs.{IsAtOnce, LaneActs, Takes, task_start, told_by}
use Rattle.lane_system.specs.Lanes.{IsNext}
use Rattle.lane_system.specs.States.{now_of, since_in}
use Rattle.lane_system.specs.Steps.{CountsAt, HasEnded, IsEndedAs, Stepped, standing}
use Rattle.lane_system.proofs.Telling.{standing_same}
use Rattle.lane_system.proofs.Prefixes.{state_all}

module _ {F T W A : Type 0} (f : FsSpec F) (c : Family T W A) (limits : Limits) (lane : ℕ) where
  -- an answer at once
  pub once_acts : (refs refs' : RefBook) (objects : ℕ) (base : Base F) (l : Lane T W A) (words : W) (x : Ended A) (start : ℕ) → IsNext l words → Tracks refs' (now_of base.books).refs → ((name : List ℕ) → HasRoom refs name → HasRoom refs' name) → start ≡ task_start base.books.history.items l.task → IsAtOnce f c.means limits base words l.task x
      → LaneActs f c limits lane lane refs refs' objects objects base base l (record { words = l.words; task = None; replies = l.replies }) (Answered x start)
  once_acts refs refs' objects base l words x start next tracks rooms is once = record {
    words = words;
    next = next;
    same = refl;
    replies = refl;
    tracks = tracks;
    rooms = rooms;
    did = (refl, sym (standing_same base.books.gone objects), is, inl (refl, once));
  }

  -- a step of the task
  module _ (refs refs' : RefBook) (objects objects' : ℕ) (old new : Base F) (l : Lane T W A) (words : W) (next : IsNext l words) (t : T) where
    pub more_acts : Takes f c limits lane lane (length l.replies.items) refs refs' objects old new words l.task came.More t → CountsAt c.doing (standing old.books.gone new.books.gone objects) t came.More objects'
        → LaneActs f c limits lane lane refs refs' objects objects' old new l (record { words = l.words; task = Some (record { work = t; start = task_start old.books.history.items l.task }); replies = l.replies }) More
    more_acts x counts = record { words = words; next = next; same = refl; replies = refl; tracks = x.step.tracks; rooms = λ name has. x.step.rooms name (x.grew name has); did = (t, refl, counts, x) }

    pub held_acts : Takes f c limits lane lane (length l.replies.items) refs refs' objects old new words l.task came.Blocked t → objects' ≡ objects → LaneActs f c limits lane lane refs refs' objects objects' old new l l Blocked
    held_acts x counts = record { words = words; next = next; same = refl; replies = refl; tracks = x.step.tracks; rooms = λ name has. x.step.rooms name (x.grew name has); did = (refl, counts, t, x) }

    pub ended_acts : (outcome : Outcome) → HasEnded outcome → Takes f c limits lane lane (length l.replies.items) refs refs' objects old new words l.task outcome t → objects' ≡ standing old.books.gone new.books.gone objects → (x : Ended A) → IsEndedAs c.doing.answer (f.refused new.fs) outcome t (f.faults new.fs) x
        → LaneActs f c limits lane lane refs refs' objects objects' old new l (record { words = l.words; task = None; replies = l.replies }) (Answered x (task_start old.books.history.items l.task))
    ended_acts outcome end x counts answer by = record { words = words; next = next; same = refl; replies = refl; tracks = x.step.tracks; rooms = λ name has. x.step.rooms name (x.grew name has); did = (refl, counts, refl, inr (outcome, t, end, by, x)) }

  -- the task that runs takes it
  pub running_takes : (refs refs' : RefBook) (objects : ℕ) (old new : Base F) (l : Lane T W A) (r : Running T) (k : LaneKept f c limits lane refs old l) (task : l.task ≡ Some r) (live : old.books.halted ≡ None) (outcome : Outcome) (t : T)
      → Stepped f c.tasks lane lane (length l.replies.items) refs refs' outcome (told_by c.doing objects r.work) t old new → Takes f c limits lane lane (length l.replies.items) refs refs' objects old new ((k.started r task).words) (Some r) outcome t
  running_takes refs refs' objects old new l r k task live outcome t step =
      let s = k.started r task in
      record {
        live = live;
        work = r.work;
        is = refl;
        early = s.early;
        after = s.after;
        runs = subst (RunsIn c lane (f.view old.fs) old.books) task (k.runs live);
        between = refs;
        grew = λ name has. has;
        room = s.room;
        step = step;
      }

  -- a task at its beginning has its facts
  pub begun_runs : (laws : CommandLaws c.tasks c.means c.doing) (refs mid : RefBook) (old : Base F) (l : Lane T W A) (words : W) (k : LaneKept f c limits lane refs old l) (none : l.task ≡ None) (live : old.books.halted ≡ None) (home : (v : View) → f.view old.fs ≡ Some v → StagingPathFree lane v)
      → SystemInvariant f.view f.clock f.spare f.was old → (u : T) → IsBegun c.means c.doing limits lane (now_of old.books) words mid (begun.Runs u) → Runs c.tasks.kind c.tasks.facts lane u (f.view old.fs) (books_of old.books)
  begun_runs laws refs mid old l words k none live home sound u is = record {
    facts = λ v told. laws.steps.begun _ _ _ lane u v (books_of old.books) (sound.stands v told) (home v told) is.0;
    holds = laws.steps.quiet lane u (books_of old.books) is.0 (subst (RunsIn c lane (f.view old.fs) old.books) none (k.runs live));
  }

  -- and takes its first step
  pub begun_takes : (laws : CommandLaws c.tasks c.means c.doing) (refs mid refs' : RefBook) (objects : ℕ) (old new : Base F) (l : Lane T W A) (words : W) (k : LaneKept f c limits lane refs old l) (none : l.task ≡ None) (live : old.books.halted ≡ None) (home : (v : View) → f.view old.fs ≡ Some v → StagingPathFree lane v)
      → SystemInvariant f.view f.clock f.spare f.was old → ((name : List ℕ) → HasRoom refs name → HasRoom mid name) → (u : T) → IsBegun c.means c.doing limits lane (now_of old.books) words mid (begun.Runs u) → (outcome : Outcome) (t : T)
      → Stepped f c.tasks lane lane (length l.replies.items) mid refs' outcome (told_by c.doing objects u) t old new → Takes f c limits lane lane (length l.replies.items) refs refs' objects old new words None outcome t
  begun_takes laws refs mid refs' objects old new l words k none live home sound grew u is outcome t step =
      let same : begun_in limits (now_of old.books) ≡ since_in limits old.books (length old.books.history.items) = ap (begun_in limits) (sym (state_all old.books (length old.books.history.items) refl)) in
      record {
        live = live;
        work = u;
        is = (is.0, is.3);
        early = omega arith;
        after = subst (λ (s : Since). c.doing.pursues s words u) same is.1;
        runs = begun_runs laws refs mid old l words k none live home sound u is;
        between = mid;
        grew = grew;
        room = subst (λ (s : Since). HasRoomFor c.means mid s words) same is.2;
        step = step;
      }

-- there is room for the change that the next step makes last
pub started_room : {T W A : Type 0} (c : Family T W A) → CommandLaws c.tasks c.means c.doing → (limits : Limits) (refs : RefBook) (b : rust.Books) (l : Lane T W A) (r : Running T) → Started c limits refs b l r → (objects : ℕ) (e : Event) → c.tasks.kind (told_by c.doing objects r.work) ≡ MakeDurable e → HasEventRoom refs e
started_room c laws limits refs b l r s objects e is =
    s.room e (laws.changes.settled (since_in limits b r.start) s.words (told_by c.doing objects r.work) e (laws.hears.pursues (record { objects = objects }) (since_in limits b r.start) s.words r.work s.after) is)

pub begun_room : {T W A : Type 0} (c : Family T W A) → CommandLaws c.tasks c.means c.doing → (limits : Limits) (lane : ℕ) (s : SystemState) (words : W) (refs : RefBook) (u : T) → IsBegun c.means c.doing limits lane s words refs (begun.Runs u) → (objects : ℕ) (e : Event) → c.tasks.kind (told_by c.doing objects u) ≡ MakeDurable e → HasEventRoom refs e
begun_room c laws limits lane s words refs u is objects e kind =
    is.2 e (laws.changes.settled (begun_in limits s) words (told_by c.doing objects u) e (laws.hears.pursues (record { objects = objects }) (begun_in limits s) words u is.1) kind)

-- a last step has an answer
pub has_answer : {F T W A : Type 0} (f : FsSpec F) (c : Family T W A) → CommandLaws c.tasks c.means c.doing → (limits : Limits) (actor lane number : ℕ) (refs refs' : RefBook) (objects : ℕ) (old new : Base F) (words : W) (task : Option (Running T)) (outcome : Outcome) (t : T)
    → Takes f c limits actor lane number refs refs' objects old new words task outcome t → outcome ≡ came.Done → IsSome (c.doing.answer t)
has_answer f c laws limits actor lane number refs refs' objects old new words task outcome t x is =
    let start = task_start old.books.history.items task in
    let step = subst (λ (o : Outcome). Stepped f c.tasks actor lane number x.between refs' o (told_by c.doing objects x.work) t old new) is x.step in
    laws.answers.answers (since_in limits old.books start) words (told_by c.doing objects x.work) t (laws.hears.pursues (record { objects = objects }) (since_in limits old.books start) words x.work x.after) step.steps
