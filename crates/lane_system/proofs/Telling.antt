-- A step of a task that was told something.
use Rattle.std.proofs.Common.{◌≡◌, ◌<◌, ◌≤◌, ◌+◌, ◌-◌, ℕ, Bool, nat_lt, true, false, if◌then◌else◌, refl, sym, ◌∙◌, ap, subst, arith, List, Option, Some, None}
use Rattle.std.proofs.lemmas.Bool.Decides.{nat_tests}
use Rattle.ost_types.specs.declared.limits.Limits.{Limits}
use Rattle.fs_trait.specs.View.{View}
use Rattle.fs_trait.specs.Image.{IsTree}
use Rattle.boot_model.specs.declared.item.DepId.{DepId}
use Rattle.boot_read.specs.declared.row.BootRow.{BootRow}
use Rattle.durable_list.specs.Standing.{ListStands, ids_of}
use Rattle.rely_guarantee.specs.declared.books.Base.{Base}
use Rattle.rely_guarantee.specs.declared.books.Books as rust
use Rattle.rely_guarantee.specs.declared.books.Pending.{Pending}
use Rattle.rely_guarantee.specs.declared.books.Pin.{Pin}
use Rattle.rely_guarantee.specs.declared.event.Event.{Event}
use Rattle.rely_guarantee.specs.declared.kind.Halt.TheVariants as halt
use Rattle.rely_guarantee.specs.declared.kind.Outcome.{Outcome}
use Rattle.rely_guarantee.specs.declared.kind.Outcome.TheVariants as came
use Rattle.rely_guarantee.specs.Books.{Agrees, books_of, listed_in}
use Rattle.rely_guarantee.specs.Exact.{Steps, Tells}
use Rattle.rely_guarantee.specs.Laws.{Holds, Kind, NotPending, Ready, Runs, MakeDurable}
use Rattle.rely_guarantee.specs.State.{SystemState, events_of, opening_state}
use Rattle.rely_guarantee.proofs.Sounds.{IsFs}
use Rattle.ref_book.specs.declared.book.RefBook.{RefBook}
use Rattle.ref_book.specs.Tracks.{HasEventRoom}
use Rattle.command.specs.declared.told.Told.{Told}
use Rattle.command.specs.BootLaws.{BootLaws}
use Rattle.command.specs.Doing.{Doing}
use Rattle.command.specs.HearLaws.{HearLaws}
use Rattle.command.specs.LearnLaws.{LearnLaws}
use Rattle.command.specs.MayBoot.{coming_of}
use Rattle.command.specs.Since.{Since}
use Rattle.command.specs.Tasks.{TaskSpec}
use Rattle.lane_system.specs.Family.{FsSpec, learning, leaves_on, stepped_on}
use Rattle.lane_system.specs.Booting.{BootsOne, MayBootBy, MayBootNow}
use Rattle.lane_system.specs.Kept.{DiskKept}
use Rattle.lane_system.specs.LaneActs.{told_by}
use Rattle.lane_system.specs.Steps.{CountsAt, IsCounted, Stepped, standing}
use Rattle.lane_system.proofs.Disks.{disk_on}
use Rattle.lane_system.proofs.Swapping.{step_boots}

module _ {F T : Type 0} (f : FsSpec F) (k : TaskSpec T) (lane : ℕ) (base : Base F) where
  -- before it
  pub told_ready : {W A : Type 0} (d : Doing T W A) → HearLaws k d → (objects : ℕ) (t u : T) → u ≡ told_by d objects t → Ready f.view f.clock f.spare f.was (Runs k.kind k.facts lane t) base → Ready f.view f.clock f.spare f.was (Runs k.kind k.facts lane u) base
  told_ready d laws objects t u is ready = subst (λ x. Ready f.view f.clock f.spare f.was (Runs k.kind k.facts lane x) base) (sym is) (record {
    sound = ready.sound;
    live = ready.live;
    task = record {
      facts = λ v told. laws.facts (record { objects = objects }) lane t v (books_of base.books) (ready.task.facts v told);
      holds = laws.holds (record { objects = objects }) lane t (books_of base.books) ready.task.holds;
    };
  })

  -- it is one of the task as it was told
  pub told_step : (number : ℕ) (refs refs' : RefBook) (o x : Outcome) (t u t' : T) (new : Base F) → u ≡ t → o ≡ x → Stepped f k lane lane number refs refs' o u t' base new → Stepped f k lane lane number refs refs' x t t' base new
  told_step number refs refs' o x t u t' new is same step = subst (λ y. Stepped f k lane lane number refs refs' y t t' base new) same (subst (λ y. Stepped f k lane lane number refs refs' o y t' base new) is step)

-- nothing is pending where the lane has the lock of those that remove and shows nothing itself
clear_of : (b : rust.Books) (lane : ℕ) → Agrees (books_of b) → ((p : Pending) → b.pending ≡ Some p → b.turn ≡ Some p.lane) → b.exclusive ≡ Some lane → NotPending lane (books_of b) → b.pending ≡ None
clear_of b lane agrees owner alone none = by b.pending refl
  where
    by : (o : Option Pending) → b.pending ≡ o → b.pending ≡ None
    by None is = is
    by (Some p) is = absurd (none p is (agrees.turn lane p.lane alone (owner p is)))

-- what is so of the disk beside its state behind such a step
pub told_disk : {F T W A : Type 0} (f : FsSpec F) (k : TaskSpec T) (d : Doing T W A) → HearLaws k d → BootLaws k d → IsFs f.view f.clock f.was → ((g : F) (v : View) → f.view g ≡ Some v → IsTree v.now) → (limits : Limits) (start place : SystemState) (words : W) (lane number objects : ℕ) (refs refs' : RefBook) (t mid : T) (base new : Base F)
    → d.pursues (record { limits = limits; start = start; place = place }) words t → Ready f.view f.clock f.spare f.was (Runs k.kind k.facts lane t) base → Stepped f k lane lane number refs refs' came.More (told_by d objects t) mid base new → DiskKept limits (f.view base.fs) base.books → DiskKept limits (f.view new.fs) new.books
told_disk f k d hears boots is tree limits start place words lane number objects refs refs' t mid base new after ready step was =
    let since : Since = record { limits = limits; start = start; place = place } in
    let told_one = told_ready f k lane base d hears objects t (told_by d objects t) refl ready in
    disk_on f is limits lane lane base new step.acts.does
    (λ opening v told may. step_boots f k d boots since words lane lane number refs refs' opening came.More (told_by d objects t) mid base new step ready.sound (hears.pursues (record { objects = objects }) since words t after) told_one.task v told (tree base.fs v told) may)
    was

-- what it is told behind it is so
module _ {F T W A : Type 0} (f : FsSpec F) (k : TaskSpec T) (d : Doing T W A) (laws : LearnLaws k d) (lane number : ℕ) (refs refs' : RefBook) (t mid new_t : T) (base new : Base F) (ids : List DepId) (pins : List Pin)
    (step : Stepped f k lane lane number refs refs' came.More t mid base new) (ids_are : ids ≡ listed_in (books_of new.books)) (pins_are : pins ≡ new.books.pins.items) (limits : Limits) (disk : DiskKept limits (f.view new.fs) new.books) (learns : d.learns refs' ids pins mid new_t) where
  -- the list that boots, where none is published
  listed_boots : {v : View} → ((opening : List BootRow) × MayBootNow limits opening new.books v) → coming_of new.books.pending ≡ None → (rows : List BootRow) × (listed_in (books_of new.books) ≡ ids_of rows) × ListStands rows v
  listed_boots {v} (opening, may) none =
      let one : BootsOne limits opening (opening_state new.books.start) (events_of new.books.history.items) v = subst (λ (o : Option (List DepId)). MayBootBy limits opening (opening_state new.books.start) (events_of new.books.history.items) o v) none may in
      (one.rows, one.are.listed, one.boots.list)

  learnt_runs : Runs k.kind k.facts lane new_t (f.view new.fs) (books_of new.books)
  learnt_runs =
      let ordered = step.acts.sound.ordered in
      record {
        facts = λ v told. laws.facts (opening_state new.books.start) new.books.history.items new.books.pending refs' ids pins lane mid new_t v (books_of new.books)
            (record { stands = step.acts.sound.stands v told; tracks = step.tracks; listed = ids_are; pins_are = pins_are; free = disk.free v told; clear = clear_of new.books lane ordered.agrees ordered.owner; bounded = disk.bounded v told; boots = λ none. listed_boots (disk.boots v told) none; relists = step.acts.sound.relists v told })
            learns step.acts.tells.holds (step.acts.tells.facts v told);
        holds = subst (λ (x : Kind). Holds x lane (books_of new.books)) (sym (laws.kind refs' ids pins mid new_t learns)) step.acts.tells.holds;
      }

  pub learnt_step : Stepped f (learning k d) lane lane number refs refs' came.More t new_t base new
  learnt_step = record {
    acts = record { sound = step.acts.sound; does = step.acts.does; books = step.acts.books; past = step.acts.past; tells = learnt_runs };
    steps = (mid, step.steps, (refs', ids, pins, learns));
    wrote = step.wrote;
    tells = λ v told. (let x = step.tells v told in (x.0, x.1, (mid, x.2, (refs', ids, pins, learns), step.steps)));
    by = step.by;
    blocked = step.blocked;
    opens = step.opens;
    locks = step.locks;
    pins = step.pins;
    claimed = step.claimed;
    booked = step.booked;
    gone = step.gone;
    lasts = step.lasts;
    time = step.time;
    cause = step.cause;
    live = step.live;
    tracks = step.tracks;
    rooms = step.rooms;
  }

  -- and it counts what it counted
  pub learnt_counts : (left now : ℕ) → IsCounted left (d.met mid) now → CountsAt d left new_t came.More now
  learnt_counts left now = subst (λ x. IsCounted left x now) (sym (laws.met refs' ids pins mid new_t learns))

-- a step that doesn't go on is told nothing
pub still_step : {F T W A : Type 0} (f : FsSpec F) (k : TaskSpec T) (d : Doing T W A) (lane number : ℕ) (refs refs' : RefBook) (o : Outcome) (t new_t : T) (base new : Base F) → (o ≡ came.More → ⊥) → Stepped f k lane lane number refs refs' o t new_t base new → Stepped f (learning k d) lane lane number refs refs' o t new_t base new
still_step {F} {T} f k d lane number refs refs' o t new_t base new not step = record {
  acts = step.acts;
  steps = steps o not step.steps;
  wrote = step.wrote;
  tells = tells o not step.tells;
  by = step.by;
  blocked = step.blocked;
  opens = step.opens;
  locks = step.locks;
  pins = step.pins;
  claimed = step.claimed;
  booked = step.booked;
  gone = step.gone;
  lasts = step.lasts;
  time = step.time;
  cause = step.cause;
  live = step.live;
  tracks = step.tracks;
  rooms = step.rooms;
}
  where
    steps : (x : Outcome) → (x ≡ came.More → ⊥) → Steps k.stepped t x new_t → Steps (stepped_on k d) t x new_t
    steps came.More not is = absurd (not refl)
    steps came.Done not is = is
    steps came.Blocked not is = is
    steps (came.Halted why) not is = is
    steps (came.Refused e) not is = is

    tells : (x : Outcome) → (x ≡ came.More → ⊥) → Tells k.leaves k.refuses t x new_t (f.view base.fs) (f.view new.fs) → Tells (leaves_on k d) k.refuses t x new_t (f.view base.fs) (f.view new.fs)
    tells came.More not is = absurd (not refl)
    tells came.Done not is = is
    tells came.Blocked not is = is
    tells (came.Halted halt.Failed) not is = is
    tells (came.Halted halt.Strayed) not is = is
    tells (came.Refused e) not is = is

-- how many stand without those that the books tell as removed
pub standing_none : (gone gone' count : ℕ) → gone' ≤ gone → standing gone gone' count ≡ count
standing_none gone gone' count le = by (nat_lt gone gone') refl
  where
    by : (b : Bool) → nat_lt gone gone' ≡ b → (if b then count - 1 else count) ≡ count
    by true is = absurd (let z : gone < gone' = grind (arith, nat_tests) in omega (arith, z, le))
    by false is = refl

pub standing_less : (gone gone' count : ℕ) → standing gone gone' count ≤ count
standing_less gone gone' count = by (nat_lt gone gone')
  where
    by : (b : Bool) → (if b then count - 1 else count) ≤ count
    by true = omega arith
    by false = omega arith

pub standing_more : (gone gone' count : ℕ) → count ≤ standing gone gone' count + 1
standing_more gone gone' count = by (nat_lt gone gone')
  where
    by : (b : Bool) → count ≤ (if b then count - 1 else count) + 1
    by true = omega arith
    by false = omega arith

-- one less where they tell of one more
pub standing_one : (gone gone' count : ℕ) → gone < gone' → standing gone gone' count ≡ count - 1
standing_one gone gone' count less = by (nat_lt gone gone') refl
  where
    by : (b : Bool) → nat_lt gone gone' ≡ b → (if b then count - 1 else count) ≡ count - 1
    by true is = refl
    by false is = absurd (let z : gone' ≤ gone = grind (arith, nat_tests) in omega (arith, z, less))

-- no object was removed where the books tell of no more
pub standing_same : (gone count : ℕ) → standing gone gone count ≡ count
standing_same gone count = standing_none gone gone count (omega arith)

pub told_room : {T : Type 0} (k : TaskSpec T) (refs : RefBook) (t u : T) → u ≡ t → ((e : Event) → k.kind t ≡ MakeDurable e → HasEventRoom refs e) → (e : Event) → k.kind u ≡ MakeDurable e → HasEventRoom refs e
told_room k refs t u is room e kind = room e (sym (ap k.kind is) ∙ kind)

-- one that is told again what it was told before is as it was
pub told_back : {T W A : Type 0} (k : TaskSpec T) (d : Doing T W A) → HearLaws k d → (objects : ℕ) (t u v w : T) (former : Told) → u ≡ told_by d objects t → former ≡ d.heard t → v ≡ u → w ≡ d.hears former v → w ≡ t
told_back k d laws objects t u v w former told heard same again =
    again ∙ ap (λ x. d.hears x v) heard ∙ ap (d.hears (d.heard t)) (same ∙ told) ∙ laws.back (record { objects = objects }) t

-- what is counted behind a step that doesn't go on
pub counts_rest : {T W A : Type 0} (d : Doing T W A) (left now : ℕ) (t : T) (o : Outcome) → (o ≡ came.More → ⊥) → now ≡ left → CountsAt d left t o now
counts_rest d left now t came.More not is = absurd (not refl)
counts_rest d left now t came.Done not is = is
counts_rest d left now t came.Blocked not is = is
counts_rest d left now t (came.Halted why) not is = is
counts_rest d left now t (came.Refused e) not is = is
