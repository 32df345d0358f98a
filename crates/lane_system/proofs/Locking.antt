-- Whose the locks are and which objects are pinned, over an act.
use Rattle.std.proofs.Common.{◌≡◌, ◌≢◌, ◌⊎◌, inl, inr, ⊎_elim, ◌≤◌, ℕ, Bool, true, false, refl, sym, ◌∙◌, ap, subst, List, length, set, Contains, Option, Some, None}
use Rattle.ost_types.specs.declared.limits.Limits.{Limits}
use Rattle.ost_types.specs.declared.object.ObjName.{ObjName}
use Rattle.rely_guarantee.specs.declared.books.Books as rust
use Rattle.rely_guarantee.specs.declared.books.Pin.{Pin}
use Rattle.rely_guarantee.specs.declared.kind.Halt.{Halt}
use Rattle.rely_guarantee.specs.declared.kind.Outcome.{Outcome}
use Rattle.rely_guarantee.specs.declared.kind.Outcome.TheVariants as came
use Rattle.rely_guarantee.specs.declared.kind.Wants.{Wants}
use Rattle.rely_guarantee.specs.Books.{Spared, books_of}
use Rattle.rely_guarantee.specs.Exact.{IsGivenUp, Locks, exclusive_in, lock_taken, sysroot_in, turn_in}
use Rattle.rely_guarantee.specs.Laws.{Kind, Quiet, Store, Take, Claim, Publish, Published, Remove, MakeDurable}
use Rattle.rely_guarantee.specs.Pinning.{ArePinned, with_pin, without}
use Rattle.rely_guarantee.proofs.Pinning.{with_cases, without_cases}
use Rattle.command.specs.LockLaws.{AsksList}
use Rattle.command.specs.Meaning.{Meaning}
use Rattle.command.specs.Since.{Since, begun_in}
use Rattle.lane_system.specs.declared.lane.Lane.{Lane}
use Rattle.lane_system.specs.declared.lane.Running.{Running}
use Rattle.lane_system.specs.Kept.{AreInOrder, Locked}
use Rattle.lane_system.specs.LaneActs.{task_start}
use Rattle.lane_system.specs.Lanes.{IsAt, IsCommand, IsNext, IsRunning}
use Rattle.lane_system.specs.Pins.{AreInWork, IsPinOf, IsWorkOf}
use Rattle.lane_system.specs.States.{since_in}
use Rattle.lane_system.specs.Steps.{HasEnded}
use Rattle.lane_system.proofs.Changing.{command_stays, one_command, running_apart, running_here, running_was}
use Rattle.lane_system.proofs.Places.{here_or_apart}
use Rattle.lane_system.proofs.Prefixes.{state_is}

taken_by : (asks : Bool) (lane a : ℕ) (lock : Option ℕ) → lock_taken asks lane lock ≡ Some a → (a ≡ lane) ⊎ (lock ≡ Some a)
taken_by true lane a lock is = inl (let e : a ≡ lane = (let z : Some lane ≡ Some a = is in cc) in e)
taken_by false lane a lock is = inr is

-- who has the ref lock in a step is the lane, or had it before
turn_from : (k : Kind) (lane a : ℕ) (lock : Option ℕ) → turn_in k lane lock ≡ Some a → (a ≡ lane) ⊎ (lock ≡ Some a)
turn_from (Take wants) lane a lock is = taken_by wants.turn lane a lock is
turn_from (Publish e) lane a lock is = inl (let z : Some lane ≡ Some a = is in cc)
turn_from Quiet lane a lock is = inr is
turn_from Store lane a lock is = inr is
turn_from (Claim name) lane a lock is = inr is
turn_from (Published e n) lane a lock is = inr is
turn_from (Remove e n) lane a lock is = inr is
turn_from (MakeDurable e) lane a lock is = inr is

exclusive_in_from : (k : Kind) (lane a : ℕ) (lock : Option ℕ) → exclusive_in k lane lock ≡ Some a → (a ≡ lane) ⊎ (lock ≡ Some a)
exclusive_in_from (Take wants) lane a lock is = taken_by wants.exclusive lane a lock is
exclusive_in_from (Publish e) lane a lock is = inr is
exclusive_in_from Quiet lane a lock is = inr is
exclusive_in_from Store lane a lock is = inr is
exclusive_in_from (Claim name) lane a lock is = inr is
exclusive_in_from (Published e n) lane a lock is = inr is
exclusive_in_from (Remove e n) lane a lock is = inr is
exclusive_in_from (MakeDurable e) lane a lock is = inr is

sysroot_in_from : (k : Kind) (lane a : ℕ) (lock : Option ℕ) → sysroot_in k lane lock ≡ Some a → (a ≡ lane) ⊎ (lock ≡ Some a)
sysroot_in_from (Take wants) lane a lock is = taken_by wants.sysroot lane a lock is
sysroot_in_from (Publish e) lane a lock is = inr is
sysroot_in_from Quiet lane a lock is = inr is
sysroot_in_from Store lane a lock is = inr is
sysroot_in_from (Claim name) lane a lock is = inr is
sysroot_in_from (Published e n) lane a lock is = inr is
sysroot_in_from (Remove e n) lane a lock is = inr is
sysroot_in_from (MakeDurable e) lane a lock is = inr is

-- who has the lock of those that remove behind a step is the lane, or had it before
pub exclusive_from : (k : Kind) (lane a : ℕ) (o : Outcome) (old new : rust.Books) → (o ≡ came.Blocked → ⊥) → Locks k lane o old new → new.exclusive ≡ Some a → (a ≡ lane) ⊎ (old.exclusive ≡ Some a)
exclusive_from k lane a came.More old new went locks is = exclusive_in_from k lane a old.exclusive (sym locks.1 ∙ is)
exclusive_from k lane a (came.Halted why) old new went locks is = exclusive_in_from k lane a old.exclusive (sym locks.1 ∙ is)
exclusive_from k lane a came.Done old new went locks is = exclusive_in_from k lane a old.exclusive (locks.1 a is).1
exclusive_from k lane a (came.Refused e) old new went locks is = exclusive_in_from k lane a old.exclusive (locks.1 a is).1
exclusive_from k lane a came.Blocked old new went locks is = absurd (went refl)

-- a command that has ended has it no more
pub exclusive_ended : (k : Kind) (lane : ℕ) (old new : rust.Books) → Locks k lane came.Done old new → new.exclusive ≡ Some lane → ⊥
exclusive_ended k lane old new locks is = (locks.1 lane is).0 refl

asked_both : (b c : Bool) (lane : ℕ) (lock other : Option ℕ) → (b ≡ true → c ≡ true) → lock_taken b lane lock ≡ Some lane → (lock ≡ Some lane → other ≡ Some lane) → lock_taken c lane other ≡ Some lane
asked_both true c lane lock other both is was = ap (λ x. lock_taken x lane other) (both refl)
asked_both false true lane lock other both is was = refl
asked_both false false lane lock other both is was = was is

-- the lane that has it has the ref lock in the same step
both_in : (k : Kind) (lane : ℕ) (old : rust.Books) → ((wants : Wants) → k ≡ Take wants → wants.exclusive ≡ true → wants.turn ≡ true) → (old.exclusive ≡ Some lane → old.turn ≡ Some lane) → exclusive_in k lane old.exclusive ≡ Some lane → turn_in k lane old.turn ≡ Some lane
both_in (Take wants) lane old asks was is = asked_both wants.exclusive wants.turn lane old.exclusive old.turn (asks wants refl) is was
both_in (Publish e) lane old asks was is = refl
both_in Quiet lane old asks was is = was is
both_in Store lane old asks was is = was is
both_in (Claim name) lane old asks was is = was is
both_in (Published e n) lane old asks was is = was is
both_in (Remove e n) lane old asks was is = was is
both_in (MakeDurable e) lane old asks was is = was is

-- whose the one lock is, its the other one is, behind a step too
module _ (k : Kind) (actor lane : ℕ) (old new : rust.Books) (asks : (wants : Wants) → k ≡ Take wants → wants.exclusive ≡ true → wants.turn ≡ true) (spared : Spared actor lane (books_of old) (books_of new)) (was : AreInOrder old) where
  mine_on : (o : Outcome) → (o ≡ came.Blocked → ⊥) → Locks k lane o old new → new.exclusive ≡ Some lane → new.turn ≡ Some lane
  mine_on came.More went locks is = locks.0 ∙ both_in k lane old asks (was.alone lane) (sym locks.1 ∙ is)
  mine_on (came.Halted why) went locks is = locks.0 ∙ both_in k lane old asks (was.alone lane) (sym locks.1 ∙ is)
  mine_on came.Done went locks is = absurd ((locks.1 lane is).0 refl)
  mine_on (came.Refused e) went locks is = absurd ((locks.1 lane is).0 refl)
  mine_on came.Blocked went locks is = absurd (went refl)

  pub in_order_on : (o : Outcome) → (o ≡ came.Blocked → ⊥) → Locks k lane o old new → AreInOrder new
  in_order_on o went locks = record {
    alone = λ a is. here_or_apart a lane
        (λ e. subst (λ x. new.turn ≡ Some x) (sym e) (mine_on o went locks (subst (λ x. new.exclusive ≡ Some x) e is)))
        (λ ne. ⊎_elim (λ own. absurd (ne own)) (λ had. spared.turn a ne (was.alone a had)) (exclusive_from k lane a o old new went locks is));
    unshared = λ x has. was.unshared x (locks.2 x has);
  }

module _ {T W A : Type 0} (kind : T → Kind) (lanes : List (Lane T W A)) (lane : ℕ) (l l' : Lane T W A) (at : IsAt lanes lane l) (words : l'.words ≡ l.words) (old new : rust.Books) (was : Locked kind old lanes) (k : Kind) where
  -- the command of a lane, which goes on
  abbrev Goes : ℕ → Type 0
  Goes a = (n : ℕ) × (r : Running T) × IsRunning (set lanes lane l') a n r

  -- and doesn't wait for the lock on the list
  abbrev GoesOn : ℕ → Type 0
  GoesOn a = (n : ℕ) × (r : Running T) × IsRunning (set lanes lane l') a n r × ¬ (AsksList (kind r.work))

  -- a lane that had it before
  before : (a : ℕ) → a ≢ lane → old.turn ≡ Some a → GoesOn a
  before a ne is = (let w = was.turn a is in (w.0, w.1, running_apart lanes lane l l' at words a w.0 w.1 ne w.2, w.3))

  before_list : (a : ℕ) → a ≢ lane → old.sysroot ≡ Some a → Goes a
  before_list a ne is = (let w = was.sysroot a is in (w.0, w.1, running_apart lanes lane l l' at words a w.0 w.1 ne w.2))

  pub locked_more : (r : Running T) → l'.task ≡ Some r → ¬ (AsksList (kind r.work)) → Locks k lane came.More old new → Locked kind new (set lanes lane l')
  locked_more r task never locks = record {
    turn = λ a is. here_or_apart a lane
        (λ e. (length l'.replies.items, r, here a e, never))
        (λ ne. ⊎_elim (λ mine. absurd (ne mine)) (λ had. before a ne had) (turn_from k lane a old.turn (sym locks.0 ∙ is)));
    sysroot = λ a is. here_or_apart a lane
        (λ e. (length l'.replies.items, r, here a e))
        (λ ne. ⊎_elim (λ mine. absurd (ne mine)) (λ had. before_list a ne had) (sysroot_in_from k lane a old.sysroot (sym locks.3 ∙ is)));
  }
    where
      here : (a : ℕ) → a ≡ lane → IsRunning (set lanes lane l') a (length l'.replies.items) r
      here a e = subst (λ i. IsRunning (set lanes lane l') i (length l'.replies.items) r) (sym e) (running_here lanes lane l l' at words (length l'.replies.items) r refl task)

  pub locked_over : IsGivenUp lane (turn_in k lane old.turn) new.turn × IsGivenUp lane (sysroot_in k lane old.sysroot) new.sysroot → Locked kind new (set lanes lane l')
  locked_over locks = record {
    turn = λ a is. (let g = locks.0 a is in ⊎_elim (λ mine. absurd (g.0 mine)) (λ had. before a g.0 had) (turn_from k lane a old.turn g.1));
    sysroot = λ a is. (let g = locks.1 a is in ⊎_elim (λ mine. absurd (g.0 mine)) (λ had. before_list a g.0 had) (sysroot_in_from k lane a old.sysroot g.1));
  }

  pub locked_ended : (o : Outcome) → HasEnded o → ((why : Halt) → o ≡ came.Halted why → new.halted ≡ Some why) → new.halted ≡ None → Locks k lane o old new → Locked kind new (set lanes lane l')
  locked_ended came.Done end halts live locks = locked_over (locks.0, locks.3)
  locked_ended (came.Refused e) end halts live locks = locked_over (locks.0, locks.3)
  locked_ended (came.Halted why) end halts live locks = absurd (let z : Some why ≡ None = sym (halts why refl) ∙ live in cc)
  locked_ended came.Blocked end halts live locks = absurd end
  locked_ended came.More end halts live locks = absurd end

-- where nothing was done, by a lane without a task
module _ {T W A : Type 0} (kind : T → Kind) (lanes : List (Lane T W A)) (lane : ℕ) (l l' : Lane T W A) (at : IsAt lanes lane l) (words : l'.words ≡ l.words) where
  idle_apart : (a n : ℕ) (r : Running T) → l.task ≡ None → IsRunning lanes a n r → IsRunning (set lanes lane l') a n r
  idle_apart a n r none runs = here_or_apart a lane
      (λ e. absurd (let h = running_was lanes lane l l' at words n r (subst (λ i. IsRunning lanes i n r) e runs) in let z : None ≡ Some r = sym none ∙ h.1 in cc))
      (λ ne. running_apart lanes lane l l' at words a n r ne runs)

  pub locked_same : (b : rust.Books) → Locked kind b lanes → l.task ≡ None → Locked kind b (set lanes lane l')
  locked_same b was none = record {
    turn = λ a is. (let w = was.turn a is in (w.0, w.1, idle_apart a w.0 w.1 none w.2, w.3));
    sysroot = λ a is. (let w = was.sysroot a is in (w.0, w.1, idle_apart a w.0 w.1 none w.2));
  }

module _ {T W A : Type 0} (told : Type 0) (m : Meaning W A) (limits : Limits) (lanes : List (Lane T W A)) (lane : ℕ) (l l' : Lane T W A) (at : IsAt lanes lane l) (words : l'.words ≡ l.words) (actor : ℕ) (old new : rust.Books) (spared : Spared actor lane (books_of old) (books_of new))
    (early : (a n : ℕ) (r : Running T) → IsRunning lanes a n r → r.start ≤ length old.history.items) (was : AreInWork told m limits old lanes) where
  since_same : (n : ℕ) → n ≤ length old.history.items → since_in limits new n ≡ since_in limits old n
  since_same n le = ap (begun_in limits) (state_is actor lane old new spared n le)

  -- a pin of another lane
  pin_others : (p : Pin) → p.lane ≢ lane → Contains old.pins.items p → IsPinOf told m limits new (set lanes lane l') p
  pin_others p other has =
      let w = was p has in
      record {
        number = w.number;
        task = w.task;
        command = w.command;
        runs = running_apart lanes lane l l' at words p.lane w.number w.task other w.runs;
        is = command_stays lanes lane l l' at words p.lane w.number w.command w.is;
        work = subst (λ (s : Since). IsWorkOf told m s w.command p.object) (sym (since_same w.task.start (early p.lane w.number w.task w.runs))) w.work;
      }

  -- one of the lane, whose command runs on
  module _ (r : Running T) (task : l'.task ≡ Some r) (same : l'.replies ≡ l.replies) (start : r.start ≡ task_start old.history.items l.task) (within : r.start ≤ length old.history.items) (c : W) (next : IsNext l c) where
    pin_own : (p : Pin) → p.lane ≡ lane → IsWorkOf told m (since_in limits old r.start) c p.object → IsPinOf told m limits new (set lanes lane l') p
    pin_own p own works = record {
      number = length l.replies.items;
      task = r;
      command = c;
      runs = subst (λ i. IsRunning (set lanes lane l') i (length l.replies.items) r) (sym own) (running_here lanes lane l l' at words (length l.replies.items) r (ap (λ x. length x.items) (sym same)) task);
      is = command_stays lanes lane l l' at words p.lane (length l.replies.items) c (l, subst (λ i. IsAt lanes i l) (sym own) at, next);
      work = subst (λ (s : Since). IsWorkOf told m s c p.object) (sym (since_same r.start within)) works;
    }

    pub pinned_more : (pin : Option ObjName) → new.pins.items ≡ with_pin pin lane old.pins.items → ((name : ObjName) → pin ≡ Some name → IsWorkOf told m (since_in limits old r.start) c name) → AreInWork told m limits new (set lanes lane l')
    pinned_more pin now works p has = ⊎_elim
        (λ before. here_or_apart p.lane lane
        (λ own. (let w = was p before in
        let h = running_was lanes lane l l' at words w.number w.task (subst (λ i. IsRunning lanes i w.number w.task) own w.runs) in
        let same_start : w.task.start ≡ r.start = ap (task_start old.history.items) (sym h.1) ∙ sym start in
        let its : w.command ≡ c = one_command lanes lane w.number w.command c (subst (λ i. IsCommand lanes i w.number w.command) own w.is) (l, at, subst (λ n. IsAt l.words.items n c) (sym h.0) next) in
        pin_own p own (subst (λ (d : W). IsWorkOf told m (since_in limits old r.start) d p.object) its (subst (λ n. IsWorkOf told m (since_in limits old n) w.command p.object) same_start w.work))))
        (λ other. pin_others p other before))
        (λ mine. pin_own p mine.0 (works p.object mine.1))
        (with_cases pin lane old.pins.items p (subst (λ (xs : List Pin). Contains xs p) now has))

  pub pinned_over : new.pins.items ≡ without lane old.pins.items → AreInWork told m limits new (set lanes lane l')
  pinned_over gone p has = (let k = without_cases lane old.pins.items p (subst (λ (xs : List Pin). Contains xs p) gone has) in pin_others p k.0 k.1)

  pub pinned_ended : (pin : Option ObjName) (o : Outcome) → HasEnded o → ((why : Halt) → o ≡ came.Halted why → new.halted ≡ Some why) → new.halted ≡ None → ArePinned pin lane o old.pins.items new.pins.items → AreInWork told m limits new (set lanes lane l')
  pinned_ended pin came.Done end halts live pins = pinned_over pins
  pinned_ended pin (came.Refused e) end halts live pins = pinned_over pins
  pinned_ended pin (came.Halted why) end halts live pins = absurd (let z : Some why ≡ None = sym (halts why refl) ∙ live in cc)
  pinned_ended pin came.Blocked end halts live pins = absurd end
  pinned_ended pin came.More end halts live pins = absurd end

  -- where nothing was done, by a lane without a task
  pub pinned_same : new.pins.items ≡ old.pins.items → l.task ≡ None → AreInWork told m limits new (set lanes lane l')
  pinned_same same none p has =
      let before = subst (λ (xs : List Pin). Contains xs p) same has in
      let w = was p before in
      pin_others p (λ own. (let h = running_was lanes lane l l' at words w.number w.task (subst (λ i. IsRunning lanes i w.number w.task) own w.runs) in let z : None ≡ Some w.task = sym none ∙ h.1 in cc)) before
