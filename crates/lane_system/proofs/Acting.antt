-- One act of one lane keeps what a system keeps.
use Rattle.std.proofs.Common.{◌≡◌, ◌⊎◌, inl, inr, ⊎_elim, ◌<◌, ◌≤◌, ◌+◌, ℕ, refl, sym, ◌∙◌, ap, subst, arith, List, [], ◌∷◌, ◌++◌, append-nil, length, set, length-set, Option, Some, None}
use Rattle.std.specs.List.{flat_map}
use Rattle.std.proofs.lemmas.List.Elements.{Contains-append_right}
use Rattle.std.proofs.lemmas.List.{set-get_or}
use Rattle.std.specs.Prelude.{vec_capacity}
use Rattle.std.specs.Global.{Vec}
use Rattle.ost_types.specs.declared.limits.Limits.{Limits}
use Rattle.rely_guarantee.specs.declared.books.Base.{Base}
use Rattle.rely_guarantee.specs.declared.books.Pending.{Pending}
use Rattle.rely_guarantee.specs.declared.kind.Halt.{Halt}
use Rattle.rely_guarantee.specs.declared.kind.Halt.TheVariants as halt
use Rattle.rely_guarantee.specs.declared.kind.Outcome.{Outcome}
use Rattle.rely_guarantee.specs.declared.kind.Outcome.TheVariants as came
use Rattle.rely_guarantee.specs.declared.kind.Wants.{Wants}
use Rattle.rely_guarantee.specs.Books.{books_of}
use Rattle.rely_guarantee.specs.Laws.{Kind, Quiet, Store, Take, Claim, Publish, Published, Remove, MakeDurable}
use Rattle.rely_guarantee.specs.Pinning.{pin_in}
use Rattle.rely_guarantee.specs.State.{stored}
use Rattle.rely_guarantee.specs.SystemInvariant.{SystemInvariant}
use Rattle.rely_guarantee.proofs.Acting.{ends_refl}
use Rattle.rely_guarantee.proofs.Lasting.{lasts_refl, none_out}
use Rattle.ref_book.specs.declared.book.RefBook.{RefBook}
use Rattle.ref_book.specs.Tracks.{HasRoom, Tracks}
use Rattle.ost_types.specs.declared.object.ObjName.{ObjName}
use Rattle.command.specs.declared.ended.Ended.{Ended}
use Rattle.command.specs.declared.ended.Ended.TheVariants as ended
use Rattle.command.specs.ChangeLaws.{Founds}
use Rattle.lane_system.specs.declared.act.Came.{Came}
use Rattle.lane_system.specs.declared.act.Came.TheVariants.{Answered, Blocked, More}
use Rattle.lane_system.specs.declared.lane.Lane.{Lane}
use Rattle.lane_system.specs.declared.lane.Reply.{Reply}
use Rattle.lane_system.specs.declared.lane.Running.{Running}
use Rattle.lane_system.specs.Acts.{Acts}
use Rattle.lane_system.specs.Family.{Family, FsSpec}
use Rattle.lane_system.specs.Kept.{Kept, LaneKept, Locked}
use Rattle.lane_system.specs.LaneActs.{IsAtOnce, LaneActs, Takes, task_start}
use Rattle.lane_system.specs.Lanes.{IsAt, IsRunning, IsTo}
use Rattle.lane_system.specs.Pins.{AreInWork, IsWorkOf}
use Rattle.lane_system.specs.Removals.{removed_by, swept_in}
use Rattle.lane_system.specs.Replies.{EndsToo, IsTold}
use Rattle.lane_system.specs.States.{now_of, since_in}
use Rattle.lane_system.specs.Steps.{Stepped}
use Rattle.lane_system.proofs.Accounting.{accounted_given, accounted_more}
use Rattle.lane_system.proofs.AtOnce.{at_once_gives, ends_too, none_too}
use Rattle.lane_system.proofs.Changing.{running_was}
use Rattle.lane_system.proofs.Endings.{IsMine, more_history, pending_by}
use Rattle.lane_system.proofs.Family.{FamilyLaws, FsLaws}
use Rattle.lane_system.proofs.Giving.{Gives, taken_gives}
use Rattle.lane_system.proofs.Keeping.{kept_given, kept_more, others_kept, started_stays}
use Rattle.lane_system.proofs.Locking.{locked_ended, locked_more, locked_same, pinned_ended, pinned_more, pinned_same}
use Rattle.lane_system.proofs.Places.{at_set_back, at_set_is, here_or_apart}
use Rattle.lane_system.proofs.Setting.{comes_same}
use Rattle.lane_system.proofs.Disks.{disk_on}
use Rattle.lane_system.proofs.Taking.{taken_acts, told, told_after, told_facts}

-- nothing was done to the books and the disk
pub nothing_acts : {F : Type 0} (f : FsSpec F) → FsLaws f → (limits : Limits) (actor lane : ℕ) (base : Base F) (refs refs' : RefBook) → SystemInvariant f.view f.clock f.spare f.was base → Tracks refs' (now_of base.books).refs → ((name : List ℕ) → HasRoom refs name → HasRoom refs' name) → Acts f limits actor lane refs refs' base base
nothing_acts f fl limits actor lane base refs refs' sound tracks rooms = record {
  locks = λ order. order;
  out = [];
  removal = record {
    only = λ v told. (v, told, λ o sum vacant. inl vacant);
    one = λ v told. inl (refl, omega arith);
    told = λ o has. absurd (none_out o has);
    still = λ o has. Contains-append_right (flat_map removed_by (ends_refl actor lane base).spared.more) (swept_in base.books) o has;
    prunes = λ o has p is. absurd (none_out o has);
  };
  boots = λ opening v told may. (v, told, may);
  past = λ t le. refl;
  sound = sound;
  does = λ v told. (v, told, record { writes = record { only = λ p s may. inl may; now = λ p. inl refl }; books = (ends_refl actor lane base).spared; claims = λ c has. inl has; listed = λ x other held. refl });
  books = (ends_refl actor lane base).spared;
  homes = λ homes. homes;
  live = λ x. x;
  tracks = tracks;
  rooms = rooms;
  lasts = lasts_refl f.view f.clock f.was fl.is base.fs;
  time = record { later = omega arith; soon = omega arith; nothing_else = λ t w early had. inl had; keeps = λ t w early had. had };
  moments = λ k e at. inl at;
  grows = ([], sym (append-nil (stored base.books.history.items base.books.pending)));
  fails = (omega arith, λ is. inl is);
  founded = λ v told. comes_same (Founds v) base.books base.books (refl, refl);
}

-- what is pinned is asked for
pin_asked : (k : Kind) (name : ObjName) → pin_in k ≡ Some name → (wants : Wants) × (k ≡ Take wants) × (wants.pin ≡ Some name)
pin_asked (Take wants) name is = (wants, refl, is)
pin_asked Quiet name is = cc
pin_asked Store name is = cc
pin_asked (Claim other) name is = cc
pin_asked (Publish e) name is = cc
pin_asked (Published e n) name is = cc
pin_asked (Remove e n) name is = cc
pin_asked (MakeDurable e) name is = cc

-- a lane with the same fields
pub same_lane : {T W A : Type 0} (l l' : Lane T W A) → l'.words ≡ l.words → l'.task ≡ l.task → l'.replies ≡ l.replies → l' ≡ l
same_lane {T} {W} {A} l l' words task replies =
    ap (λ (x : Vec W). record { words = x; task = l'.task; replies = l'.replies }) words
    ∙ ap (λ (x : Option (Running T)). record { words = l.words; task = x; replies = l'.replies }) task
    ∙ ap (λ (x : Vec (Reply A)). record { words = l.words; task = l.task; replies = x }) replies

pub set_same : {X : Type 0} (xs : List X) (i : ℕ) (x y : X) → IsAt xs i x → y ≡ x → set xs i y ≡ xs
set_same xs i x y at same = ap (set xs i) (same ∙ sym at.1) ∙ set-get_or xs i x

module _ {F T W A : Type 0} (f : FsSpec F) (c : Family T W A) (fl : FsLaws f) (cl : FamilyLaws c) (limits : Limits) (lane : ℕ) (refs refs' : RefBook) (objects objects' : ℕ) (old new : Base F) (lanes : List (Lane T W A)) (given : ℕ) (l l' : Lane T W A)
    (kept : Kept f c limits old refs lanes given) (at : IsAt lanes lane l) where
  k : LaneKept f c limits lane refs old l
  k = kept.each lane l at

  pub early : (a n : ℕ) (r : Running T) → IsRunning lanes a n r → r.start ≤ length old.books.history.items
  early a n r is = ((kept.each a is.0 is.1).started r is.3).early

  pub within : (a n : ℕ) (r : Reply A) → IsTo lanes a n r → r.start ≤ length old.books.history.items
  within a n r is = let x = ((kept.each a is.0 is.1).replies n r is.2).2 in omega (arith, x.begun, x.within)

  -- what is pending for the lane is its next command's
  pub mine : old.books.halted ≡ None → IsMine lane (length l.replies.items) old.books
  mine live p is own =
      let x = kept.accounted.going p is live in
      (running_was lanes lane l l at refl p.command x.0 (subst (λ i. IsRunning lanes i p.command x.0) own x.1)).0

  pub start_within : task_start old.books.history.items l.task ≤ length old.books.history.items
  start_within = by l.task refl
    where
      by : (o : Option (Running T)) → l.task ≡ o → task_start old.books.history.items o ≤ length old.books.history.items
      by None is = omega arith
      by (Some r) is = (k.started r is).early

  lane_few : lane < 8
  lane_few = omega (arith, at.0, kept.few)

  -- an act
  module _ (result : Came A) (x : LaneActs f c limits lane lane refs refs' objects objects' old new l l' result) where
    abbrev pub number : ℕ
    number = length l.replies.items

    -- by what it came to
    acts_taken : (outcome : Outcome) (t' : T) → Takes f c limits lane lane number refs refs' objects old new x.words l.task outcome t' → Acts f limits lane lane refs refs' old new
    acts_taken outcome t' y = taken_acts f c fl cl limits lane lane number refs refs' objects old new x.words l.task outcome t' y kept.sound

    acts_same : new ≡ old → Acts f limits lane lane refs refs' old new
    acts_same same = subst (λ (b : Base F). Acts f limits lane lane refs refs' old b) (sym same) (nothing_acts f fl limits lane lane old refs refs' kept.sound (subst (λ (b : Base F). Tracks refs' (now_of b.books).refs) same x.tracks) x.rooms)

    each_lane : (acts : Acts f limits lane lane refs refs' old new) (m : Lane T W A) → LaneKept f c limits lane refs' new m → ((why : Halt) → old.books.halted ≡ Some why → new ≡ old) → (a : ℕ) (y : Lane T W A) → IsAt (set lanes lane m) a y → LaneKept f c limits a refs' new y
    each_lane acts m here over a y is = here_or_apart a lane
        (λ e. subst (λ i. LaneKept f c limits i refs' new y) (sym e) (subst (LaneKept f c limits lane refs' new) (sym (at_set_is lanes lane m y at.0 (subst (λ i. IsAt (set lanes lane m) i y) e is))) here))
        (λ ne. (let was = at_set_back lanes lane a m y ne is in others_kept f c fl cl limits lane lane refs refs' old new acts a ne ne over y (kept.each a y was)))

  -- it goes on
  module _ (x : LaneActs f c limits lane lane refs refs' objects objects' old new l l' More) where
    abbrev t' : T
    t' = x.did.0

    abbrev y : Takes f c limits lane lane (length l.replies.items) refs refs' objects old new x.words l.task came.More t'
    y = x.did.3

    abbrev r' : Running T
    r' = record { work = t'; start = task_start old.books.history.items l.task }

    pub more_acts : Acts f limits lane lane refs refs' old new
    more_acts = taken_acts f c fl cl limits lane lane (length l.replies.items) refs refs' objects old new x.words l.task came.More t' y kept.sound

    abbrev t : T
    t = told f c fl cl limits lane lane (length l.replies.items) refs refs' objects old new x.words l.task came.More t' y

    after : c.doing.pursues (since_in limits old.books r'.start) x.words t
    after = told_after f c fl cl limits lane lane (length l.replies.items) refs refs' objects old new x.words l.task came.More t' y

    works : (name : ObjName) → pin_in (c.tasks.kind t) ≡ Some name → IsWorkOf (IsTold f.view) c.means (since_in limits old.books r'.start) x.words name
    works name is =
        let w = pin_asked (c.tasks.kind t) name is in (
          cl.commands.store.works (since_in limits old.books r'.start) x.words t w.0 name after w.1 w.2,
          λ is_told. (let v = fl.is.told is_told.0 old.fs is_told.1 is_told.2 in
              cl.commands.store.reaches (since_in limits old.books r'.start) lane x.words t v.0 (books_of old.books) w.0 name after (told_facts f c fl cl limits lane lane (length l.replies.items) refs refs' objects old new x.words l.task came.More t' y v.0 v.1) w.1 w.2),
        )

    live_more : Stepped f c.tasks lane lane (length l.replies.items) y.between refs' came.More t t' old new → new.books.halted ≡ old.books.halted
    live_more s = s.live

    pub kept_on : Kept f c limits new refs' (set lanes lane l') given
    kept_on = record {
      sound = more_acts.sound;
      tracks = x.tracks;
      few = omega (arith, length-set lanes lane l', kept.few);
      homes = more_acts.homes kept.homes;
      disk = disk_on f fl.is limits lane lane old new more_acts.does more_acts.boots kept.disk;
      each = each_lane More x more_acts l' (kept_more f c fl cl limits lane lane refs refs' objects old new more_acts l l' x.words x.next x.same k t' x.replies x.did.1 y) (λ why over. absurd (let z : Some why ≡ None = sym over ∙ y.live in cc));
      locked = λ live. locked_more c.tasks.kind lanes lane l l' at x.same old.books new.books (kept.locked y.live) (c.tasks.kind t) r' x.did.1 (cl.commands.locks.first t t' y.step.steps) y.step.locks;
      ordered = more_acts.locks kept.ordered;
      pins = λ live. pinned_more (IsTold f.view) c.means limits lanes lane l l' at x.same lane old.books new.books more_acts.books early (kept.pins y.live) r' x.did.1 x.replies refl start_within x.words x.next (pin_in (c.tasks.kind t)) y.step.pins works;
      explained = λ strayed. absurd (let z : None ≡ Some halt.Strayed = sym y.live ∙ sym (live_more y.step) ∙ strayed in cc);
      accounted = accounted_more (IsTold f.view) c.means limits old.books new.books lanes given kept.accounted lane lane more_acts.books l l' at x.same x.words x.next early within x.replies t' x.did.1
          (more_history lane (length l.replies.items) (f.clock new.fs) old.books new.books (c.tasks.kind t) y.step.booked)
          (λ live. y.live)
          (λ p is. ⊎_elim
          (λ before. inl before)
          (λ now. inr (ap (λ (q : Pending). q.lane) now.2, ap (λ (q : Pending). q.command) now.2, subst (c.means.changes (since_in limits old.books r'.start) x.words) (sym (ap (λ (q : Pending). q.event) now.2)) (cl.commands.changes.shown (since_in limits old.books r'.start) x.words t now.0 after now.1)))
          (pending_by lane (length l.replies.items) (f.clock new.fs) old.books new.books (c.tasks.kind t) came.More y.step.booked p is));
    }

  -- it is held off
  module _ (x : LaneActs f c limits lane lane refs refs' objects objects' old new l l' Blocked) where
    pub held_same : new ≡ old
    held_same = (x.did.3.step.blocked refl).0

    pub held_lanes : set lanes lane l' ≡ lanes
    held_lanes = set_same lanes lane l l' at (same_lane l l' x.same x.did.0 x.replies)

    pub kept_held : Kept f c limits new refs' (set lanes lane l') given
    kept_held = subst (λ (b : Base F). Kept f c limits b refs' (set lanes lane l') given) (sym held_same) (subst (λ xs. Kept f c limits old refs' xs given) (sym held_lanes) (record {
      sound = kept.sound;
      tracks = tracks;
      few = kept.few;
      homes = kept.homes;
      disk = kept.disk;
      each = λ a y is. (let z = kept.each a y is in record {
        is = z.is;
        runs = z.runs;
        started = λ r task. started_stays f c fl cl limits lane lane refs refs' old old (nothing_acts f fl limits lane lane old refs refs' kept.sound tracks x.rooms) y r (z.started r task);
        replies = z.replies;
        in_order = z.in_order;
        halts = z.halts;
      });
      locked = kept.locked;
      ordered = kept.ordered;
      pins = kept.pins;
      accounted = kept.accounted;
      explained = kept.explained;
    }))
      where
        tracks : Tracks refs' (now_of old.books).refs
        tracks = subst (λ (b : Base F). Tracks refs' (now_of b.books).refs) held_same x.tracks

  -- it has an answer
  module _ (z : Ended A) (start : ℕ) (x : LaneActs f c limits lane lane refs refs' objects objects' old new l l' (Answered z start)) where
    pub given_start : start ≡ task_start old.books.history.items l.task
    given_start = x.did.2

    pub given_within : start ≤ length old.books.history.items
    given_within = omega (arith, given_start, start_within)

    pub given_acts : Acts f limits lane lane refs refs' old new
    given_acts = ⊎_elim
        (λ at_once. acts_same (Answered z start) x at_once.0)
        (λ ended. acts_taken (Answered z start) x ended.0 ended.1 ended.4)
        x.did.3

    pub gives : Gives f c limits lane (length l.replies.items) objects old new x.words start z
    gives = subst (λ n. Gives f c limits lane (length l.replies.items) objects old new x.words n z) (sym given_start) (⊎_elim
        (λ at_once. subst (λ (b : Base F). Gives f c limits lane (length l.replies.items) objects old b x.words (task_start old.books.history.items l.task) z) (sym at_once.0)
        (at_once_gives f c cl limits lane (length l.replies.items) objects old x.words l.task k.runs kept.explained z at_once.1))
        (λ ended. taken_gives f c fl cl limits lane lane (length l.replies.items) refs refs' objects old new x.words l.task ended.0 ended.1 ended.4 kept.sound (mine ended.4.live) ended.2 z ended.3)
        x.did.3)

    -- with the reply
    module _ (l'' : Lane T W A) (r : Reply A) (words : l''.words ≡ l.words) (task : l''.task ≡ None) (grows : l''.replies.items ≡ l.replies.items ++ r ∷ []) (room : vec_capacity l.replies ≤ vec_capacity l''.replies)
        (answered : r.answer ≡ z) (begun : r.start ≡ start) (place : r.place ≡ length new.books.history.items) (order : r.order ≡ given) (taken : r.taken ≡ None) where
      -- at once: a lane without a task
      once_idle : IsAtOnce f c.means limits old x.words l.task z → old.books.halted ≡ None → l.task ≡ None
      once_idle once live = by z once
        where
          by : (w : Ended A) → IsAtOnce f c.means limits old x.words l.task w → l.task ≡ None
          by (ended.Answered a) is = is.1
          by ended.NoMemory (inl is) = is.1
          by ended.NoMemory (inr strayed) = absurd (let q : Some halt.Strayed ≡ None = sym strayed ∙ live in cc)
          by (ended.Halted n) is = absurd (let q : Some halt.Failed ≡ None = sym is.0 ∙ live in cc)
          by ended.DiskFault is = absurd is
          by (ended.Outside path) is = absurd (let q : Some halt.Strayed ≡ None = sym is.0 ∙ live in cc)

      halts : (o : Outcome) (t' : T) → Takes f c limits lane lane (length l.replies.items) refs refs' objects old new x.words l.task o t' → (why : Halt) → o ≡ came.Halted why → new.books.halted ≡ Some why
      halts o t' y why is = (subst (λ (q : Outcome). Stepped f c.tasks lane lane (length l.replies.items) y.between refs' q (told f c fl cl limits lane lane (length l.replies.items) refs refs' objects old new x.words l.task o t' y) t' old new) is y.step).acts.tells

      locked_given : new.books.halted ≡ None → Locked c.tasks.kind new.books (set lanes lane l'')
      locked_given live = ⊎_elim
          (λ once. (let was = given_acts.live live in subst (λ (b : Base F). Locked c.tasks.kind b.books (set lanes lane l'')) (sym once.0) (locked_same c.tasks.kind lanes lane l l'' at words old.books (kept.locked was) (once_idle once.1 was))))
          (λ over. locked_ended c.tasks.kind lanes lane l l'' at words old.books new.books (kept.locked over.4.live) _ over.0 over.2 (halts over.0 over.1 over.4) live over.4.step.locks)
          x.did.3

      pins_given : new.books.halted ≡ None → AreInWork (IsTold f.view) c.means limits new.books (set lanes lane l'')
      pins_given live = ⊎_elim
          (λ once. (let was = given_acts.live live in pinned_same (IsTold f.view) c.means limits lanes lane l l'' at words lane old.books new.books given_acts.books early (kept.pins was) (ap (λ (b : Base F). b.books.pins.items) once.0) (once_idle once.1 was)))
          (λ over. pinned_ended (IsTold f.view) c.means limits lanes lane l l'' at words lane old.books new.books given_acts.books early (kept.pins over.4.live) _ over.0 over.2 (halts over.0 over.1 over.4) live over.4.step.pins)
          x.did.3

      -- where all were ended before, this one is answered so
      later_ends : (a n : ℕ) (q : Reply A) → IsTo lanes a n q → EndsToo q.answer z
      later_ends a n q to = ⊎_elim
          (λ once. ends_too f c.means limits old x.words l.task q.answer ((kept.each a to.0 to.1).halts n q to.2) z once.1)
          (λ over. none_too f old q.answer z over.4.live ((kept.each a to.0 to.1).halts n q to.2))
          x.did.3

      was_explained : new.books.halted ≡ Some halt.Strayed → (before : Option Halt) → old.books.halted ≡ before → ¬ (IsTold f.view)
      was_explained strayed None is = gives.explained is strayed
      was_explained strayed (Some why) is = kept.explained (ap (λ (b : Base F). b.books.halted) (sym (gives.over why is)) ∙ strayed)

      pub kept_answered : Kept f c limits new refs' (set lanes lane l'') (given + 1)
      kept_answered = record {
        sound = given_acts.sound;
        tracks = x.tracks;
        few = omega (arith, length-set lanes lane l'', kept.few);
        homes = given_acts.homes kept.homes;
        disk = disk_on f fl.is limits lane lane old new given_acts.does given_acts.boots kept.disk;
        each = each_lane (Answered z start) x given_acts l'' (kept_given f c fl cl limits lane lane refs refs' objects old new given_acts l l'' x.words x.next words k z start given_start given_within task gives r answered begun place grows room) gives.over;
        locked = locked_given;
        ordered = given_acts.locks kept.ordered;
        pins = pins_given;
        explained = λ strayed. was_explained strayed old.books.halted refl;
        accounted = accounted_given (IsTold f.view) c.means limits old.books new.books lanes given kept.accounted lane lane given_acts.books l l'' at words x.words x.next early within r z grows task answered (begun ∙ given_start) place order taken gives.grows gives.left later_ends
            (λ live. (given_acts.live live, gives.idle live))
            (subst (λ n. (p : Pending) → new.books.pending ≡ Some p → (old.books.pending ≡ Some p) ⊎ ((p.lane ≡ lane) × (p.command ≡ length l.replies.items) × c.means.changes (since_in limits old.books n) x.words p.event)) given_start gives.pending);
      }
