-- The store stays good over an act of a lane, with known bytes alone and as many objects as were counted, for each way that it may end.
use Rattle.std.proofs.Common.{◌≡◌, inl, inr, ⊎_elim, ◌≤◌, ℕ, refl, sym, ◌∙◌, ap, subst, List, [], ◌∷◌, ◌++◌, length, set, Some}
use Rattle.ost_types.specs.declared.limits.Limits.{Limits}
use Rattle.fs_trait.specs.View.{Disk, View}
use Rattle.rely_guarantee.specs.declared.books.Base.{Base}
use Rattle.rely_guarantee.specs.declared.books.Entry.{Entry}
use Rattle.rely_guarantee.specs.declared.kind.Outcome.{Outcome}
use Rattle.rely_guarantee.specs.declared.kind.Outcome.TheVariants as came
use Rattle.rely_guarantee.specs.Exact.{IsLive}
use Rattle.ref_book.specs.declared.book.RefBook.{RefBook}
use Rattle.durable_store.specs.Brought.{NoHashCollisionOn}
use Rattle.durable_store.specs.Full.{HasAsMany}
use Rattle.command.specs.declared.ended.Ended.{Ended}
use Rattle.command.specs.Removed.{RemovesOnly}
use Rattle.command.specs.Sound.{IsSoundStore}
use Rattle.command.specs.Since.{placed}
use Rattle.lane_system.specs.declared.act.Came.TheVariants.{Answered, More}
use Rattle.lane_system.specs.declared.lane.Lane.{Lane}
use Rattle.lane_system.specs.declared.lane.Reply.{Reply}
use Rattle.lane_system.specs.declared.lane.Running.{Running}
use Rattle.lane_system.specs.Acts.{Acts}
use Rattle.lane_system.specs.Family.{Family, FsSpec}
use Rattle.lane_system.specs.Kept.{Kept}
use Rattle.lane_system.specs.Known.{AreKnown}
use Rattle.lane_system.specs.LaneActs.{LaneActs, task_start}
use Rattle.lane_system.specs.Lanes.{IsAt, IsRunning, IsTo}
use Rattle.lane_system.specs.States.{now_of, since_in}
use Rattle.lane_system.specs.Steps.{CountsAt, HasEnded, standing}
use Rattle.lane_system.specs.Storing.{AreStored, HasBegun, WasBrought}
use Rattle.lane_system.specs.System.{System}
use Rattle.lane_system.proofs.Acting.{early, given_acts, more_acts, within}
use Rattle.lane_system.proofs.Changing.{command_stays, running_apart, running_here, running_was, to_new, to_same, to_stays}
use Rattle.lane_system.proofs.Counting.{came_there, many_left, many_on}
use Rattle.lane_system.proofs.Family.{FamilyLaws, FsLaws}
use Rattle.lane_system.proofs.Moments.{opened_by}
use Rattle.lane_system.proofs.Places.{here_or_apart}
use Rattle.lane_system.proofs.StoreOverAct.{alone_before, known_step, known_still, no_outside, sound_now, stored_step, stored_still}
use Rattle.lane_system.proofs.Telling.{standing_same}

-- a command that is done counted none
counts_none : {T W A : Type 0} (c : Family T W A) (left objects' : ℕ) (t' : T) (o : Outcome) → HasEnded o → objects' ≡ left → CountsAt c.doing left t' o objects'
counts_none c left objects' t' came.Blocked end same = absurd end
counts_none c left objects' t' came.More end same = absurd end
counts_none c left objects' t' came.Done end same = same
counts_none c left objects' t' (came.Halted why) end same = same
counts_none c left objects' t' (came.Refused e) end same = same

not_blocked : (o : Outcome) → HasEnded o → o ≡ came.Blocked → ⊥
not_blocked o end is = let x : HasEnded came.Blocked = subst HasEnded is end in x

-- Commands that began are not forgotten.
module _ {T W A : Type 0} (entries : List Entry) (lanes : List (Lane T W A)) (lane : ℕ) (l l' : Lane T W A) (at : IsAt lanes lane l) (words : l'.words ≡ l.words) where
  begun_more : l'.replies ≡ l.replies → (r' : Running T) → l'.task ≡ Some r' → r'.start ≡ task_start entries l.task → (a n start : ℕ) → HasBegun lanes a n start → HasBegun (set lanes lane l') a n start
  begun_more same r' task begun a n start (inl (r, to, is)) = inl (r, to_same lanes lane l l' at words same a n r to, is)
  begun_more same r' task begun a n start (inr (r, runs, is)) = here_or_apart a lane
      (λ e. let was = running_was lanes lane l l' at words n r (subst (λ k. IsRunning lanes k n r) e runs) in
      inr (r', subst (λ k. IsRunning (set lanes lane l') k n r') (sym e) (running_here lanes lane l l' at words n r' (was.0 ∙ ap (λ x. length x.items) (sym same)) task), begun ∙ ap (task_start entries) was.1 ∙ is))
      (λ ne. inr (r, running_apart lanes lane l l' at words a n r ne runs, is))

  begun_given : (q : Reply A) → l'.replies.items ≡ l.replies.items ++ q ∷ [] → q.start ≡ task_start entries l.task → (a n start : ℕ) → HasBegun lanes a n start → HasBegun (set lanes lane l') a n start
  begun_given q grows begun a n start (inl (r, to, is)) = inl (r, to_stays lanes lane l l' at words q grows a n r to, is)
  begun_given q grows begun a n start (inr (r, runs, is)) = here_or_apart a lane
      (λ e. let was = running_was lanes lane l l' at words n r (subst (λ k. IsRunning lanes k n r) e runs) in
      inl (q, subst (λ k. IsTo (set lanes lane l') k n q) (sym e) (subst (λ k. IsTo (set lanes lane l') lane k q) (sym was.0) (to_new lanes lane l l' at words q grows)), begun ∙ ap (task_start entries) was.1 ∙ is))
      (λ ne. inr (r, running_apart lanes lane l l' at words a n r ne runs, is))

module _ {F T W A : Type 0} (f : FsSpec F) (c : Family T W A) (fl : FsLaws f) (cl : FamilyLaws c) (limits : Limits) (lane : ℕ) (refs refs' : RefBook) (objects objects' : ℕ) (old new : Base F) (lanes : List (Lane T W A)) (given : ℕ) (l : Lane T W A)
    (kept : Kept f c limits old refs lanes given) (at : IsAt lanes lane l) (v : View) (told_v : f.view old.fs ≡ Some v) where
  abbrev before : System F T W A
  before = record { base = old; lanes = lanes; limits = limits; objects = objects }

  pub begun_early : (a n start : ℕ) → HasBegun lanes a n start → start ≤ length old.books.history.items
  begun_early a n start (inl (r, to, is)) = subst (λ k. k ≤ length old.books.history.items) is (within f c fl cl limits lane refs refs' objects objects' old new lanes given l l kept at a n r to)
  begun_early a n start (inr (r, runs, is)) = subst (λ k. k ≤ length old.books.history.items) is (early f c fl cl limits lane refs refs' objects objects' old new lanes given l l kept at a n r runs)

  only_of : (a : Acts f limits lane lane refs refs' old new) → RemovesOnly a.out v (a.does v told_v).0
  only_of a =
      let k = a.removal.only v told_v in
      let e : Some k.0 ≡ Some (a.does v told_v).0 = sym k.1 ∙ (a.does v told_v).1 in
      let one : k.0 ≡ (a.does v told_v).0 = cc in
      subst (RemovesOnly a.out v) one k.2

  -- it goes on
  module _ (l' : Lane T W A) (x : LaneActs f c limits lane lane refs refs' objects objects' old new l l' More) where
    abbrev acts : Acts f limits lane lane refs refs' old new
    acts = more_acts f c fl cl limits lane refs refs' objects objects' old new lanes given l l' kept at x

    abbrev number : ℕ
    number = length l.replies.items

    abbrev r' : Running T
    r' = record { work = x.did.0; start = task_start old.books.history.items l.task }

    pub begun_on : (a n start : ℕ) → HasBegun lanes a n start → HasBegun (set lanes lane l') a n start
    begun_on = begun_more old.books.history.items lanes lane l l' at x.same x.replies r' x.did.1 refl

    pub stored_more : AreStored f c.means before v → AreStored f c.means (record { base = new; lanes = set lanes lane l'; limits = limits; objects = objects' }) (acts.does v told_v).0
    stored_more = stored_step f c fl cl limits lane lane refs refs' objects objects' old new lanes (set lanes lane l') acts (command_stays lanes lane l l' at x.same) begun_on begun_early
        v told_v number x.words l.task came.More x.did.0 x.did.3 kept.sound (λ is. cc) x.did.2 (λ why is. (let z : came.More ≡ came.Halted why = is in cc))
        (command_stays lanes lane l l' at x.same lane number x.words (l, at, x.next))
        (inr (r', running_here lanes lane l l' at x.same number r' (ap (λ z. length z.items) (sym x.replies)) x.did.1, refl))

    pub known_more : (opening : Disk) → AreKnown f c.means opening before v → AreKnown f c.means opening (record { base = new; lanes = set lanes lane l'; limits = limits; objects = objects' }) (acts.does v told_v).0
    known_more = known_step f c fl cl limits lane lane refs refs' objects objects' old new lanes (set lanes lane l') acts (command_stays lanes lane l l' at x.same) begun_on begun_early
        v told_v number x.words l.task came.More x.did.0 x.did.3 kept.sound (λ is. cc) x.did.2 (λ why is. (let z : came.More ≡ came.Halted why = is in cc))
        (command_stays lanes lane l l' at x.same lane number x.words (l, at, x.next))
        (inr (r', running_here lanes lane l l' at x.same number r' (ap (λ z. length z.items) (sym x.replies)) x.did.1, refl))

    pub counted_more : HasAsMany v.now objects → HasAsMany (acts.does v told_v).0.now objects'
    counted_more =
        let does = acts.does v told_v in
        many_on old.books new.books acts.out v does.0 (only_of acts) (acts.removal.one v told_v) objects objects' (c.doing.met x.did.0) x.did.2
        (came_there f c fl cl limits lane lane number refs refs' objects old new x.words l.task x.did.0 x.did.3 v does.0 told_v does.1)

    pub alone_more : ((u : View) → f.was new.fs new.books.opened u → NoHashCollisionOn (WasBrought c.means (record { base = new; lanes = set lanes lane l'; limits = limits; objects = objects' })) u.now) → (u : View) → f.was old.fs old.books.opened u → NoHashCollisionOn (WasBrought c.means before) u.now
    alone_more = alone_before f c fl cl limits lane lane refs refs' objects objects' old new lanes (set lanes lane l') acts (command_stays lanes lane l l' at x.same) begun_on begun_early v told_v

  -- it has an answer
  module _ (l' : Lane T W A) (z : Ended A) (start : ℕ) (x : LaneActs f c limits lane lane refs refs' objects objects' old new l l' (Answered z start)) (l'' : Lane T W A) (r : Reply A) (same : l''.words ≡ l.words) (grows : l''.replies.items ≡ l.replies.items ++ r ∷ []) (begun : r.start ≡ start) where
    abbrev acts_ : Acts f limits lane lane refs refs' old new
    acts_ = given_acts f c fl cl limits lane refs refs' objects objects' old new lanes given l l' kept at z start x

    abbrev behind_ : System F T W A
    behind_ = record { base = new; lanes = set lanes lane l''; limits = limits; objects = objects' }

    its_start : r.start ≡ task_start old.books.history.items l.task
    its_start = begun ∙ x.did.2

    pub begun_then : (a n start : ℕ) → HasBegun lanes a n start → HasBegun (set lanes lane l'') a n start
    begun_then = begun_given old.books.history.items lanes lane l l'' at same r grows its_start

    count_same : new ≡ old → standing old.books.gone new.books.gone objects ≡ objects
    count_same is = ap (λ (b : Base F). standing old.books.gone b.books.gone objects) is ∙ standing_same old.books.gone objects

    once_same : new ≡ old → (acts_.does v told_v).0 ≡ v
    once_same is =
        let there : f.view new.fs ≡ Some v = subst (λ (b : Base F). f.view b.fs ≡ Some v) (sym is) told_v in
        let e : Some (acts_.does v told_v).0 ≡ Some v = sym (acts_.does v told_v).1 ∙ there in
        cc

    pub stored_given : AreStored f c.means before v → AreStored f c.means behind_ (acts_.does v told_v).0
    stored_given stored = ⊎_elim
        (λ once. stored_still f c fl cl limits lane lane refs refs' objects objects' old new lanes (set lanes lane l'') acts_ (command_stays lanes lane l l'' at same) begun_then begun_early v told_v (once_same once.0) once.0 (x.did.1 ∙ count_same once.0) stored)
        (λ over. stored_step f c fl cl limits lane lane refs refs' objects objects' old new lanes (set lanes lane l'') acts_ (command_stays lanes lane l l'' at same) begun_then begun_early v told_v
        (length l.replies.items) x.words l.task over.0 over.1 over.4 kept.sound (not_blocked over.0 over.2) (counts_none c _ objects' over.1 over.0 over.2 x.did.1)
        (λ why is. (let live : IsLive (came.Halted why) old.books.halted new.books.halted = subst (λ (o : Outcome). IsLive o old.books.halted new.books.halted) is over.4.step.live in live))
        (command_stays lanes lane l l'' at same lane (length l.replies.items) x.words (l, at, x.next))
        (inl (r, to_new lanes lane l l'' at same r grows, its_start)) stored)
        x.did.3

    pub known_given : (opening : Disk) → AreKnown f c.means opening before v → AreKnown f c.means opening behind_ (acts_.does v told_v).0
    known_given opening known = ⊎_elim
        (λ once. known_still f c fl cl limits lane lane refs refs' objects objects' old new lanes (set lanes lane l'') acts_ (command_stays lanes lane l l'' at same) begun_then begun_early v told_v (once_same once.0) opening known)
        (λ over. known_step f c fl cl limits lane lane refs refs' objects objects' old new lanes (set lanes lane l'') acts_ (command_stays lanes lane l l'' at same) begun_then begun_early v told_v
        (length l.replies.items) x.words l.task over.0 over.1 over.4 kept.sound (not_blocked over.0 over.2) (counts_none c _ objects' over.1 over.0 over.2 x.did.1)
        (λ why is. (let live : IsLive (came.Halted why) old.books.halted new.books.halted = subst (λ (o : Outcome). IsLive o old.books.halted new.books.halted) is over.4.step.live in live))
        (command_stays lanes lane l l'' at same lane (length l.replies.items) x.words (l, at, x.next))
        (inl (r, to_new lanes lane l l'' at same r grows, its_start)) opening known)
        x.did.3

    pub counted_given : HasAsMany v.now objects → HasAsMany (acts_.does v told_v).0.now objects'
    counted_given has =
        let does = acts_.does v told_v in
        subst (HasAsMany does.0.now) (sym x.did.1) (many_left old.books new.books acts_.out v does.0 (only_of acts_) (acts_.removal.one v told_v) objects has)

    pub alone_given : ((u : View) → f.was new.fs new.books.opened u → NoHashCollisionOn (WasBrought c.means behind_) u.now) → (u : View) → f.was old.fs old.books.opened u → NoHashCollisionOn (WasBrought c.means before) u.now
    alone_given = alone_before f c fl cl limits lane lane refs refs' objects objects' old new lanes (set lanes lane l'') acts_ (command_stays lanes lane l l'' at same) begun_then begun_early v told_v

    pub sound_given : AreStored f c.means before v → IsSoundStore limits v.now
    sound_given stored = sound_now f c fl cl limits lane lane refs refs' objects objects' old new lanes (set lanes lane l'') acts_ (command_stays lanes lane l l'' at same) begun_then begun_early v told_v
        stored (opened_by old.books.opened old.books.history.items (f.clock old.fs) kept.sound.ordered.ascends)

    pub no_outside_given : AreStored f c.means before v → ((u : View) → f.was new.fs new.books.opened u → NoHashCollisionOn (WasBrought c.means behind_) u.now) → (n : ℕ) (a : A) → c.means.shows (placed (since_in limits old.books n) (now_of old.books)) v a x.words → c.means.outside a → ⊥
    no_outside_given stored alone n a = no_outside f c fl cl limits lane lane refs refs' objects objects' old new lanes (set lanes lane l'') acts_ (command_stays lanes lane l l'' at same) begun_then begun_early v told_v
        stored (opened_by old.books.opened old.books.history.items (f.clock old.fs) kept.sound.ordered.ascends) alone (placed (since_in limits old.books n) (now_of old.books)) a x.words refl
