-- What an act keeps of each lane.
use Rattle.std.proofs.Common.{◌≡◌, ◌≢◌, ◌⊎◌, ⊎_elim, ◌≤◌, ℕ, refl, sym, ◌∙◌, ap, subst, arith, List, [], ◌∷◌, ◌++◌, take, length, length-append, Option, Some, None}
use Rattle.std.proofs.Math.Seq.{take-length}
use Rattle.std.specs.Prelude.{vec_capacity}
use Rattle.ost_types.specs.declared.limits.Limits.{Limits}
use Rattle.rely_guarantee.specs.declared.books.Start.{Start}
use Rattle.rely_guarantee.specs.declared.books.Base.{Base}
use Rattle.rely_guarantee.specs.declared.books.Entry.{Entry}
use Rattle.rely_guarantee.specs.declared.event.Event.{Event}
use Rattle.rely_guarantee.specs.declared.event.Event.TheVariants.{SetRef, DropRef, Pruned, SetDeployments}
use Rattle.rely_guarantee.specs.declared.kind.Halt.{Halt}
use Rattle.rely_guarantee.specs.declared.kind.Halt.TheVariants as halt
use Rattle.rely_guarantee.specs.declared.kind.Outcome.TheVariants as came
use Rattle.rely_guarantee.specs.Books.{Books, Spared, books_of}
use Rattle.rely_guarantee.specs.Laws.{NotPending}
use Rattle.rely_guarantee.specs.State.{SystemState, opening_state}
use Rattle.rely_guarantee.proofs.Acting.{runs_kept}
use Rattle.ref_book.specs.declared.book.RefBook.{RefBook}
use Rattle.ref_book.specs.Tracks.{HasEventRoom, HasRoom}
use Rattle.command.specs.declared.ended.Ended.{Ended}
use Rattle.command.specs.declared.ended.Ended.TheVariants as ended
use Rattle.command.specs.Since.{Since, begun_in, placed}
use Rattle.lane_system.specs.declared.lane.Lane.{Lane}
use Rattle.lane_system.specs.declared.lane.Reply.{Reply}
use Rattle.lane_system.specs.declared.lane.Running.{Running}
use Rattle.lane_system.specs.Acts.{Acts}
use Rattle.lane_system.specs.Family.{Family, FsSpec}
use Rattle.lane_system.specs.Kept.{IsLane, LaneKept, RunsIn, Started}
use Rattle.lane_system.specs.LaneActs.{Takes, task_start}
use Rattle.lane_system.specs.Lanes.{IsAt, IsNext}
use Rattle.lane_system.specs.Replies.{Answers, EndsBy, IfAnswer, IsReply, IsTold, Knows}
use Rattle.lane_system.specs.States.{now_of, since_in, state_in}
use Rattle.lane_system.proofs.Family.{FamilyLaws, FsLaws}
use Rattle.lane_system.proofs.Giving.{Gives}
use Rattle.lane_system.proofs.Places.{at_split}
use Rattle.lane_system.proofs.Prefixes.{longer, reply_stays, since_is, state_all, state_is}
use Rattle.lane_system.proofs.Taking.{told, told_after}

-- room for a change goes on
event_room : (refs refs' : RefBook) → (e : Event) → ((name : List ℕ) → HasRoom refs name → HasRoom refs' name) → HasEventRoom refs e → HasEventRoom refs' e
event_room refs refs' (SetRef name seen commit) rooms has = rooms name has
event_room refs refs' (DropRef name seen) rooms has = rooms name has
event_room refs refs' (Pruned depth roots held removed) rooms has = tt
event_room refs refs' (SetDeployments change list) rooms has = tt

-- what ended all commands goes on to be what ended them, since nothing is done any more
pub ends_stay : {F A : Type 0} (f : FsSpec F) (old new : Base F) → ((why : Halt) → old.books.halted ≡ Some why → new ≡ old) → (x : Ended A) → EndsBy old.books.halted (f.refused old.fs) (f.faults old.fs) x → EndsBy new.books.halted (f.refused new.fs) (f.faults new.fs) x
ends_stay f old new over (ended.Halted n) is = subst (λ (b : Base _). (b.books.halted ≡ Some halt.Failed) × (n ≡ f.faults b.fs)) (sym (over halt.Failed is.0)) is
ends_stay f old new over (ended.Outside path) is = subst (λ (b : Base _). (b.books.halted ≡ Some halt.Strayed) × (f.refused b.fs ≡ Some path)) (sym (over halt.Strayed is.0)) is
ends_stay f old new over (ended.Answered a) is = tt
ends_stay f old new over ended.NoMemory is = tt
ends_stay f old new over ended.DiskFault is = tt

others_idle : (actor lane mine : ℕ) (b b' : Books) → mine ≢ lane → Spared actor lane b b' → NotPending mine b → NotPending mine b'
others_idle actor lane mine b b' other spared none p is = ⊎_elim (λ was. none p was) (λ theirs e. other (sym e ∙ theirs)) (spared.shown p is)

module _ {F T W A : Type 0} (f : FsSpec F) (c : Family T W A) (fl : FsLaws f) (cl : FamilyLaws c) (limits : Limits) (actor lane : ℕ) (refs refs' : RefBook) (old new : Base F) (acts : Acts f limits actor lane refs refs' old new) where
  -- a command that began is so while the history grows
  pub started_stays : (l : Lane T W A) (r : Running T) → Started c limits refs old.books l r → Started c limits refs' new.books l r
  started_stays l r s =
      let same = since_is actor lane old.books new.books acts.books limits r.start s.early in
      record {
        words = s.words;
        next = s.next;
        early = omega (arith, s.early, longer actor lane old.books new.books acts.books);
        later = s.later;
        after = subst (λ (x : Since). c.doing.pursues x s.words r.work) (sym same) s.after;
        room = λ e changes. event_room refs refs' e acts.rooms (s.room e (subst (λ (x : Since). c.means.changes x s.words e) same changes));
      }

  pub replies_stay : (mine number : ℕ) (words : W) (r : Reply A) → IsReply (IsTold f.view) c.means limits (opening_state old.books.start) old.books.history.items mine number words r → IsReply (IsTold f.view) c.means limits (opening_state new.books.start) new.books.history.items mine number words r
  replies_stay mine number words r is =
      subst (λ (b : Start). IsReply (IsTold f.view) c.means limits (opening_state b) new.books.history.items mine number words r) (sym acts.books.start)
      (subst (λ (h : List Entry). IsReply (IsTold f.view) c.means limits (opening_state old.books.start) h mine number words r) (sym acts.books.grows)
      (reply_stays (IsTold f.view) c.means limits (opening_state old.books.start) old.books.history.items acts.books.more mine number words r is))

  module _ (mine : ℕ) (not : mine ≢ actor) (other : mine ≢ lane) where
    others_run : (o : Option (Running T)) → RunsIn c mine (f.view old.fs) old.books o → RunsIn c mine (f.view new.fs) new.books o
    others_run None none = others_idle actor lane mine (books_of old.books) (books_of new.books) other acts.books none
    others_run (Some r) runs = runs_kept cl.tasks f.view fl.is.told actor lane mine r.work old.fs new.fs (books_of old.books) (books_of new.books) not other acts.does acts.books runs

    pub others_kept : (over : (why : Halt) → old.books.halted ≡ Some why → new ≡ old) (l : Lane T W A) → LaneKept f c limits mine refs old l → LaneKept f c limits mine refs' new l
    others_kept over l k = record {
      is = k.is;
      runs = λ live. others_run l.task (k.runs (acts.live live));
      started = λ r is. started_stays l r (k.started r is);
      replies = λ number r at. (let x = k.replies number r at in (x.0, x.1, replies_stay mine number x.0 r x.2));
      in_order = k.in_order;
      halts = λ number r at. ends_stay f old new over r.answer (k.halts number r at);
    }

module _ {F T W A : Type 0} (f : FsSpec F) (c : Family T W A) (fl : FsLaws f) (cl : FamilyLaws c) (limits : Limits) (actor lane : ℕ) (refs refs' : RefBook) (objects : ℕ) (old new : Base F) (acts : Acts f limits actor lane refs refs' old new) (l l' : Lane T W A) (words : W) (next : IsNext l words) (same : l'.words ≡ l.words)
    (k : LaneKept f c limits lane refs old l) where
  -- the lane's replies were given before its command began
  pub later_start : (number : ℕ) (q : Reply A) → IsAt l.replies.items number q → (o : Option (Running T)) → l.task ≡ o → q.place ≤ task_start old.books.history.items o
  later_start number q at None is = (k.replies number q at).2.within
  later_start number q at (Some r) is = (k.started r is).later number q at

  is_lane : l'.replies ≡ l.replies → IsLane c.means limits l'
  is_lane replies = record {
    fits = λ number d at. k.is.fits number d (subst (λ xs. IsAt xs number d) (ap (λ v. v.items) same) at);
    short = subst (λ xs. length xs ≤ 64) (sym (ap (λ v. v.items) same)) k.is.short;
    within = subst (λ x. length x.items ≤ length l'.words.items) (sym replies) (subst (λ x. length l.replies.items ≤ length x.items) (sym same) k.is.within);
    room = subst (λ x. length l'.words.items ≤ vec_capacity x) (sym replies) (subst (λ x. length x.items ≤ vec_capacity l.replies) (sym same) k.is.room);
  }

  next' : l'.replies ≡ l.replies → (d : W) → IsNext l d → IsNext l' d
  next' replies d at = subst (λ x. IsAt l'.words.items (length x.items) d) (sym replies) (subst (λ x. IsAt x.items (length l.replies.items) d) (sym same) at)

  -- one whose command goes on
  module _ (t' : T) (replies : l'.replies ≡ l.replies) (task : l'.task ≡ Some (record { work = t'; start = task_start old.books.history.items l.task }))
      (y : Takes f c limits actor lane (length l.replies.items) refs refs' objects old new words l.task came.More t') where
    abbrev r' : Running T
    r' = record { work = t'; start = task_start old.books.history.items l.task }

    started_more : Started c limits refs' new.books l' r'
    started_more =
        let same_since = since_is actor lane old.books new.books acts.books limits r'.start y.early in
        record {
          words = words;
          next = next' replies words next;
          early = omega (arith, y.early, longer actor lane old.books new.books acts.books);
          later = λ number q at. later_start number q (subst (λ x. IsAt x.items number q) replies at) l.task refl;
          after = subst (λ (x : Since). c.doing.pursues x words t') (sym same_since)
              (cl.commands.steps.goes_on (since_in limits old.books r'.start) words (told f c fl cl limits actor lane (length l.replies.items) refs refs' objects old new words l.task came.More t' y) t'
              (told_after f c fl cl limits actor lane (length l.replies.items) refs refs' objects old new words l.task came.More t' y) y.step.steps);
          room = λ e changes. event_room y.between refs' e y.step.rooms (y.room e (subst (λ (x : Since). c.means.changes x words e) same_since changes));
        }

    pub kept_more : LaneKept f c limits lane refs' new l'
    kept_more = record {
      is = is_lane replies;
      runs = λ live. subst (RunsIn c lane (f.view new.fs) new.books) (sym task) y.step.acts.tells;
      started = λ r is. (let one : Some r' ≡ Some r = sym task ∙ is in let e : r' ≡ r = cc in subst (Started c limits refs' new.books l') e started_more);
      replies = λ number r at. (let x = k.replies number r (subst (λ z. IsAt z.items number r) replies at) in (x.0, subst (λ z. IsAt z.items number x.0) (sym same) x.1, replies_stay f c fl cl limits actor lane refs refs' old new acts lane number x.0 r x.2));
      in_order = λ number after_ r q at bt lt. k.in_order number after_ r q (subst (λ z. IsAt z.items number r) replies at) (subst (λ z. IsAt z.items after_ q) replies bt) lt;
      halts = λ number r at. ends_stay f old new (λ why over. absurd (let z : Some why ≡ None = sym over ∙ y.live in cc)) r.answer (k.halts number r (subst (λ z. IsAt z.items number r) replies at));
    }

  -- and one whose command has its reply
  module _ (x : Ended A) (start : ℕ) (is_start : start ≡ task_start old.books.history.items l.task) (early : start ≤ length old.books.history.items) (task : l'.task ≡ None) (g : Gives f c limits lane (length l.replies.items) objects old new words start x)
      (r : Reply A) (answered : r.answer ≡ x) (begun : r.start ≡ start) (place : r.place ≡ length new.books.history.items) (given : l'.replies.items ≡ l.replies.items ++ r ∷ []) (room : vec_capacity l.replies ≤ vec_capacity l'.replies) where
    its_reply : IsReply (IsTold f.view) c.means limits (opening_state new.books.start) new.books.history.items lane (length l.replies.items) words r
    its_reply =
        let s : state_in new.books r.start ≡ state_in old.books start = ap (state_in new.books) begun ∙ state_is actor lane old.books new.books acts.books start early in
        let p : state_in new.books r.place ≡ now_of new.books = state_all new.books r.place place in
        let all : take r.place new.books.history.items ≡ new.books.history.items = ap (λ n. take n new.books.history.items) place ∙ take-length new.books.history.items in
        record {
          begun = omega (arith, begun, place, early, longer actor lane old.books new.books acts.books);
          within = omega (arith, place);
          answer =
              subst (λ (z : SystemState). IfAnswer (Answers c.means lane (length l.replies.items) (placed (begun_in limits z) (state_in new.books r.place)) (take r.place new.books.history.items) words) r.answer) (sym s)
              (subst (λ (z : SystemState). IfAnswer (Answers c.means lane (length l.replies.items) (placed (begun_in limits (state_in old.books start)) z) (take r.place new.books.history.items) words) r.answer) (sym p)
              (subst (λ (h : List Entry). IfAnswer (Answers c.means lane (length l.replies.items) (placed (begun_in limits (state_in old.books start)) (now_of new.books)) h words) r.answer) (sym all)
              (subst (IfAnswer (Answers c.means lane (length l.replies.items) (placed (since_in limits old.books start) (now_of new.books)) new.books.history.items words)) (sym answered) g.answer)));
          known = λ is_told.
              subst (λ (z : SystemState). Knows c.means (placed (begun_in limits z) (state_in new.books r.place)) words r.answer) (sym s)
              (subst (λ (z : SystemState). Knows c.means (placed (begun_in limits (state_in old.books start)) z) words r.answer) (sym p)
              (subst (Knows c.means (placed (since_in limits old.books start) (now_of new.books)) words) (sym answered) (g.known is_told)));
        }

    -- which reply it is
    pub reply_split : (number : ℕ) (q : Reply A) → IsAt l'.replies.items number q → IsAt l.replies.items number q ⊎ ((number ≡ length l.replies.items) × (q ≡ r))
    reply_split number q at = at_split l.replies.items r q number (subst (λ xs. IsAt xs number q) given at)

    pub kept_given : LaneKept f c limits lane refs' new l'
    kept_given = record {
      is = record {
        fits = λ number d at. k.is.fits number d (subst (λ xs. IsAt xs number d) (ap (λ v. v.items) same) at);
        short = subst (λ xs. length xs ≤ 64) (sym (ap (λ v. v.items) same)) k.is.short;
        within = omega (arith, next.0, ap length given, length-append l.replies.items (r ∷ []), ap (λ v. length v.items) same);
        room = omega (arith, k.is.room, room, ap (λ v. length v.items) same);
      };
      runs = λ live. subst (RunsIn c lane (f.view new.fs) new.books) (sym task) (g.idle live);
      started = λ q is. absurd (let z : None ≡ Some q = sym task ∙ is in cc);
      replies = λ number q at. ⊎_elim
          (λ before. (let z = k.replies number q before in (z.0, subst (λ v. IsAt v.items number z.0) (sym same) z.1, replies_stay f c fl cl limits actor lane refs refs' old new acts lane number z.0 q z.2)))
          (λ here. (
            words,
            subst (λ n. IsAt l'.words.items n words) (sym here.0) (subst (λ v. IsAt v.items (length l.replies.items) words) (sym same) next),
            subst (λ n. IsReply (IsTold f.view) c.means limits (opening_state new.books.start) new.books.history.items lane n words q) (sym here.0) (subst (IsReply (IsTold f.view) c.means limits (opening_state new.books.start) new.books.history.items lane (length l.replies.items) words) (sym here.1) its_reply),
          ))
          (reply_split number q at);
      in_order = λ number after_ q w at bt lt. ⊎_elim
          (λ before. ⊎_elim
          (λ too. k.in_order number after_ q w before too lt)
          (λ here. omega (arith, later_start number q before l.task refl, ap (λ (z : Reply A). z.start) here.1, begun, is_start))
          (reply_split after_ w bt))
          (λ here. ⊎_elim
          (λ before. absurd (omega (arith, before.0, here.0, lt)))
          (λ too. absurd (omega (arith, here.0, too.0, lt)))
          (reply_split after_ w bt))
          (reply_split number q at);
      halts = λ number q at. ⊎_elim
          (λ before. ends_stay f old new g.over q.answer (k.halts number q before))
          (λ here. (let e : q.answer ≡ x = ap (λ (z : Reply A). z.answer) here.1 ∙ answered in subst (EndsBy new.books.halted (f.refused new.fs) (f.faults new.fs)) (sym e) g.halts))
          (reply_split number q at);
    }
