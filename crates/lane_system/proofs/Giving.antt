-- What the answer of an act is, and how it leaves the books.
use Rattle.std.proofs.Common.{◌≡◌, ◌≢◌, ◌⊎◌, inl, inr, ⊎_elim, ◌≤◌, ℕ, true, false, nat_eq, Contains, refl, sym, ◌∙◌, ap, subst, arith, List, [], ◌∷◌, ◌++◌, length, Option, Some, None}
use Rattle.std.specs.Prelude.{not}
use Rattle.std.specs.List.{filter}
use Rattle.std.proofs.lemmas.Bool.Decides.{nat_tests}
use Rattle.std.proofs.lemmas.List.Elements.{All-contains, filter_passes}
use Rattle.ost_types.specs.declared.limits.Limits.{Limits}
use Rattle.fs_trait.specs.declared.task.StepResult.TheVariants as turn
use Rattle.fs_trait.specs.View.{View}
use Rattle.repo_layout.specs.RefFile.{IsSum}
use Rattle.rely_guarantee.specs.declared.books.Base.{Base}
use Rattle.rely_guarantee.specs.declared.books.Claim.{Claim}
use Rattle.rely_guarantee.specs.declared.books.Entry.{Entry}
use Rattle.rely_guarantee.specs.declared.books.Pending.{Pending}
use Rattle.rely_guarantee.specs.declared.event.Event.{Event}
use Rattle.rely_guarantee.specs.declared.kind.Halt.{Halt}
use Rattle.rely_guarantee.specs.declared.kind.Halt.TheVariants as halt
use Rattle.rely_guarantee.specs.declared.kind.Outcome.{Outcome}
use Rattle.rely_guarantee.specs.declared.kind.Outcome.TheVariants as came
use Rattle.rely_guarantee.specs.Books.{Books, Free, books_of}
use Rattle.rely_guarantee.specs.Claiming.{is_other, of_others}
use Rattle.rely_guarantee.specs.Exact.{Opens}
use Rattle.rely_guarantee.specs.Laws.{IsMakeDurable, NotPending, Kind, Quiet, Store, Take, Claim as ClaimOf, Publish, Published as PublishedStep, Remove, MakeDurable}
use Rattle.rely_guarantee.specs.Rely.{Interference}
use Rattle.rely_guarantee.specs.SystemInvariant.{SystemInvariant}
use Rattle.ref_book.specs.declared.book.RefBook.{RefBook}
use Rattle.command.specs.declared.ended.Ended.{Ended}
use Rattle.command.specs.declared.ended.Ended.TheVariants as ended
use Rattle.command.specs.ChangeLaws.{IsRightSince}
use Rattle.command.specs.Removing.{IsAlone}
use Rattle.command.specs.Sees.{listed_behind}
use Rattle.command.specs.Since.{Since, placed}
use Rattle.command.specs.Sound.{IsSoundStore}
use Rattle.lane_system.specs.declared.lane.Running.{Running}
use Rattle.lane_system.specs.Family.{Family, FsSpec}
use Rattle.lane_system.specs.LaneActs.{Takes, task_start}
use Rattle.lane_system.specs.Lanes.{IsAt}
use Rattle.lane_system.specs.Removals.{swept_in}
use Rattle.lane_system.specs.Replies.{Answers, EndsBy, HasMade, IfAnswer, IsCaused, IsCutOff, IsTold, Knows, OfAnswer, Shown}
use Rattle.lane_system.specs.States.{now_of, since_in}
use Rattle.lane_system.specs.Steps.{HasEnded, IsEndedAs, Stepped}
use Rattle.lane_system.proofs.Relisting.{listed_at}
use Rattle.lane_system.proofs.Endings.{IsMine, IsSettled, answer_only, cut_off, ends, ends_by, failed_only, halted_only, outside_only, pending_by}
use Rattle.lane_system.proofs.Family.{FamilyLaws, FsLaws}
use Rattle.lane_system.proofs.Histories.{EndsUnpublished, over_idle}
use Rattle.lane_system.proofs.Locking.{exclusive_ended, exclusive_from}
use Rattle.lane_system.proofs.Places.{at_split}
use Rattle.lane_system.proofs.Removals.{none_of}
use Rattle.lane_system.proofs.LastSteps.{sees}
use Rattle.lane_system.proofs.Sweeping.{swept_holder}
use Rattle.lane_system.proofs.Taking.{told, told_after, told_facts, told_holds}

-- the change that the command made is the last one, and no other answer says so
abbrev pub Grows : {A : Type 0} → (A → Type 0) → ℕ → ℕ → Ended A → List Entry → List Entry → Type 0
Grows Makes lane number x old new = ((new ≡ old) × (OfAnswer Makes x → ⊥)) ⊎ ((e : Entry) × (new ≡ old ++ e ∷ []) × (e.lane ≡ lane) × (e.command ≡ number) × OfAnswer Makes x)

pub record Gives {F T W A : Type 0} (f : FsSpec F) (c : Family T W A) (limits : Limits) (lane number objects : ℕ) (old new : Base F) (words : W) (start : ℕ) (x : Ended A) : Type 0 where
  pub answer : IfAnswer (Answers c.means lane number (placed (since_in limits old.books start) (now_of new.books)) new.books.history.items words) x
  pub known : IsTold f.view → Knows c.means (placed (since_in limits old.books start) (now_of new.books)) words x
  pub shown : Shown c.means (placed (since_in limits old.books start) (now_of old.books)) (f.view old.fs) old.books.halted (f.faults old.fs) (f.faults new.fs) words x
  pub remains : (v w : View) → f.view old.fs ≡ Some v → f.view new.fs ≡ Some w → IfAnswer (λ a. c.means.remains (placed (since_in limits old.books start) (now_of new.books)) w a words) x
  pub full : IfAnswer (λ a. c.means.full a → limits.objects ≤ objects) x
  -- nothing of the lane is pending, unless all were ended
  pub idle : new.books.halted ≡ None → NotPending lane (books_of new.books)
  pub halts : EndsBy new.books.halted (f.refused new.fs) (f.faults new.fs) x
  pub over : (why : Halt) → old.books.halted ≡ Some why → new ≡ old
  -- where the view is told no call is refused for what stands at its path
  pub explained : old.books.halted ≡ None → new.books.halted ≡ Some halt.Strayed → ¬ (IsTold f.view)
  pub stays : (v w : View) → f.view old.fs ≡ Some v → f.view new.fs ≡ Some w → IsSoundStore limits v.now → IfAnswer (λ a. c.means.stays (since_in limits old.books start) [] a words w (books_of new.books)) x
  pub alone : (v : View) → f.view old.fs ≡ Some v → (commit : List ℕ) → IsSum commit → OfAnswer (λ a. c.means.lacks a commit) x → swept_in new.books ≡ []
  pub grows : Grows (λ a. c.means.makes a words) lane number x old.books.history.items new.books.history.items
  pub pending : (p : Pending) → new.books.pending ≡ Some p → (old.books.pending ≡ Some p) ⊎ ((p.lane ≡ lane) × (p.command ≡ number) × c.means.changes (since_in limits old.books start) words p.event)
  pub left : (p : Pending) → new.books.pending ≡ Some p → p.lane ≡ lane → IsCutOff (IsTold f.view) x
  -- the change that it made to last is the command's, and what that one leaves in the store stands
  pub kept : (opening v w : View) → f.view old.fs ≡ Some v → f.view new.fs ≡ Some w → IsRightSince opening v → (k : ℕ) (e : Entry) → IsAt new.books.history.items k e → length old.books.history.items ≤ k
      → c.means.changes (since_in limits old.books start) words e.event × c.means.keeps (since_in limits old.books start) opening [] words w

-- at its end a lane has no claims
not_own : (lane : ℕ) (x : Claim) → is_other lane x ≡ true → x.lane ≢ lane
not_own lane x is same =
    let here : nat_eq x.lane lane ≡ true = grind (arith, nat_tests) in
    let n : false ≡ true = sym (ap not here) ∙ is in cc

no_claims : (lane : ℕ) (old new : List Claim) → new ≡ of_others lane old → (x : Claim) → Contains new x → x.lane ≢ lane
no_claims lane old new is x has = not_own lane x (All-contains (λ k. is_other lane k ≡ true) (filter (is_other lane) old) x (filter_passes (is_other lane) old) (subst (λ xs. Contains xs x) is has))

-- of an answer, if there is one
pub if_answer : {A : Type 0} (P : A → Type 0) (x : Ended A) → ((a : A) → x ≡ ended.Answered a → P a) → IfAnswer P x
if_answer P (ended.Answered a) each = each a refl
if_answer P ended.NoMemory each = tt
if_answer P ended.DiskFault each = tt
if_answer P (ended.Outside path) each = tt
if_answer P (ended.Halted n) each = tt

pub is_answer : {A : Type 0} (P : A → Type 0) (x : Ended A) → OfAnswer P x → (a : A) × (x ≡ ended.Answered a) × P a
is_answer P (ended.Answered a) p = (a, refl, p)
is_answer P ended.NoMemory p = absurd p
is_answer P ended.DiskFault p = absurd p
is_answer P (ended.Outside path) p = absurd p
is_answer P (ended.Halted n) p = absurd p

-- such a step finds the lock of those that remove free
alone_free : (k : Kind) (lane : ℕ) (b : Books) → IsAlone k → Opens k lane b → Free b.exclusive lane
alone_free Store lane b alone opens = opens
alone_free (Take wants) lane b (inl asks) opens = (opens.exclusive asks).0
alone_free (Take wants) lane b (inr (inl asks)) opens = (opens.turn asks).0
alone_free (Take wants) lane b (inr (inr (inl asks))) opens = opens.shared asks
alone_free (Take wants) lane b (inr (inr (inr asks))) opens = opens.pin asks
alone_free (Publish e) lane b alone opens = opens.0
alone_free Quiet lane b alone opens = absurd alone
alone_free (ClaimOf name) lane b alone opens = absurd alone
alone_free (PublishedStep e n) lane b alone opens = absurd alone
alone_free (Remove e n) lane b alone opens = absurd alone
alone_free (MakeDurable e) lane b alone opens = absurd alone

module _ {F T W A : Type 0} (f : FsSpec F) (c : Family T W A) (fl : FsLaws f) (cl : FamilyLaws c) (limits : Limits) (actor lane number : ℕ) (refs refs' : RefBook) (objects : ℕ) (old new : Base F) (words : W) (task : Option (Running T)) (outcome : Outcome) (t' : T)
    (y : Takes f c limits actor lane number refs refs' objects old new words task outcome t') (sound : SystemInvariant f.view f.clock f.spare f.was old) (mine : IsMine lane number old.books)
    (end : HasEnded outcome) (x : Ended A) (by : IsEndedAs c.doing.answer (f.refused new.fs) outcome t' (f.faults new.fs) x) where
  abbrev start : ℕ
  start = task_start old.books.history.items task

  abbrev since : Since
  since = since_in limits old.books start

  abbrev t : T
  t = told f c fl cl limits actor lane number refs refs' objects old new words task outcome t' y

  after : c.doing.pursues since words t
  after = told_after f c fl cl limits actor lane number refs refs' objects old new words task outcome t' y

  facts : (v : View) → f.view old.fs ≡ Some v → c.tasks.facts lane t v (books_of old.books)
  facts = told_facts f c fl cl limits actor lane number refs refs' objects old new words task outcome t' y

  its_end : ((outcome ≡ came.Done) × IsSettled lane number (c.tasks.kind t) old.books new.books) ⊎ ((new.books.history.items ≡ old.books.history.items) × (outcome ≡ came.Done → IsMakeDurable (c.tasks.kind t) → ⊥))
  its_end = ends lane number (f.clock new.fs) old.books new.books mine (c.tasks.kind t) outcome end (told_holds f c fl cl limits actor lane number refs refs' objects old new words task outcome t' y) y.step.booked

  -- an answer of the family
  module _ (a : A) (is : x ≡ ended.Answered a) where
    only : (outcome ≡ came.Done) × (c.doing.answer t' ≡ Some a)
    only = answer_only c.doing.answer (f.refused new.fs) t' (f.faults new.fs) outcome a (subst (IsEndedAs c.doing.answer (f.refused new.fs) outcome t' (f.faults new.fs)) is by)

    done : Stepped f c.tasks actor lane number y.between refs' came.Done t t' old new
    done = subst (λ (o : Outcome). Stepped f c.tasks actor lane number y.between refs' o t t' old new) only.0 y.step

    makes_it : c.means.makes a words → HasMade lane number (λ e. c.means.changes since words e × c.means.tells a e) new.books.history.items
    makes_it makes = ⊎_elim
        (λ s. (old.books.history.items, s.1.entry, s.1.grows, s.1.owner, s.1.command, (cl.commands.changes.settled since words t s.1.entry.event after s.1.kind, cl.commands.changes.tells since words t t' a s.1.entry.event after done.steps only.1 s.1.kind)))
        (λ n. absurd (cl.commands.changes.makes_not since words t t' a after done.steps only.1 (n.1 only.0) makes))
        its_end

    answer_a : Answers c.means lane number (placed since (now_of new.books)) new.books.history.items words a
    answer_a = (cl.commands.answers.says since (now_of new.books) words t t' a after done.steps only.1, makes_it)

    shows_a : (v : View) → f.view old.fs ≡ Some v → IsSoundStore limits v.now → c.means.shows (placed since (now_of old.books)) v a words
    shows_a v is_v sound_v = let l = done.tells v is_v in cl.commands.answers.shows since (now_of old.books) lane words t t' v l.0 (books_of old.books) a refl after (facts v is_v) l.2 only.1 sound_v

    -- which deployments boot then
    listed_then : outcome ≡ came.Done → (now_of new.books).deployments ≡ listed_behind (c.tasks.kind t) (books_of old.books)
    listed_then is_done = listed_at lane number (f.clock new.fs) old.books new.books y.step.acts.books.start (c.tasks.kind t) outcome is_done its_end

    remains_a : (v w : View) → f.view old.fs ≡ Some v → f.view new.fs ≡ Some w → c.means.remains (placed since (now_of new.books)) w a words
    remains_a v w is_v is_w =
        let l = done.tells v is_v in
        let one : Some l.0 ≡ Some w = sym l.1 ∙ is_w in
        let e : l.0 ≡ w = cc in
        cl.commands.answers.remains since (now_of new.books) lane words t t' v w (books_of old.books) a (listed_then only.0) after (facts v is_v) (subst (c.tasks.leaves t (turn.Done tt) t' v) e l.2) only.1

    knows_a : IsTold f.view → c.means.knows (placed since (now_of new.books)) a words
    knows_a is_told =
        let v = fl.is.told is_told.0 old.fs is_told.1 is_told.2 in
        let l = done.tells v.0 v.1 in
        cl.commands.answers.knows since (now_of new.books) lane words t t' v.0 l.0 (books_of old.books) a after (facts v.0 v.1) l.2 only.1
        (sees lane number (f.clock new.fs) old.books new.books sound.ordered.agrees y.step.acts.books.start sound.ordered.owner v.0 l.0 (sound.stands v.0 v.1) (y.step.acts.sound.stands l.0 l.1) (fl.tree old.fs v.0 v.1) (fl.tree new.fs l.0 l.1)
        (c.tasks.kind t) (told_holds f c fl cl limits actor lane number refs refs' objects old new words task outcome t' y) (done.opens (λ held. cc)) done.booked)

    full_a : c.means.full a → limits.objects ≤ objects
    full_a full = cl.commands.answers.full (record { objects = objects }) since words y.work t' a y.after done.steps only.1 full

    -- no removal goes on where it tells that a commit isn't there
    alone_a : (v : View) → f.view old.fs ≡ Some v → (commit : List ℕ) → IsSum commit → c.means.lacks a commit → swept_in new.books ≡ []
    alone_a v is_v commit sum lacks = none_of (swept_in new.books) (λ o has. (let h = swept_holder new.books o has in
        let free = alone_free (c.tasks.kind t) lane (books_of old.books) (let l = done.tells v is_v in cl.commands.answers.lacks_alone since lane words t t' v l.0 (books_of old.books) a commit after (facts v is_v) l.2 only.1 lacks sum) (done.opens (λ held. cc)) in
        let own : h.pending.lane ≡ lane = ⊎_elim (λ mine_. mine_) (λ held. free h.pending.lane held) (exclusive_from (c.tasks.kind t) lane h.pending.lane came.Done old.books new.books (λ held. cc) done.locks h.alone) in
        exclusive_ended (c.tasks.kind t) lane old.books new.books done.locks (subst (λ n. new.books.exclusive ≡ Some n) own h.alone)))

    stays_a : (v w : View) → f.view old.fs ≡ Some v → f.view new.fs ≡ Some w → IsSoundStore limits v.now → c.means.stays since [] a words w (books_of new.books)
    stays_a v w is_v is_w sound_v =
        let l = done.tells v is_v in
        let z = y.step.acts.does v is_v in
        let one : Some l.0 ≡ Some w = sym l.1 ∙ is_w in
        let e : l.0 ≡ w = cc in
        let two : Some z.0 ≡ Some w = sym z.1 ∙ is_w in
        let g : z.0 ≡ w = cc in
        cl.commands.answers.left since actor lane words t t' v w (books_of old.books) (books_of new.books) a after (facts v is_v) (subst (c.tasks.leaves t (turn.Done tt) t' v) e l.2) only.1
        (subst (λ u. Interference actor lane v (books_of old.books) u (books_of new.books)) g z.2) (no_claims lane old.books.claims.items new.books.claims.items done.claimed) sound_v

  -- where the view is told no step is refused for what stands at a path
  never_strays : outcome ≡ came.Halted halt.Strayed → ¬ (IsTold f.view)
  never_strays is is_told =
      let v = fl.is.told is_told.0 old.fs is_told.1 is_told.2 in
      let s = subst (λ (o : Outcome). Stepped f c.tasks actor lane number y.between refs' o t t' old new) is y.step in
      let r = s.tells v.0 v.1 in
      r.2 (cl.commands.steps.refused _ _ _ lane t v.0 (books_of old.books) r.0 (fl.tree old.fs v.0 v.1) (sound.stands v.0 v.1) (facts v.0 v.1) r.1)

  caused_by : (z : Ended A) → IsEndedAs c.doing.answer (f.refused new.fs) outcome t' (f.faults new.fs) z → IsCaused old.books.halted (f.faults old.fs) (f.faults new.fs) z
  caused_by ended.DiskFault is =
      let failed = failed_only c.doing.answer (f.refused new.fs) t' (f.faults new.fs) outcome is in
      let s = subst (λ (o : Outcome). Stepped f c.tasks actor lane number y.between refs' o t t' old new) failed y.step in s.cause.1
  caused_by (ended.Halted n) is =
      let h = halted_only c.doing.answer (f.refused new.fs) t' (f.faults new.fs) outcome n is in
      let s = subst (λ (o : Outcome). Stepped f c.tasks actor lane number y.between refs' o t t' old new) h.0 y.step in inr s.cause.1
  caused_by (ended.Answered a) is = tt
  caused_by ended.NoMemory is = tt
  caused_by (ended.Outside path) is = tt

  knows : IsTold f.view → (z : Ended A) → x ≡ z → IsEndedAs c.doing.answer (f.refused new.fs) outcome t' (f.faults new.fs) z → Knows c.means (placed since (now_of new.books)) words z
  knows is_told (ended.Answered a) e is = knows_a a e is_told
  knows is_told (ended.Outside path) e is = never_strays (outside_only c.doing.answer (f.refused new.fs) t' (f.faults new.fs) outcome path is).0 is_told
  knows is_told ended.NoMemory e is = tt
  knows is_told ended.DiskFault e is = tt
  knows is_told (ended.Halted n) e is = tt

  -- nothing of it is pending, or all was ended
  ended_or : (o : Outcome) → o ≡ outcome → HasEnded o → NotPending lane (books_of new.books) ⊎ ((why : Halt) × (outcome ≡ came.Halted why))
  ended_or came.Done is e = inl (over_idle lane number (f.clock new.fs) old.books new.books (c.tasks.kind t) outcome (subst EndsUnpublished is tt) (told_holds f c fl cl limits actor lane number refs refs' objects old new words task outcome t' y) y.step.booked)
  ended_or (came.Refused r) is e = inl (over_idle lane number (f.clock new.fs) old.books new.books (c.tasks.kind t) outcome (subst EndsUnpublished is tt) (told_holds f c fl cl limits actor lane number refs refs' objects old new words task outcome t' y) y.step.booked)
  ended_or (came.Halted why) is e = inr (why, sym is)
  ended_or came.Blocked is e = absurd e
  ended_or came.More is e = absurd e

  halted_so : (why : Halt) → outcome ≡ came.Halted why → new.books.halted ≡ Some why
  halted_so why is = (let s = subst (λ (o : Outcome). Stepped f c.tasks actor lane number y.between refs' o t t' old new) is y.step in s.acts.tells)

  -- any other leaves that as it was
  still : (o : Outcome) (why : Halt) → o ≡ outcome → HasEnded o → ((reason : Halt) → o ≡ came.Halted reason → ⊥) → new.books.halted ≡ Some why → ⊥
  still came.Done why is e other over = (let s = subst (λ (p : Outcome). Stepped f c.tasks actor lane number y.between refs' p t t' old new) (sym is) y.step in let z : None ≡ Some why = sym y.live ∙ sym s.live ∙ over in cc)
  still (came.Refused r) why is e other over = (let s = subst (λ (p : Outcome). Stepped f c.tasks actor lane number y.between refs' p t t' old new) (sym is) y.step in let z : None ≡ Some why = sym y.live ∙ sym s.live ∙ over in cc)
  still (came.Halted reason) why is e other over = absurd (other reason refl)
  still came.Blocked why is e other over = absurd e
  still came.More why is e other over = absurd e

  -- only such an outcome ends all
  halted_by : (o : Outcome) (why : Halt) → o ≡ outcome → HasEnded o → new.books.halted ≡ Some why → outcome ≡ came.Halted why
  halted_by (came.Halted reason) why is e over =
      let one : Some reason ≡ Some why = sym (halted_so reason (sym is)) ∙ over in
      let same : reason ≡ why = cc in
      sym is ∙ ap came.Halted same
  halted_by came.Done why is e over = absurd (still came.Done why is tt (λ reason. λ z. cc) over)
  halted_by (came.Refused r) why is e over = absurd (still (came.Refused r) why is tt (λ reason. λ z. cc) over)
  halted_by came.Blocked why is e over = absurd e
  halted_by came.More why is e over = absurd e

  grows_so : Grows (λ a. c.means.makes a words) lane number x old.books.history.items new.books.history.items
  grows_so = ⊎_elim
      (λ s. inr (s.1.entry, s.1.grows, s.1.owner, s.1.command, made s.0 s.1.entry.event s.1.kind))
      (λ n. inl (n.0, λ makes. (let a = is_answer (λ a. c.means.makes a words) x makes in cl.commands.changes.makes_not since words t t' a.0 after (done a.0 a.1).steps (only a.0 a.1).1 (n.1 (only a.0 a.1).0) a.2)))
      its_end
    where
      made : outcome ≡ came.Done → (e : Event) → c.tasks.kind t ≡ MakeDurable e → OfAnswer (λ a. c.means.makes a words) x
      made is e kind = made_by x refl (subst (λ (o : Outcome). IsEndedAs c.doing.answer (f.refused new.fs) o t' (f.faults new.fs) x) is by)
        where
          made_by : (z : Ended A) → x ≡ z → IsEndedAs c.doing.answer (f.refused new.fs) came.Done t' (f.faults new.fs) x → OfAnswer (λ a. c.means.makes a words) z
          made_by (ended.Answered a) q so = cl.commands.changes.makes since words t t' a after (done a q).steps (only a q).1 (subst IsMakeDurable (sym kind) tt)
          made_by ended.NoMemory q so = absurd (subst (OfAnswer _) q so)
          made_by ended.DiskFault q so = absurd (subst (OfAnswer _) q so)
          made_by (ended.Outside path) q so = absurd (subst (OfAnswer _) q so)
          made_by (ended.Halted n) q so = absurd (subst (OfAnswer _) q so)

  kept_so : (opening v w : View) → f.view old.fs ≡ Some v → f.view new.fs ≡ Some w → IsRightSince opening v → (k : ℕ) (e : Entry) → IsAt new.books.history.items k e → length old.books.history.items ≤ k → c.means.changes since words e.event × c.means.keeps since opening [] words w
  kept_so opening v w is_v is_w right k e at late = ⊎_elim
      (λ s. ⊎_elim
      (λ early. absurd (omega (arith, early.0, late)))
      (λ here. (let event : e.event ≡ s.1.entry.event = ap (λ (z : Entry). z.event) here.1 in
      let step = subst (λ (o : Outcome). Stepped f c.tasks actor lane number y.between refs' o t t' old new) s.0 y.step in
      let l = step.tells v is_v in
      let one : Some l.0 ≡ Some w = sym l.1 ∙ is_w in
      let q : l.0 ≡ w = cc in (
        subst (c.means.changes since words) (sym event) (cl.commands.changes.settled since words t s.1.entry.event after s.1.kind),
        cl.commands.changes.kept since opening lane words t t' v w (books_of old.books) right after (facts v is_v) (subst (c.tasks.leaves t (turn.Done tt) t' v) q l.2) (subst IsMakeDurable (sym s.1.kind) tt),
      )))
      (at_split old.books.history.items s.1.entry e k (subst (λ (h : List Entry). IsAt h k e) s.1.grows at)))
      (λ n. (let was = subst (λ (h : List Entry). IsAt h k e) n.0 at in absurd (omega (arith, was.0, late))))
      its_end

  pub taken_gives : Gives f c limits lane number objects old new words start x
  taken_gives = record {
    answer = if_answer _ x answer_a;
    known = λ is_told. knows is_told x refl by;
    shown = (λ v told sound_v. if_answer _ x (λ a is. shows_a a is v told sound_v), caused_by x by);
    remains = λ v w is_v is_w. if_answer _ x (λ a is. remains_a a is v w is_v is_w);
    full = if_answer _ x full_a;
    idle = λ live. ⊎_elim (λ idle. idle) (λ h. absurd (let z : Some h.0 ≡ None = sym (halted_so h.0 h.1) ∙ live in cc)) (ended_or outcome refl end);
    halts = ends_by c.doing.answer (f.refused new.fs) t' (f.faults new.fs) new.books.halted outcome halted_so x by;
    over = λ why halted. absurd (let z : Some why ≡ None = sym halted ∙ y.live in cc);
    explained = λ live strayed. never_strays (halted_by outcome halt.Strayed refl end strayed);
    stays = λ v w is_v is_w sound_v. if_answer _ x (λ a is. stays_a a is v w is_v is_w sound_v);
    alone = λ v is_v commit sum lacks. (let a = is_answer (λ b. c.means.lacks b commit) x lacks in alone_a a.0 a.1 v is_v commit sum a.2);
    grows = grows_so;
    pending = λ p is. ⊎_elim
        (λ before. inl before)
        (λ now. inr (ap (λ (q : Pending). q.lane) now.2, ap (λ (q : Pending). q.command) now.2, subst (c.means.changes since words) (sym (ap (λ (q : Pending). q.event) now.2)) (cl.commands.changes.shown since words t now.0 after now.1)))
        (pending_by lane number (f.clock new.fs) old.books new.books (c.tasks.kind t) outcome y.step.booked p is);
    left = λ p is here. ⊎_elim
        (λ idle. absurd (idle p is here))
        (λ h. cut_off c.doing.answer (f.refused new.fs) t' (f.faults new.fs) (IsTold f.view) h.0 (λ strayed. never_strays (h.1 ∙ ap came.Halted strayed)) x (subst (λ (o : Outcome). IsEndedAs c.doing.answer (f.refused new.fs) o t' (f.faults new.fs) x) h.1 by))
        (ended_or outcome refl end);
    kept = kept_so;
  }
