-- What an act of a system says, by what its lane did.
use Rattle.std.proofs.Common.{◌≡◌, ◌<◌, ◌≤◌, ℕ, refl, sym, ◌∙◌, ap, subst, arith, List, [], ◌∷◌, ◌++◌, length, set, Option, Some, None}
use Rattle.ost_types.specs.declared.limits.Limits.{Limits}
use Rattle.ost_types.specs.declared.object.ObjName.{ObjName}
use Rattle.fs_trait.specs.declared.types.Value.TheVariants.{Absent}
use Rattle.fs_trait.specs.View.{View}
use Rattle.repo_model.specs.Objects.{path_of}
use Rattle.obj_store.specs.declared.phase.Put.{Put}
use Rattle.obj_store.specs.declared.phase.Put.TheVariants as put
use Rattle.rely_guarantee.specs.declared.books.Base.{Base}
use Rattle.ref_book.specs.declared.book.RefBook.{RefBook}
use Rattle.command.specs.declared.ended.Ended.{Ended}
use Rattle.command.specs.Since.{placed}
use Rattle.lane_system.specs.declared.act.Came.TheVariants.{Answered, More}
use Rattle.lane_system.specs.declared.ask.Ask.TheVariants as ask
use Rattle.lane_system.specs.declared.lane.Lane.{Lane}
use Rattle.lane_system.specs.declared.lane.Reply.{Reply}
use Rattle.lane_system.specs.Acts.{Acts}
use Rattle.lane_system.specs.Booked.{Acted, AnswerTells, IsLater, Moves}
use Rattle.lane_system.specs.Counts.{Objects}
use Rattle.lane_system.specs.Family.{Family, FsSpec}
use Rattle.lane_system.specs.Kept.{Kept}
use Rattle.lane_system.specs.LaneActs.{LaneActs, task_start}
use Rattle.lane_system.specs.Lanes.{IsAt}
use Rattle.lane_system.specs.Replies.{Shown}
use Rattle.lane_system.specs.States.{now_of, since_in}
use Rattle.lane_system.specs.Steps.{IsCounted, standing}
use Rattle.lane_system.specs.System.{System}
use Rattle.lane_system.proofs.Acting.{given_acts, given_start, gives, more_acts}
use Rattle.lane_system.proofs.Family.{FamilyLaws, FsLaws}
use Rattle.lane_system.proofs.Giving.{Gives}
use Rattle.lane_system.proofs.Places.{at_one, at_set, at_set_is}
use Rattle.lane_system.proofs.Telling.{standing_less, standing_same}

-- the books go on from what they were
later_by : {F T W A : Type 0} (f : FsSpec F) (limits : Limits) (actor lane : ℕ) (refs refs' : RefBook) (old new : Base F) (acts : Acts f limits actor lane refs refs' old new) (lanes lanes' : List (Lane T W A)) (objects objects' : ℕ)
    → IsLater (record { base = old; lanes = lanes; limits = limits; objects = objects }) (record { base = new; lanes = lanes'; limits = limits; objects = objects' })
later_by f limits actor lane refs refs' old new acts lanes lanes' objects objects' = (acts.books.start, acts.books.opened, acts.books.more, acts.books.grows, refl)

-- the count stays within the bound
bounded_by : (count most next : ℕ) (met : Option (ObjName × Put)) → IsCounted count met next → ((name : ObjName) → met ≡ Some (name, put.Stored) → count < most) → count ≤ most → next ≤ most
bounded_by count most next None is had le = omega (arith, is, le)
bounded_by count most next (Some (name, put.Stored)) is had le = omega (arith, is, had name refl)
bounded_by count most next (Some (name, put.Present)) is had le = omega (arith, is, le)

module _ {F T W A : Type 0} (f : FsSpec F) (c : Family T W A) (fl : FsLaws f) (cl : FamilyLaws c) (limits : Limits) (lane : ℕ) (refs refs' : RefBook) (objects objects' : ℕ) (old new : Base F) (lanes : List (Lane T W A)) (given : ℕ) (l l' : Lane T W A)
    (kept : Kept f c limits old refs lanes given) (at : IsAt lanes lane l) where
  abbrev pub s : System F T W A
  s = record { base = old; lanes = lanes; limits = limits; objects = objects }

  abbrev pub after : Lane T W A → System F T W A
  after x = record { base = new; lanes = set lanes lane x; limits = limits; objects = objects' }

  -- it goes on
  module _ (x : LaneActs f c limits lane lane refs refs' objects objects' old new l l' More) where
    acts : Acts f limits lane lane refs refs' old new
    acts = more_acts f c fl cl limits lane refs refs' objects objects' old new lanes given l l' kept at x

    pub moves_more : Moves s (after l') lane l l'
    moves_more = record {
      at = at;
      now = refl;
      words = x.same;
      command = x.next.0;
      later = later_by f limits lane lane refs refs' old new acts lanes (set lanes lane l') objects objects';
    }

    pub acted_more : (Tells : Lane T W A → Ended A → Type 0) → Acted Tells s (after l') lane ask.More
    acted_more Tells = (l, l', moves_more, (x.replies, record { work = x.did.0; start = task_start old.books.history.items l.task }, x.did.1, refl))

    stored : (v : View) → f.view old.fs ≡ Some v → (name : ObjName) → c.doing.met x.did.0 ≡ Some (name, put.Stored) → (objects < limits.objects) × (v.now.at (path_of name) ≡ Absent)
    stored v is name met =
        let y = x.did.3 in
        let k = y.step.tells v is in
        cl.commands.store.lacked (record { objects = objects }) (since_in limits old.books (task_start old.books.history.items l.task)) x.words y.work x.did.0 v k.0 name y.after k.2 met

    pub objects_more : Objects c.doing f.view s (after l') lane ask.More
    objects_more = record {
      counts = (l', record { work = x.did.0; start = task_start old.books.history.items l.task }, at_set lanes lane l' at.0, x.did.1, x.did.2);
      stores = λ v is m r name there task met.
          (let same : m ≡ l' = at_set_is lanes lane l' m at.0 there in
          let its : Some r ≡ Some (record { work = x.did.0; start = task_start old.books.history.items l.task }) = sym task ∙ ap (λ (z : Lane T W A). z.task) same ∙ x.did.1 in
          let one : r.work ≡ x.did.0 = cc in
          stored v is name (subst (λ u. c.doing.met u ≡ Some (name, put.Stored)) one met));
      bounded = λ v is le. bounded_by (standing old.books.gone new.books.gone objects) limits.objects objects' (c.doing.met x.did.0) x.did.2 (λ name met. omega (arith, (stored v is name met).0, standing_less old.books.gone new.books.gone objects)) (omega (arith, le, standing_less old.books.gone new.books.gone objects));
    }

  -- it has an answer
  module _ (z : Ended A) (start : ℕ) (x : LaneActs f c limits lane lane refs refs' objects objects' old new l l' (Answered z start)) (l'' : Lane T W A) (r : Reply A) (words : l''.words ≡ l.words) (task : l''.task ≡ None) (grows : l''.replies.items ≡ l.replies.items ++ r ∷ [])
      (answered : r.answer ≡ z) (begun : r.start ≡ start) (place : r.place ≡ length new.books.history.items) (order : r.order ≡ given) where
    g : Gives f c limits lane (length l.replies.items) objects old new x.words start z
    g = gives f c fl cl limits lane refs refs' objects objects' old new lanes given l l' kept at z start x

    is_start : start ≡ task_start old.books.history.items l.task
    is_start = given_start f c fl cl limits lane refs refs' objects objects' old new lanes given l l' kept at z start x

    tells : AnswerTells c.means f.view (f.faults old.fs) (f.faults new.fs) s l r.answer
    tells = subst (AnswerTells c.means f.view (f.faults old.fs) (f.faults new.fs) s l) (sym answered) (
      (λ d next. (let same : x.words ≡ d = at_one l.words.items (length l.replies.items) x.words d x.next next in
          subst (λ (e : W). Shown c.means (placed (since_in limits old.books (task_start old.books.history.items l.task)) (now_of old.books)) (f.view old.fs) old.books.halted (f.faults old.fs) (f.faults new.fs) e z) same
          (subst (λ n. Shown c.means (placed (since_in limits old.books n) (now_of old.books)) (f.view old.fs) old.books.halted (f.faults old.fs) (f.faults new.fs) x.words z) is_start g.shown))),
      g.full,
    )

    pub moves_done : Moves s (after l'') lane l l''
    moves_done = record {
      at = at;
      now = refl;
      words = words;
      command = x.next.0;
      later = later_by f limits lane lane refs refs' old new (given_acts f c fl cl limits lane refs refs' objects objects' old new lanes given l l' kept at z start x) lanes (set lanes lane l'') objects objects';
    }

    pub acted_done : Acted (AnswerTells c.means f.view (f.faults old.fs) (f.faults new.fs) s) s (after l'') lane (ask.Done lane (length l.replies.items))
    acted_done = (
      l,
      l'',
      r,
      moves_done,
      record {
        replies = grows;
        task = task;
        start = begun ∙ is_start;
        place = place;
        order = order ∙ kept.accounted.count;
        tells = tells;
      },
      refl,
      refl,
    )

    pub objects_done : Objects c.doing f.view s (after l'') lane (ask.Done lane (length l.replies.items))
    objects_done = record {
      counts = x.did.1;
      stores = λ v is. tt;
      bounded = λ v is le. omega (arith, x.did.1, le, standing_less old.books.gone new.books.gone objects);
    }

-- where nothing was done
pub objects_same : {F T W A : Type 0} (c : Family T W A) (view : F → Option View) (s : System F T W A) (lane : ℕ) → Objects c.doing view s s lane ask.Blocked × Objects c.doing view s s lane ask.Ended
objects_same c view s lane = (
  record { counts = sym (standing_same s.base.books.gone s.objects); stores = λ v is. tt; bounded = λ v is le. le },
  record { counts = sym (standing_same s.base.books.gone s.objects); stores = λ v is. tt; bounded = λ v is le. le },
)
