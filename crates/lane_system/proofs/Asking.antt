-- What one act of a system says and keeps, for each way that it may end.
use Rattle.std.proofs.Common.{◌≡◌, ◌<◌, ◌≤◌, ℕ, refl, sym, ◌∙◌, ap, subst, arith, List, [], ◌∷◌, ◌++◌, length, length-append, set, ⊎_elim, None}
use Rattle.std.specs.Prelude.{vec_capacity}
use Rattle.ost_types.specs.declared.limits.Limits.{Limits}
use Rattle.rely_guarantee.specs.declared.books.Base.{Base}
use Rattle.ref_book.specs.declared.book.RefBook.{RefBook}
use Rattle.command.specs.declared.ended.Ended.{Ended}
use Rattle.lane_system.specs.declared.act.Came.TheVariants.{Answered, Blocked, More}
use Rattle.lane_system.specs.declared.ask.Ask.{Ask}
use Rattle.lane_system.specs.declared.ask.Ask.TheVariants as ask
use Rattle.lane_system.specs.declared.lane.Lane.{Lane}
use Rattle.lane_system.specs.declared.lane.Reply.{Reply}
use Rattle.lane_system.specs.Booked.{Acted, AnswerTells, HasCommand}
use Rattle.lane_system.specs.Counts.{Objects}
use Rattle.lane_system.specs.Family.{Family, FsSpec}
use Rattle.lane_system.specs.Kept.{Kept}
use Rattle.lane_system.specs.LaneActs.{LaneActs}
use Rattle.lane_system.specs.Lanes.{IsAt}
use Rattle.lane_system.specs.Preserves.{Preserves}
use Rattle.lane_system.specs.Ranks.{Asks, IsHeldOff, LacksRefLock, Ranked, left_of}
use Rattle.lane_system.specs.System.{System}
use Rattle.lane_system.proofs.Accounting.{count_few}
use Rattle.lane_system.proofs.Acted.{given_keeps, more_keeps, preserves_by}
use Rattle.lane_system.proofs.Acting.{given_within, gives, held_lanes, held_same, kept_answered, kept_on, set_same}
use Rattle.lane_system.proofs.Advancing.{ranked_done, ranked_more, ranked_same, step_less}
use Rattle.lane_system.proofs.Causing.{given_caused, more_caused}
use Rattle.lane_system.proofs.Chaining.{preserves_nothing}
use Rattle.lane_system.proofs.Clauses.{acted_done, acted_more, moves_done, moves_more, objects_done, objects_more, objects_same}
use Rattle.lane_system.proofs.Family.{FamilyLaws, FsLaws}
use Rattle.lane_system.proofs.Holding.{held_off, waits_given, waits_more}
use Rattle.lane_system.proofs.Places.{at_one}

pub record IsAct {F T W A : Type 0} (f : FsSpec F) (c : Family T W A) (old new : System F T W A) (actor : ℕ) (x : Ask) : Type 0 where
  pub acted : Acted (AnswerTells c.means f.view (f.faults old.base.fs) (f.faults new.base.fs) old) old new actor x
  pub objects : Objects c.doing f.view old new actor x
  pub preserves : Preserves f c old new
  pub ranks : Ranked c.doing old new actor x
  pub held : x ≡ ask.Blocked → IsHeldOff old actor
  pub waits : HasCommand old actor → old.base.books.halted ≡ None → Asks c old actor → LacksRefLock old actor → x ≡ ask.Blocked

-- there is no such lane, or it has no command without a reply
pub no_lane : {F T W A : Type 0} (s : System F T W A) (lane : ℕ) → length s.lanes ≤ lane → ¬ (HasCommand s lane)
no_lane s lane past has = omega (arith, has.1.0, past)

no_command : {F T W A : Type 0} (s : System F T W A) (lane : ℕ) (l : Lane T W A) → IsAt s.lanes lane l → length l.words.items ≤ length l.replies.items → ¬ (HasCommand s lane)
no_command {T = T} {W = W} {A = A} s lane l at most has =
    let same : has.0 ≡ l = at_one s.lanes lane has.0 l has.1 at in
    omega (arith, has.2, most, ap (λ (x : Lane T W A). length x.words.items) same, ap (λ (x : Lane T W A). length x.replies.items) same)

pub is_none : {F T W A : Type 0} (f : FsSpec F) (c : Family T W A) (fl : FsLaws f) (s new : System F T W A) (lane : ℕ) → ¬ (HasCommand s lane) → new ≡ s → IsAct f c s new lane ask.Ended
is_none f c fl s new lane none same = subst (λ y. IsAct f c s y lane ask.Ended) (sym same) (record {
  acted = (none, refl);
  objects = (objects_same c f.view s lane).1;
  preserves = preserves_nothing f c fl s;
  ranks = ranked_same c.doing s s lane ask.Ended refl (λ is. cc) (λ a b is. cc);
  held = λ is. cc;
  waits = λ has live asks off. absurd (none has);
})

-- so of a lane that was looked at
pub is_over : {F T W A : Type 0} (f : FsSpec F) (c : Family T W A) (fl : FsLaws f) (self : System F T W A) (limits : Limits) (lane objects : ℕ) (base : Base F) (lanes : List (Lane T W A)) (l : Lane T W A) → self ≡ record { base = base; lanes = lanes; limits = limits; objects = objects } → IsAt lanes lane l → length l.words.items ≤ length l.replies.items
    → IsAct f c self (record { base = base; lanes = set lanes lane l; limits = limits; objects = objects }) lane ask.Ended
is_over {F} {T} {W} {A} f c fl self limits lane objects base lanes l view at most = is_none f c fl self (record { base = base; lanes = set lanes lane l; limits = limits; objects = objects }) lane none same
  where
    none : ¬ (HasCommand self lane)
    none = subst (λ (s : System F T W A). ¬ (HasCommand s lane)) (sym view) (no_command (record { base = base; lanes = lanes; limits = limits; objects = objects }) lane l at most)

    same : record { base = base; lanes = set lanes lane l; limits = limits; objects = objects } ≡ self
    same = ap (λ xs. record { base = base; lanes = xs; limits = limits; objects = objects }) (set_same lanes lane l l at refl) ∙ sym view

module _ {F T W A : Type 0} (f : FsSpec F) (c : Family T W A) (fl : FsLaws f) (cl : FamilyLaws c) (self : System F T W A) (limits : Limits) (lane : ℕ) (refs refs' : RefBook) (objects objects' : ℕ) (old new : Base F) (lanes : List (Lane T W A)) (given : ℕ) (l l' : Lane T W A)
    (view : self ≡ record { base = old; lanes = lanes; limits = limits; objects = objects }) (kept : Kept f c limits old refs lanes given) (at : IsAt lanes lane l) where
  abbrev s : System F T W A
  s = record { base = old; lanes = lanes; limits = limits; objects = objects }

  abbrev after : Lane T W A → System F T W A
  after x = record { base = new; lanes = set lanes lane x; limits = limits; objects = objects' }

  of_self : (new : System F T W A) (x : Ask) → IsAct f c s new lane x → IsAct f c self new lane x
  of_self new x is = subst (λ y. IsAct f c y new lane x) (sym view) is

  pub is_more : LaneActs f c limits lane lane refs refs' objects objects' old new l l' More → IsAct f c self (after l') lane ask.More
  is_more x =
      of_self (after l') ask.More (record {
        acted = acted_more f c fl cl limits lane refs refs' objects objects' old new lanes given l l' kept at x (AnswerTells c.means f.view (f.faults old.fs) (f.faults new.fs) s);
        objects = objects_more f c fl cl limits lane refs refs' objects objects' old new lanes given l l' kept at x;
        preserves = preserves_by f c s (after l')
            (λ v told. more_keeps f c fl cl limits lane refs refs' objects objects' old new lanes given l kept at v told l' x (kept_on f c fl cl limits lane refs refs' objects objects' old new lanes given l l' kept at x))
            (more_caused f c fl cl limits lane refs refs' objects objects' old new lanes given l kept at l' x);
        ranks = ranked_more c.doing s (after l') lane l l' (moves_more f c fl cl limits lane refs refs' objects objects' old new lanes given l l' kept at x) x.replies
            (subst (λ o. left_of c.doing o < left_of c.doing l.task) (sym x.did.1) (step_less f c cl limits lane lane (length l.replies.items) refs refs' objects old new x.words l.task x.did.0 x.did.3));
        held = λ is. cc;
        waits = λ has live asks off. absurd (waits_more f c fl cl limits lane refs refs' objects objects' old new lanes given l l' kept at asks off x);
      })

  pub is_held : LaneActs f c limits lane lane refs refs' objects objects' old new l l' Blocked → IsAct f c self (after l') lane ask.Blocked
  is_held x = of_self (after l') ask.Blocked (subst (λ y. IsAct f c s y lane ask.Blocked) (sym same) (record {
    acted = ((l, at, x.next.0), refl);
    objects = (objects_same c f.view s lane).0;
    preserves = preserves_nothing f c fl s;
    ranks = ranked_same c.doing s s lane ask.Blocked refl (λ is. cc) (λ a b is. cc);
    held = λ is. held_off f c fl cl limits lane refs refs' objects objects' old new lanes given l l' kept at x;
    waits = λ has live asks off. refl;
  }))
    where
      same : after l' ≡ s
      same =
          ap (λ (b : Base F). record { base = b; lanes = set lanes lane l'; limits = limits; objects = objects' }) (held_same f c fl cl limits lane refs refs' objects objects' old new lanes given l l' kept at x)
          ∙ ap (λ xs. record { base = old; lanes = xs; limits = limits; objects = objects' }) (held_lanes f c fl cl limits lane refs refs' objects objects' old new lanes given l l' kept at x)
          ∙ ap (λ n. record { base = old; lanes = lanes; limits = limits; objects = n }) x.did.1

  pub is_done : (z : Ended A) (start : ℕ) → LaneActs f c limits lane lane refs refs' objects objects' old new l l' (Answered z start) → (l'' : Lane T W A) (r : Reply A) → l''.words ≡ l.words → l''.task ≡ None → l''.replies.items ≡ l.replies.items ++ r ∷ [] → vec_capacity l.replies ≤ vec_capacity l''.replies
      → r.answer ≡ z → r.start ≡ start → r.place ≡ length new.books.history.items → r.order ≡ given → r.taken ≡ None → (command : ℕ) → command ≡ length l.replies.items → IsAct f c self (after l'') lane (ask.Done lane command)
  is_done z start x l'' r words task grows room answered begun place order taken command number =
      of_self (after l'') (ask.Done lane command) (subst (λ n. IsAct f c s (after l'') lane (ask.Done lane n)) (sym number) (record {
        acted = acted_done f c fl cl limits lane refs refs' objects objects' old new lanes given l l' kept at z start x l'' r words task grows answered begun place order;
        objects = objects_done f c fl cl limits lane refs refs' objects objects' old new lanes given l l' kept at z start x l'' r words task grows answered begun place order;
        preserves = preserves_by f c s (after l'')
            (λ v told. given_keeps f c fl cl limits lane refs refs' objects objects' old new lanes given l kept at v told l' z start x l'' r words task grows answered begun place
            (kept_answered f c fl cl limits lane refs refs' objects objects' old new lanes given l l' kept at z start x l'' r words task grows room answered begun place order taken) order)
            (given_caused f c fl cl limits lane refs refs' objects objects' old new lanes given l kept at l' z start x l'' r words grows answered);
        ranks = ranked_done c.doing s (after l'') lane l l'' (moves_done f c fl cl limits lane refs refs' objects objects' old new lanes given l l' kept at z start x l'' r words task grows answered begun place order) r lane (length l.replies.items) grows task;
        held = λ is. cc;
        waits = λ has live asks off. absurd (waits_given f c fl cl limits lane refs refs' objects objects' old new lanes given l l' kept at asks off live z start x);
      }))

  -- the numbers of a reply are small
  replies_few : (a : ℕ) (m : Lane T W A) → IsAt lanes a m → length m.replies.items ≤ 64
  replies_few a m there = let k = kept.each a m there in omega (arith, k.is.short, k.is.within)

  pub given_few : given ≤ 512
  given_few = omega (arith, kept.accounted.count, count_few lanes replies_few, kept.few)

  pub number_few : length l.replies.items ≤ 64
  number_few = replies_few lane l at

  history_few : length old.books.history.items ≤ 512
  history_few = omega (arith, kept.accounted.fewer, count_few lanes replies_few, kept.few)

  pub start_few : (z : Ended A) (start : ℕ) → LaneActs f c limits lane lane refs refs' objects objects' old new l l' (Answered z start) → start ≤ 512
  start_few z start x = omega (arith, given_within f c fl cl limits lane refs refs' objects objects' old new lanes given l l' kept at z start x, history_few)

  pub place_few : (z : Ended A) (start : ℕ) → LaneActs f c limits lane lane refs refs' objects objects' old new l l' (Answered z start) → length new.books.history.items ≤ 513
  place_few z start x = ⊎_elim
      (λ same. omega (arith, ap length same.0, history_few))
      (λ more. omega (arith, ap length more.1, length-append old.books.history.items (more.0 ∷ []), history_few))
      (gives f c fl cl limits lane refs refs' objects objects' old new lanes given l l' kept at z start x).grows
