-- An act keeps what is so of all replies with the history.
use Rattle.std.proofs.Common.{◌≡◌, ◌≢◌, ◌⊎◌, inl, inr, ⊎_elim, ◌<◌, ◌≤◌, ◌+◌, ◌*◌, ℕ, suc, refl, sym, ◌∙◌, ap, subst, arith, List, [], ◌∷◌, ◌++◌, length, length-append, set, Option, Some, None}
use Rattle.ost_types.specs.declared.limits.Limits.{Limits}
use Rattle.rely_guarantee.specs.declared.books.Books as rust
use Rattle.rely_guarantee.specs.declared.books.Entry.{Entry}
use Rattle.rely_guarantee.specs.declared.books.Pending.{Pending}
use Rattle.rely_guarantee.specs.Books.{Spared, books_of}
use Rattle.command.specs.declared.ended.Ended.{Ended}
use Rattle.command.specs.Meaning.{Meaning}
use Rattle.command.specs.Since.{Since, begun_in}
use Rattle.lane_system.specs.declared.lane.Lane.{Lane}
use Rattle.lane_system.specs.declared.lane.Reply.{Reply}
use Rattle.lane_system.specs.declared.lane.Running.{Running}
use Rattle.lane_system.specs.Kept.{Accounted}
use Rattle.lane_system.specs.LaneActs.{task_start}
use Rattle.lane_system.specs.Lanes.{IsAt, IsCommand, IsNext, IsRunning, IsTo, count_of}
use Rattle.lane_system.specs.Replied.{WasMade}
use Rattle.lane_system.specs.Replies.{EndsToo, IsCutOff, OfAnswer}
use Rattle.lane_system.specs.States.{since_in}
use Rattle.lane_system.proofs.Changing.{command_stays, count_more, count_same, numbered_more, numbered_same, running_apart, running_here, running_was, to_new, to_same, to_split, to_stays, to_was}
use Rattle.lane_system.proofs.Giving.{Grows}
use Rattle.lane_system.proofs.Places.{at_split, here_or_apart}
use Rattle.lane_system.proofs.Prefixes.{longer, state_is}

module _ {T W A : Type 0} (told : Type 0) (m : Meaning W A) (limits : Limits) (old new : rust.Books) (lanes : List (Lane T W A)) (given : ℕ) (acc : Accounted told m limits old lanes given) (actor lane : ℕ) (spared : Spared actor lane (books_of old) (books_of new))
    (l l' : Lane T W A) (at : IsAt lanes lane l) (words : l'.words ≡ l.words) (c : W) (next : IsNext l c)
    (early : (a n : ℕ) (r : Running T) → IsRunning lanes a n r → r.start ≤ length old.history.items) (within : (a n : ℕ) (r : Reply A) → IsTo lanes a n r → r.start ≤ length old.history.items) where
  abbrev pub number : ℕ
  number = length l.replies.items

  abbrev pub start : ℕ
  start = task_start old.history.items l.task

  -- what may be pending behind the act
  abbrev pub Shows : Type 0
  Shows = (p : Pending) → new.pending ≡ Some p → (old.pending ≡ Some p) ⊎ ((p.lane ≡ lane) × (p.command ≡ number) × m.changes (since_in limits old start) c p.event)

  command : IsCommand lanes lane number c
  command = (l, at, next)

  here : (p : Pending) → p.lane ≡ lane → p.command ≡ number → IsCommand (set lanes lane l') p.lane p.command c
  here p e n = subst (λ k. IsCommand (set lanes lane l') k p.command c) (sym e) (subst (λ k. IsCommand (set lanes lane l') lane k c) (sym n) (command_stays lanes lane l l' at words lane number c command))

  since_same : (k : ℕ) → k ≤ length old.history.items → since_in limits new k ≡ since_in limits old k
  since_same k le = ap (begun_in limits) (state_is actor lane old new spared k le)

  change_stays : (k : ℕ) (d : W) (p : Pending) → k ≤ length old.history.items → m.changes (since_in limits old k) d p.event → m.changes (since_in limits new k) d p.event
  change_stays k d p le is = subst (λ (s : Since). m.changes s d p.event) (sym (since_same k le)) is

  start_within : start ≤ length old.history.items
  start_within = by l.task refl
    where
      by : (o : Option (Running T)) → l.task ≡ o → task_start old.history.items o ≤ length old.history.items
      by None is = omega arith
      by (Some r) is = early lane number r (l, at, refl, is)

  -- the act goes on
  module _ (replies : l'.replies ≡ l.replies) (t' : T) (task : l'.task ≡ Some (record { work = t'; start = start })) (history : new.history.items ≡ old.history.items) where
    pub accounted_more : (new.halted ≡ None → old.halted ≡ None) → Shows → Accounted told m limits new (set lanes lane l') given
    accounted_more live shows = record {
      made = λ k e is. (let x = acc.made k e (subst (λ (h : List Entry). IsAt h k e) history is) in (x.0, to_same lanes lane l l' at words replies e.lane e.command x.0 x.1, x.2, x.3, command_stays lanes lane l l' at words e.lane e.command x.3 x.4, x.5));
      shown = λ p is. ⊎_elim
          (λ before. (let x = acc.shown p before in (
            x.0,
            command_stays lanes lane l l' at words p.lane p.command x.0 x.1,
            ⊎_elim (λ runs. inl (on p x.0 runs)) (λ over. inr (over.0, to_same lanes lane l l' at words replies p.lane p.command over.0 over.1, over.2, change_stays over.0.start x.0 p (within p.lane p.command over.0 over.1) over.3)) x.2,
          )))
          (λ now. (c, here p now.0 now.1, inl (r', subst (λ k. IsRunning (set lanes lane l') k p.command r') (sym now.0) (running_here lanes lane l l' at words p.command r' (now.1 ∙ ap (λ x. length x.items) (sym replies)) task), change_stays start c p start_within now.2)))
          (shows p is);
      going = λ p is going. ⊎_elim
          (λ before. running_goes p (acc.going p before (live going)))
          (λ now. (r', subst (λ k. IsRunning (set lanes lane l') k p.command r') (sym now.0) (running_here lanes lane l l' at words p.command r' (now.1 ∙ ap (λ x. length x.items) (sym replies)) task)))
          (shows p is);
      untaken = λ a n r to. acc.untaken a n r (to_was lanes lane l l' at words replies a n r to);
      over = λ a n b m r q to too lt. acc.over a n b m r q (to_was lanes lane l l' at words replies a n r to) (to_was lanes lane l l' at words replies b m q too) lt;
      numbered = numbered_same lanes lane l l' at words replies acc.numbered;
      count = acc.count ∙ sym (count_same lanes lane l l' at words replies);
      fewer = omega (arith, ap length history, acc.fewer, count_same lanes lane l l' at words replies);
    }
      where
        r' : Running T
        r' = record { work = t'; start = start }

        running_goes : (p : Pending) → ((r : Running T) × IsRunning lanes p.lane p.command r) → (r : Running T) × IsRunning (set lanes lane l') p.lane p.command r
        running_goes p runs = here_or_apart p.lane lane
            (λ e. (let w = running_was lanes lane l l' at words p.command runs.0 (subst (λ k. IsRunning lanes k p.command runs.0) e runs.1) in
            (r', subst (λ k. IsRunning (set lanes lane l') k p.command r') (sym e) (running_here lanes lane l l' at words p.command r' (w.0 ∙ ap (λ x. length x.items) (sym replies)) task))))
            (λ ne. (runs.0, running_apart lanes lane l l' at words p.lane p.command runs.0 ne runs.1))

        -- one that runs goes on
        on : (p : Pending) (d : W) → ((r : Running T) × IsRunning lanes p.lane p.command r × m.changes (since_in limits old r.start) d p.event) → (r : Running T) × IsRunning (set lanes lane l') p.lane p.command r × m.changes (since_in limits new r.start) d p.event
        on p d runs = here_or_apart p.lane lane
            (λ e. (let w = running_was lanes lane l l' at words p.command runs.0 (subst (λ k. IsRunning lanes k p.command runs.0) e runs.1) in
            let same : runs.0.start ≡ start = ap (task_start old.history.items) (sym w.1) in
            (r', subst (λ k. IsRunning (set lanes lane l') k p.command r') (sym e) (running_here lanes lane l l' at words p.command r' (w.0 ∙ ap (λ x. length x.items) (sym replies)) task), change_stays start d p start_within (subst (λ k. m.changes (since_in limits old k) d p.event) same runs.2))))
            (λ ne. (runs.0, running_apart lanes lane l l' at words p.lane p.command runs.0 ne runs.1, change_stays runs.0.start d p (early p.lane p.command runs.0 runs.1) runs.2))

  -- the act gives a reply
  module _ (r : Reply A) (x : Ended A) (replies : l'.replies.items ≡ l.replies.items ++ r ∷ []) (task : l'.task ≡ None) (answered : r.answer ≡ x) (begun : r.start ≡ start) (place : r.place ≡ length new.history.items) (order : r.order ≡ given) (taken : r.taken ≡ None)
      (grows : Grows (λ a. m.makes a c) lane number x old.history.items new.history.items) (left : (p : Pending) → new.pending ≡ Some p → p.lane ≡ lane → IsCutOff told x) (later : (a n : ℕ) (q : Reply A) → IsTo lanes a n q → EndsToo q.answer x) where
    abbrev lanes' : List (Lane T W A)
    lanes' = set lanes lane l'

    stays : (a n : ℕ) (q : Reply A) → IsTo lanes a n q → IsTo lanes' a n q
    stays = to_stays lanes lane l l' at words r replies

    made_before : (k : ℕ) (e : Entry) → IsAt old.history.items k e → WasMade m lanes' k e
    made_before k e is = (let z = acc.made k e is in (z.0, stays e.lane e.command z.0 z.1, z.2, z.3, command_stays lanes lane l l' at words e.lane e.command z.3 z.4, z.5))

    made_now : (k : ℕ) (e last : Entry) → e ≡ last → k ≡ length old.history.items → new.history.items ≡ old.history.items ++ last ∷ [] → last.lane ≡ lane → last.command ≡ number → OfAnswer (λ a. m.makes a c) x → WasMade m lanes' k e
    made_now k e last same is longer its number_is makes = (
      r,
      subst (λ (z : Entry). IsTo lanes' z.lane z.command r) (sym same) (subst (λ i. IsTo lanes' i last.command r) (sym its) (subst (λ i. IsTo lanes' lane i r) (sym number_is) (to_new lanes lane l l' at words r replies))),
      omega (arith, place, ap length longer, length-append old.history.items (last ∷ []), is),
      c,
      subst (λ (z : Entry). IsCommand lanes' z.lane z.command c) (sym same) (subst (λ i. IsCommand lanes' i last.command c) (sym its) (subst (λ i. IsCommand lanes' lane i c) (sym number_is) (command_stays lanes lane l l' at words lane number c command))),
      subst (OfAnswer (λ a. m.makes a c)) (sym answered) makes,
    )

    -- its change is pending still only where it was cut short
    over : (p : Pending) (d : W) → new.pending ≡ Some p → p.lane ≡ lane → p.command ≡ number → m.changes (since_in limits old start) d p.event → (q : Reply A) × IsTo lanes' p.lane p.command q × IsCutOff told q.answer × m.changes (since_in limits new q.start) d p.event
    over p d is e n change = (
      r,
      subst (λ k. IsTo lanes' k p.command r) (sym e) (subst (λ k. IsTo lanes' lane k r) (sym n) (to_new lanes lane l l' at words r replies)),
      subst (IsCutOff told) (sym answered) (left p is e),
      subst (λ k. m.changes (since_in limits new k) d p.event) (sym begun) (change_stays start d p start_within change),
    )

    -- no reply was given after this one
    last_one : (b m : ℕ) (p q : Reply A) → p ≡ r → p.order < q.order → IsTo lanes b m q → ⊥
    last_one b m p q is lt to = omega (arith, lt, acc.numbered.below b m q to, ap (λ (y : Reply A). y.order) is, order, acc.count)

    pub accounted_given : (new.halted ≡ None → (old.halted ≡ None) × ((p : Pending) → new.pending ≡ Some p → p.lane ≢ lane)) → Shows → Accounted told m limits new lanes' (given + 1)
    accounted_given idle shows = record {
      made = λ k e is. ⊎_elim
          (λ same. made_before k e (subst (λ (h : List Entry). IsAt h k e) same.0 is))
          (λ more. ⊎_elim
          (λ before. made_before k e before)
          (λ now. made_now k e more.0 now.1 now.0 more.1 more.2 more.3 more.4)
          (at_split old.history.items more.0 e k (subst (λ (h : List Entry). IsAt h k e) more.1 is)))
          grows;
      shown = λ p is. ⊎_elim
          (λ before. (let z = acc.shown p before in (
            z.0,
            command_stays lanes lane l l' at words p.lane p.command z.0 z.1,
            ⊎_elim
                (λ runs. here_or_apart p.lane lane
                (λ e. (let w = running_was lanes lane l l' at words p.command runs.0 (subst (λ k. IsRunning lanes k p.command runs.0) e runs.1) in
                inr (over p z.0 is e w.0 (subst (λ k. m.changes (since_in limits old k) z.0 p.event) (ap (task_start old.history.items) (sym w.1)) runs.2))))
                (λ ne. inl (runs.0, running_apart lanes lane l l' at words p.lane p.command runs.0 ne runs.1, change_stays runs.0.start z.0 p (early p.lane p.command runs.0 runs.1) runs.2)))
                (λ done. inr (done.0, stays p.lane p.command done.0 done.1, done.2, change_stays done.0.start z.0 p (within p.lane p.command done.0 done.1) done.3))
                z.2,
          )))
          (λ now. (c, here p now.0 now.1, inr (over p c is now.0 now.1 now.2)))
          (shows p is);
      going = λ p is live. (let quiet = idle live in ⊎_elim
          (λ before. (let runs = acc.going p before quiet.0 in (runs.0, running_apart lanes lane l l' at words p.lane p.command runs.0 (quiet.1 p is) runs.1)))
          (λ now. absurd (quiet.1 p is now.0))
          (shows p is));
      untaken = λ a n q to. ⊎_elim (λ before. acc.untaken a n q before) (λ new_one. ap (λ (y : Reply A). y.taken) new_one.2 ∙ taken) (to_split lanes lane l l' at words r replies a n q to);
      over = λ a n b m p q to too lt. ⊎_elim
          (λ first. ⊎_elim
          (λ second. acc.over a n b m p q first second lt)
          (λ new_one. subst (λ (y : Reply A). EndsToo p.answer y.answer) (sym new_one.2) (subst (EndsToo p.answer) (sym answered) (later a n p first)))
          (to_split lanes lane l l' at words r replies b m q too))
          (λ new_one. ⊎_elim
          (λ second. absurd (last_one b m p q new_one.2 lt second))
          (λ too_new. absurd (omega (arith, lt, ap (λ (y : Reply A). y.order) new_one.2, ap (λ (y : Reply A). y.order) too_new.2)))
          (to_split lanes lane l l' at words r replies b m q too))
          (to_split lanes lane l l' at words r replies a n p to);
      numbered = numbered_more lanes lane l l' at words r replies (order ∙ acc.count) acc.numbered;
      count = ap (λ n. n + 1) acc.count ∙ sym (count_more lanes lane l l' at words r replies);
      fewer = ⊎_elim
          (λ same. omega (arith, ap length same.0, acc.fewer, count_more lanes lane l l' at words r replies))
          (λ more. omega (arith, ap length more.1, length-append old.history.items (more.0 ∷ []), acc.fewer, count_more lanes lane l l' at words r replies))
          grows;
    }

-- few lanes of few replies
pub count_few : {T W A : Type 0} (lanes : List (Lane T W A)) → ((a : ℕ) (l : Lane T W A) → IsAt lanes a l → length l.replies.items ≤ 64) → count_of lanes ≤ 64 * length lanes
count_few [] each = omega arith
count_few (l ∷ rest) each = omega (arith, each 0 l (omega arith, refl), count_few rest (λ a x at. each (suc a) x (omega (arith, at.0), at.1)))
