-- What a step removes, and what the books tell of it.
use Rattle.std.proofs.Common.{◌≡◌, ◌≢◌, ◌⊎◌, inl, inr, ⊎_elim, ◌<◌, ◌+◌, ℕ, suc, zero, Bool, nat_eq, true, false, if◌then◌else◌, refl, sym, ◌∙◌, ap, subst, arith, List, [], ◌∷◌, ◌++◌, append-nil, Contains, drop, take, length, Option, Some, None}
use Rattle.std.specs.List.{flat_map}
use Rattle.std.proofs.lemmas.Bool.Decides.{nat_tests}
use Rattle.std.proofs.lemmas.List.{drop_at}
use Rattle.std.proofs.lemmas.List.Elements.{Contains-append_left, Contains-append_right}
use Rattle.ost_types.specs.declared.object.ObjName.{ObjName}
use Rattle.ost_types.specs.Path.{Path}
use Rattle.fs_trait.specs.Change.{Writes}
use Rattle.fs_trait.specs.Seen.{Seen, Vacant, shows}
use Rattle.fs_trait.specs.View.{View}
use Rattle.repo_layout.specs.Place.{Object}
use Rattle.repo_layout.specs.RefFile.{IsSum}
use Rattle.repo_layout.proofs.Places.{place-object}
use Rattle.repo_model.specs.Objects.{path_of}
use Rattle.rely_guarantee.specs.declared.books.Books as rust
use Rattle.rely_guarantee.specs.declared.books.Entry.{Entry}
use Rattle.rely_guarantee.specs.declared.books.Pending.{Pending}
use Rattle.rely_guarantee.specs.declared.event.Event.{Event}
use Rattle.rely_guarantee.specs.declared.event.Event.TheVariants.{SetRef, DropRef, Pruned, SetDeployments}
use Rattle.rely_guarantee.specs.declared.kind.Outcome.{Outcome}
use Rattle.rely_guarantee.specs.declared.kind.Outcome.TheVariants as came
use Rattle.rely_guarantee.specs.Books.{Free, Spared, books_of, doomed_of}
use Rattle.rely_guarantee.specs.Change.{TakesNone}
use Rattle.rely_guarantee.specs.Exact.{IsBooked, Locks, gone_in, taken_in}
use Rattle.rely_guarantee.specs.Laws.{Holds, Kind, NotPending, Quiet, Store, Take, Claim, Publish, Published, Remove, MakeDurable}
use Rattle.rely_guarantee.specs.Removing.{next_of}
use Rattle.rely_guarantee.specs.Rely.{Guarantee}
use Rattle.rely_guarantee.specs.State as state
use Rattle.rely_guarantee.proofs.Lasting.{next_doomed, none_out}
use Rattle.rely_guarantee.proofs.Mays.{at_place}
use Rattle.command.specs.Removed.{AreAmong, RemovesOnly}
use Rattle.command.specs.Removing.{IsPrune, IsRemoving}
use Rattle.lane_system.specs.Acts.{TakesOne}
use Rattle.lane_system.specs.Removals.{removed_by, swept_in}
use Rattle.lane_system.proofs.Locking.{exclusive_from}
use Rattle.lane_system.proofs.Places.{here_or_apart}
use Rattle.lane_system.proofs.Removals.{none_of, taken}

-- ---- lists

take_suc : (n : ℕ) (xs : List ObjName) → take (suc n) xs ≡ take n xs ++ take 1 (drop n xs)
take_suc zero [] = refl
take_suc zero (x ∷ xs) = refl
take_suc (suc n) [] = refl
take_suc (suc n) (x ∷ xs) = ap (λ (l : List ObjName). x ∷ l) (take_suc n xs)

pub take_next : (n : ℕ) (xs : List ObjName) → take (n + 1) xs ≡ take n xs ++ take 1 (drop n xs)
take_next n xs = ap (λ k. take k xs) (let e : n + 1 ≡ suc n = omega arith in e) ∙ take_suc n xs

pub next_some : (n : ℕ) (xs : List ObjName) → n < length xs → (o : ObjName) × (take 1 (drop n xs) ≡ o ∷ [])
next_some n [] less = absurd (omega (arith, less))
next_some zero (x ∷ xs) less = (x, refl)
next_some (suc n) (x ∷ xs) less = next_some n xs (omega (arith, less))

-- ---- who removes

-- the holder of the lock, whose change is pending, and removes objects
pub record IsHolder (b : rust.Books) (o : ObjName) : Type 0 where
  pub pending : Pending
  pub is : b.pending ≡ Some pending
  pub alone : b.exclusive ≡ Some pending.lane
  pub among : Contains (state.removed_by pending.event) o

removes_prune : (e : Event) (o : ObjName) → Contains (state.removed_by e) o → IsPrune e
removes_prune (SetRef name seen commit) o has = absurd (none_out o has)
removes_prune (DropRef name seen) o has = absurd (none_out o has)
removes_prune (Pruned depth roots held removed) o has = tt
removes_prune (SetDeployments change list) o has = absurd (none_out o has)

no_prune : (e : Event) → ¬ (IsPrune e) → (o : ObjName) → ¬ (Contains (state.removed_by e) o)
no_prune e not o has = not (removes_prune e o has)

pub prunes_of : (b : rust.Books) (o : ObjName) (h : IsHolder b o) → IsPrune h.pending.event
prunes_of b o h = removes_prune h.pending.event o h.among

by_lock : (b : rust.Books) (lock : Option ℕ) (shown : Option Pending) → b.exclusive ≡ lock → b.pending ≡ shown → (o : ObjName) → Contains (doomed_of lock shown) o → IsHolder b o
by_lock b None shown held is o has = absurd (none_out o has)
by_lock b (Some x) None held is o has = absurd (none_out o has)
by_lock b (Some x) (Some p) held is o has = by (nat_eq x p.lane) refl has
  where
    by : (t : Bool) → nat_eq x p.lane ≡ t → Contains (if t then state.removed_by p.event else []) o → IsHolder b o
    by true same there = (let e : x ≡ p.lane = grind (arith, nat_tests) in record { pending = p; is = is; alone = held ∙ ap Some e; among = there })
    by false apart there = absurd (none_out o there)

pub holder_of : (b : rust.Books) (o : ObjName) → Contains (books_of b).doomed o → IsHolder b o
holder_of b = by_lock b b.exclusive b.pending refl refl

-- what the holder's change says is what is to be removed
pub doomed_by : (b : rust.Books) (p : Pending) → b.exclusive ≡ Some p.lane → b.pending ≡ Some p → (books_of b).doomed ≡ state.removed_by p.event
doomed_by b p held is =
    let same : nat_eq p.lane p.lane ≡ true = grind (arith, nat_tests) in
    ap (λ (l : Option ℕ). doomed_of l b.pending) held ∙ ap (doomed_of (Some p.lane)) is ∙ ap (λ (t : Bool). if t then state.removed_by p.event else []) same

pub swept_holder : (b : rust.Books) (o : ObjName) → Contains (swept_in b) o → IsHolder b o
swept_holder b o has = holder_of b o (taken b.gone (books_of b).doomed o has)

-- where no change is pending nothing is removed
pub settled_none : (b : rust.Books) → b.pending ≡ None → swept_in b ≡ []
settled_none b none = none_of (swept_in b) (λ o has. (let h = swept_holder b o has in let z : None ≡ Some h.pending = sym none ∙ h.is in cc))

-- ---- over a step

module _ (actor lane command moment : ℕ) (old new : rust.Books) (spared : Spared actor lane (books_of old) (books_of new)) where
  -- another's removal is as it was
  others_same : (x : ℕ) → x ≢ lane → old.exclusive ≡ Some x → swept_in new ≡ swept_in old
  others_same x ne is = (let d = spared.doomed x ne is in ap (λ n. take n (books_of new).doomed) d.1 ∙ ap (take old.gone) d.0)

  -- where neither the lock nor what is pending changes
  same_doomed : new.exclusive ≡ old.exclusive → new.pending ≡ old.pending → (books_of new).doomed ≡ (books_of old).doomed
  same_doomed lock shown = ap (λ (l : Option ℕ). doomed_of l new.pending) lock ∙ ap (doomed_of old.exclusive) shown

  -- a lane that shows nothing removes nothing
  module _ (none : NotPending lane (books_of old)) where
    pub idle_holder : (o : ObjName) (h : IsHolder old o) → h.pending.lane ≢ lane
    idle_holder o h = none h.pending h.is

    idle_still : (o : ObjName) → Contains (swept_in old) o → Contains (swept_in new) o
    idle_still o has = (let h = swept_holder old o has in subst (λ (l : List ObjName). Contains l o) (sym (others_same h.pending.lane (idle_holder o h) h.alone)) has)

  more_is : (x : Entry) → new.history.items ≡ old.history.items ++ x ∷ [] → spared.more ≡ x ∷ []
  more_is x longer =
      sym (drop_at old.history.items spared.more (length old.history.items) refl)
      ∙ ap (drop (length old.history.items)) (sym spared.grows ∙ longer)
      ∙ drop_at old.history.items (x ∷ []) (length old.history.items) refl

  -- while its change is published nothing else changes of what is to be removed
  module _ (e : Event) (n : ℕ) (more : new.gone ≡ n) (unbooked : new.pending ≡ old.pending) (lock : new.exclusive ≡ old.exclusive) where
    shown_swept : swept_in new ≡ take n (books_of old).doomed
    shown_swept = ap (λ k. take k (books_of new).doomed) more ∙ ap (take n) (same_doomed lock unbooked)

  pub still_on : (k : Kind) (outcome : Outcome) → (outcome ≡ came.Blocked → ⊥) → Holds k lane (books_of old) → IsBooked k lane command moment outcome old new → Locks k lane outcome old new → new.gone ≡ gone_in k outcome old.gone
      → AreAmong (swept_in old) (flat_map removed_by spared.more ++ swept_in new)
  still_on Quiet outcome went holds booked locks gone o has = Contains-append_right (flat_map removed_by spared.more) (swept_in new) o (idle_still holds o has)
  still_on Store outcome went holds booked locks gone o has = Contains-append_right (flat_map removed_by spared.more) (swept_in new) o (idle_still holds o has)
  still_on (Take wants) outcome went holds booked locks gone o has = Contains-append_right (flat_map removed_by spared.more) (swept_in new) o (idle_still holds o has)
  still_on (Claim name) outcome went holds booked locks gone o has = Contains-append_right (flat_map removed_by spared.more) (swept_in new) o (idle_still holds o has)
  still_on (Publish e) outcome went holds booked locks gone o has = Contains-append_right (flat_map removed_by spared.more) (swept_in new) o (idle_still holds o has)
  still_on (Published e n) came.More went holds booked locks gone o has = Contains-append_right (flat_map removed_by spared.more) (swept_in new) o (subst (λ (l : List ObjName). Contains l o) (sym (shown_swept e old.gone gone booked.1 locks.1)) has)
  still_on (Published e n) (came.Halted why) went holds booked locks gone o has = Contains-append_right (flat_map removed_by spared.more) (swept_in new) o (subst (λ (l : List ObjName). Contains l o) (sym (shown_swept e old.gone gone booked.1 locks.1)) has)
  still_on (Published e n) came.Done went holds booked locks gone o has = absurd booked
  still_on (Published e n) came.Blocked went holds booked locks gone o has = absurd booked
  still_on (Published e n) (came.Refused f) went holds booked locks gone o has = absurd booked
  still_on (Remove e n) came.More went holds booked locks gone o has = Contains-append_right (flat_map removed_by spared.more) (swept_in new) o (one_more e o has (shown_swept e (old.gone + 1) gone booked.1 locks.1))
    where
      one_more : (d : Event) (x : ObjName) → Contains (swept_in old) x → swept_in new ≡ take (old.gone + 1) (books_of old).doomed → Contains (swept_in new) x
      one_more d x was is = subst (λ (l : List ObjName). Contains l x) (sym (is ∙ take_next old.gone (books_of old).doomed)) (Contains-append_left (swept_in old) (next_of (books_of old)) x was)
  still_on (Remove e n) (came.Halted why) went holds booked locks gone o has = Contains-append_right (flat_map removed_by spared.more) (swept_in new) o
      (subst (λ (l : List ObjName). Contains l o) (sym (shown_swept e (old.gone + 1) gone booked.1 locks.1 ∙ take_next old.gone (books_of old).doomed)) (Contains-append_left (swept_in old) (next_of (books_of old)) o has))
  still_on (Remove e n) came.Done went holds booked locks gone o has = absurd booked
  still_on (Remove e n) came.Blocked went holds booked locks gone o has = absurd booked
  still_on (Remove e n) (came.Refused f) went holds booked locks gone o has = absurd booked
  still_on (MakeDurable e) came.Done went holds booked locks gone o has =
      let h = swept_holder old o has in
      let x : Entry = record { lane = h.pending.lane; command = h.pending.command; event = h.pending.event; moment = moment } in
      Contains-append_left (flat_map removed_by spared.more) (swept_in new) o
      (subst (λ (l : List Entry). Contains (flat_map removed_by l) o) (sym (more_is x (booked.1 h.pending h.is))) (subst (λ (l : List ObjName). Contains l o) (sym (append-nil (state.removed_by h.pending.event))) h.among))
  still_on (MakeDurable e) (came.Halted why) went holds booked locks gone o has = Contains-append_right (flat_map removed_by spared.more) (swept_in new) o (subst (λ (l : List ObjName). Contains l o) (sym (shown_swept e old.gone gone booked.1 locks.1)) has)
  still_on (MakeDurable e) came.More went holds booked locks gone o has = absurd booked
  still_on (MakeDurable e) came.Blocked went holds booked locks gone o has = absurd booked
  still_on (MakeDurable e) (came.Refused f) went holds booked locks gone o has = absurd booked

  -- behind a step that removes the books tell what it took, too
  pub removed_more : (e : Event) (n : ℕ) (outcome : Outcome) → IsBooked (Remove e n) lane command moment outcome old new → Locks (Remove e n) lane outcome old new → new.gone ≡ old.gone + 1 → (swept_in new ≡ swept_in old ++ next_of (books_of old)) × (new.pending ≡ old.pending)
  removed_more e n came.More booked locks gone = (shown_swept e (old.gone + 1) gone booked.1 locks.1 ∙ take_next old.gone (books_of old).doomed, booked.1)
  removed_more e n (came.Halted why) booked locks gone = (shown_swept e (old.gone + 1) gone booked.1 locks.1 ∙ take_next old.gone (books_of old).doomed, booked.1)
  removed_more e n came.Done booked locks gone = absurd booked
  removed_more e n came.Blocked booked locks gone = absurd booked
  removed_more e n (came.Refused f) booked locks gone = absurd booked

  -- behind another step that comes while its change is published, what it told before
  pub published_same : (e : Event) (n : ℕ) (outcome : Outcome) → IsBooked (Published e n) lane command moment outcome old new → Locks (Published e n) lane outcome old new → new.gone ≡ old.gone → swept_in new ≡ swept_in old
  published_same e n came.More booked locks gone = shown_swept e old.gone gone booked.1 locks.1
  published_same e n (came.Halted why) booked locks gone = shown_swept e old.gone gone booked.1 locks.1
  published_same e n came.Done booked locks gone = absurd booked
  published_same e n came.Blocked booked locks gone = absurd booked
  published_same e n (came.Refused f) booked locks gone = absurd booked

  pub told_on : (k : Kind) (outcome : Outcome) → IsBooked k lane command moment outcome old new → Locks k lane outcome old new → new.gone ≡ gone_in k outcome old.gone → AreAmong (taken_in k (books_of old)) (swept_in new)
  told_on (Remove e n) outcome booked locks gone o has = subst (λ (l : List ObjName). Contains l o) (sym (removed_more e n outcome booked locks gone).0) (Contains-append_right (swept_in old) (next_of (books_of old)) o has)
  told_on Quiet outcome booked locks gone o has = absurd (none_out o has)
  told_on Store outcome booked locks gone o has = absurd (none_out o has)
  told_on (Take wants) outcome booked locks gone o has = absurd (none_out o has)
  told_on (Claim name) outcome booked locks gone o has = absurd (none_out o has)
  told_on (Publish e) outcome booked locks gone o has = absurd (none_out o has)
  told_on (Published e n) outcome booked locks gone o has = absurd (none_out o has)
  told_on (MakeDurable e) outcome booked locks gone o has = absurd (none_out o has)

  pub prunes_on : (k : Kind) (outcome : Outcome) → IsBooked k lane command moment outcome old new → Locks k lane outcome old new → new.gone ≡ gone_in k outcome old.gone → (o : ObjName) → Contains (taken_in k (books_of old)) o → (p : Pending) → new.pending ≡ Some p → IsPrune p.event
  prunes_on (Remove e n) outcome booked locks gone o has p is =
      let h = holder_of old o (next_doomed (books_of old) o has) in
      let same : Some h.pending ≡ Some p = sym h.is ∙ sym (removed_more e n outcome booked locks gone).1 ∙ is in
      let one : h.pending ≡ p = cc in
      subst (λ (q : Pending). IsPrune q.event) one (prunes_of old o h)
  prunes_on Quiet outcome booked locks gone o has p is = absurd (none_out o has)
  prunes_on Store outcome booked locks gone o has p is = absurd (none_out o has)
  prunes_on (Take wants) outcome booked locks gone o has p is = absurd (none_out o has)
  prunes_on (Claim name) outcome booked locks gone o has p is = absurd (none_out o has)
  prunes_on (Publish e) outcome booked locks gone o has p is = absurd (none_out o has)
  prunes_on (Published e n) outcome booked locks gone o has p is = absurd (none_out o has)
  prunes_on (MakeDurable e) outcome booked locks gone o has p is = absurd (none_out o has)

  -- so many it takes
  pub takes_on : (k : Kind) (outcome : Outcome) → new.gone ≡ gone_in k outcome old.gone → ((e : Event) (n : ℕ) → k ≡ Remove e n → old.gone < length (books_of old).doomed) → TakesOne old new (taken_in k (books_of old))
  takes_on (Remove e n) outcome gone less = (let next = next_some old.gone (books_of old).doomed (less e n refl) in inr (omega (arith, gone), next.0, next.1))
  takes_on Quiet outcome gone less = inl (refl, omega (arith, gone))
  takes_on Store outcome gone less = inl (refl, omega (arith, gone))
  takes_on (Take wants) outcome gone less = inl (refl, omega (arith, gone))
  takes_on (Claim name) outcome gone less = inl (refl, omega (arith, gone))
  takes_on (Publish e) came.More gone less = inl (refl, omega (arith, gone))
  takes_on (Publish e) (came.Halted why) gone less = inl (refl, omega (arith, gone))
  takes_on (Publish e) came.Done gone less = inl (refl, omega (arith, gone))
  takes_on (Publish e) came.Blocked gone less = inl (refl, omega (arith, gone))
  takes_on (Publish e) (came.Refused f) gone less = inl (refl, omega (arith, gone))
  takes_on (Published e n) outcome gone less = inl (refl, omega (arith, gone))
  takes_on (MakeDurable e) outcome gone less = inl (refl, omega (arith, gone))

  -- ---- a step that doesn't remove

  -- nothing is removed where the lock is the lane's, or free
  module _ (mine : (x : ℕ) → old.exclusive ≡ Some x → x ≡ lane) where
    none_before : (k : Kind) → Holds k lane (books_of old) → ¬ (IsRemoving k) → swept_in old ≡ []
    none_before k holds not = none_of (swept_in old) (λ o has. (let h = swept_holder old o has in apart k holds not o h (mine h.pending.lane h.alone)))
      where
        event_is : (e : Event) (command : ℕ) → old.pending ≡ Some (record { lane = lane; command = command; event = e }) → ¬ (IsPrune e) → (o : ObjName) (h : IsHolder old o) → ⊥
        event_is e n is plain o h =
            let q : Pending = record { lane = lane; command = n; event = e } in
            let same : Some h.pending ≡ Some q = sym h.is ∙ is in
            let one : h.pending ≡ q = cc in
            plain (subst (λ (p : Pending). IsPrune p.event) one (prunes_of old o h))

        apart : (x : Kind) → Holds x lane (books_of old) → ¬ (IsRemoving x) → (o : ObjName) (h : IsHolder old o) → h.pending.lane ≡ lane → ⊥
        apart Quiet is plain o h own = is h.pending h.is own
        apart Store is plain o h own = is h.pending h.is own
        apart (Take wants) is plain o h own = is h.pending h.is own
        apart (Claim name) is plain o h own = is h.pending h.is own
        apart (Publish e) is plain o h own = is h.pending h.is own
        apart (Published e n) is plain o h own = event_is e is.0.command is.0.pending plain o h
        apart (Remove e n) is plain o h own = plain tt
        apart (MakeDurable e) is plain o h own = event_is e is.command is.pending plain o h

    pub none_behind : (k : Kind) (outcome : Outcome) → (outcome ≡ came.Blocked → ⊥) → Holds k lane (books_of old) → ¬ (IsRemoving k) → IsBooked k lane command moment outcome old new → Locks k lane outcome old new → new.gone ≡ gone_in k outcome old.gone → swept_in new ≡ []
    none_behind k outcome went holds not booked locks gone = none_of (swept_in new) (λ o has. (let h = swept_holder new o has in
        apart k outcome went holds not booked o (subst (λ n. Contains (take n (books_of new).doomed) o) gone has) h (exclusive_from k lane h.pending.lane outcome old new went locks h.alone)))
      where
        -- it was pending before, so it isn't the lane's
        was : (o : ObjName) (h : IsHolder new o) → new.pending ≡ old.pending → NotPending lane (books_of old) → (h.pending.lane ≡ lane) ⊎ (old.exclusive ≡ Some h.pending.lane) → ⊥
        was o h same none who = none h.pending (sym same ∙ h.is) (⊎_elim (λ own. own) (λ held. mine h.pending.lane held) who)

        event_is : (e : Event) (command : ℕ) → new.pending ≡ Some (record { lane = lane; command = command; event = e }) → ¬ (IsPrune e) → (o : ObjName) (h : IsHolder new o) → ⊥
        event_is e n is plain o h =
            let q : Pending = record { lane = lane; command = n; event = e } in
            let same : Some h.pending ≡ Some q = sym h.is ∙ is in
            let one : h.pending ≡ q = cc in
            plain (subst (λ (p : Pending). IsPrune p.event) one (prunes_of new o h))

        apart : (x : Kind) (u : Outcome) → (u ≡ came.Blocked → ⊥) → Holds x lane (books_of old) → ¬ (IsRemoving x) → IsBooked x lane command moment u old new → (o : ObjName) → Contains (take (gone_in x u old.gone) (books_of new).doomed) o → (h : IsHolder new o) → (h.pending.lane ≡ lane) ⊎ (old.exclusive ≡ Some h.pending.lane) → ⊥
        apart Quiet u went is plain b o has h who = was o h b.1 is who
        apart Store u went is plain b o has h who = was o h b.1 is who
        apart (Take wants) u went is plain b o has h who = was o h b.1 is who
        apart (Claim name) u went is plain b o has h who = was o h b.1 is who
        apart (Publish e) came.More went is plain b o has h who = none_out o has
        apart (Publish e) (came.Halted why) went is plain b o has h who = none_out o has
        apart (Publish e) (came.Refused f) went is plain b o has h who = was o h b.1 is who
        apart (Publish e) came.Done went is plain b o has h who = b
        apart (Publish e) came.Blocked went is plain b o has h who = went refl
        apart (Published e n) came.More went is plain b o has h who = event_is e is.0.command (b.1 ∙ is.0.pending) plain o h
        apart (Published e n) (came.Halted why) went is plain b o has h who = event_is e is.0.command (b.1 ∙ is.0.pending) plain o h
        apart (Published e n) (came.Refused f) went is plain b o has h who = b
        apart (Published e n) came.Done went is plain b o has h who = b
        apart (Published e n) came.Blocked went is plain b o has h who = b
        apart (Remove e n) u went is plain b o has h who = plain tt
        apart (MakeDurable e) came.Done went is plain b o has h who = (let z : None ≡ Some h.pending = sym b.0 ∙ h.is in cc)
        apart (MakeDurable e) (came.Halted why) went is plain b o has h who = event_is e is.command (b.1 ∙ is.pending) plain o h
        apart (MakeDurable e) (came.Refused f) went is plain b o has h who = b
        apart (MakeDurable e) came.More went is plain b o has h who = b
        apart (MakeDurable e) came.Blocked went is plain b o has h who = b

  -- it leaves what is told as removed as it was
  pub unremoving_same : (k : Kind) (outcome : Outcome) → (outcome ≡ came.Blocked → ⊥) → Holds k lane (books_of old) → ¬ (IsRemoving k) → IsBooked k lane command moment outcome old new → Locks k lane outcome old new → new.gone ≡ gone_in k outcome old.gone → swept_in new ≡ swept_in old
  unremoving_same k outcome went holds not booked locks gone = by old.exclusive refl
    where
      both : ((x : ℕ) → old.exclusive ≡ Some x → x ≡ lane) → swept_in new ≡ swept_in old
      both mine = none_behind mine k outcome went holds not booked locks gone ∙ sym (none_before mine k holds not)

      by : (lock : Option ℕ) → old.exclusive ≡ lock → swept_in new ≡ swept_in old
      by None is = both (λ x held. (let z : None ≡ Some x = sym is ∙ held in cc))
      by (Some y) is = here_or_apart y lane (λ own. both (λ x held. (let z : Some y ≡ Some x = sym is ∙ held in let e : y ≡ x = cc in sym e ∙ own))) (λ ne. others_same y ne is)

  -- and where it stores, nothing is removed
  pub storing_none : (k : Kind) → Holds k lane (books_of old) → ¬ (IsRemoving k) → Free old.exclusive lane → swept_in old ≡ []
  storing_none k holds not free = none_before free k holds not

-- ---- nothing else goes from its path

module _ (b : rust.Books) (v w : View) (actor lane : ℕ) (writes : Writes (Guarantee (books_of b) v actor lane) v w) where
  goes_or : (o : ObjName) → IsSum o.csum → shows w.now (path_of o) ≡ Vacant → (shows v.now (path_of o) ≡ Vacant) ⊎ (Contains (next_of (books_of b)) o × Free b.exclusive lane)
  goes_or o sum vacant = ⊎_elim
      (λ same. inl (sym same ∙ vacant))
      (λ m. ⊎_elim
      (λ comes. inl comes.0)
      (λ goes. inr (goes.1, (at_place (books_of b) v actor lane (path_of o) (shows w.now (path_of o)) (Object o.kind o.csum) (place-object o.kind o.csum sum) m).0))
      (m.objects o.kind o.csum (place-object o.kind o.csum sum)))
      (writes.now (path_of o))

  pub only_removing : RemovesOnly (next_of (books_of b)) v w
  only_removing o sum vacant = ⊎_elim (λ was. inl was) (λ goes. inr goes.0) (goes_or o sum vacant)

  pub only_idle : NotPending lane (books_of b) → RemovesOnly [] v w
  only_idle none o sum vacant = ⊎_elim
      (λ was. inl was)
      (λ goes. (let h = holder_of b o (next_doomed (books_of b) o goes.0) in absurd (none h.pending h.is (goes.1 h.pending.lane h.alone))))
      (goes_or o sum vacant)

-- by what the step itself writes
pub only_taking : (W : Path → Seen → Type 0) (v w : View) → Writes W v w → TakesNone W v → RemovesOnly [] v w
only_taking W v w writes takes o sum vacant = ⊎_elim (λ same. inl (sym same ∙ vacant)) (λ wrote. inl (takes o.kind o.csum sum (subst (W (path_of o)) vacant wrote))) (writes.now (path_of o))

pub only_nothing : (W : Path → Seen → Type 0) (v w : View) → Writes W v w → ((p : Path) (s : Seen) → W p s → ⊥) → RemovesOnly [] v w
only_nothing W v w writes none o sum vacant = ⊎_elim (λ same. inl (sym same ∙ vacant)) (λ wrote. absurd (none (path_of o) _ wrote)) (writes.now (path_of o))
