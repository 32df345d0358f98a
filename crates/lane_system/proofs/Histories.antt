-- How the history and what is pending go on in a step of a task.
use Rattle.std.proofs.Common.{◌≡◌, ◌⊎◌, inl, inr, ◌<◌, ◌≤◌, ◌+◌, ℕ, refl, sym, ◌∙◌, ap, subst, arith, List, [], ◌∷◌, ◌++◌, drop, length, length-append, slice_index_or, Some, None}
use Rattle.std.proofs.lemmas.List.{drop_at, drop_all}
use Rattle.rely_guarantee.specs.declared.books.Start.{Start}
use Rattle.rely_guarantee.specs.declared.books.Books as rust
use Rattle.rely_guarantee.specs.declared.books.Entry.{Entry}
use Rattle.rely_guarantee.specs.declared.event.Event.{Event}
use Rattle.rely_guarantee.specs.declared.kind.Outcome.{Outcome}
use Rattle.rely_guarantee.specs.declared.kind.Outcome.TheVariants as came
use Rattle.rely_guarantee.specs.Books.{books_of}
use Rattle.rely_guarantee.specs.Exact.{IsBooked}
use Rattle.rely_guarantee.specs.Laws.{Kind, Quiet, Store, Take, Claim, Publish, Published, Remove, MakeDurable, Holds, NotPending}
use Rattle.rely_guarantee.specs.State.{after, events_of, opening_state}
use Rattle.rely_guarantee.proofs.States.{after_push, events_push}
use Rattle.lane_system.specs.States.{now_of}

-- the command ended, and nothing of it is shown
abbrev pub EndsUnpublished : Outcome → Type 0
EndsUnpublished came.Done = Unit {0}
EndsUnpublished (came.Refused e) = Unit {0}
EndsUnpublished outcome = ⊥

-- one more entry, of the change that a step made to last
pub record IsLonger (k : Kind) (old new : List Entry) : Type 0 where
  pub entry : Entry
  pub kind : k ≡ MakeDurable entry.event
  pub grows : new ≡ old ++ entry ∷ []

module _ (lane command moment : ℕ) (old new : rust.Books) where
  settled : (e : Event) (outcome : Outcome) → Holds (MakeDurable e) lane (books_of old) → IsBooked (MakeDurable e) lane command moment outcome old new → (new.history.items ≡ old.history.items) ⊎ IsLonger (MakeDurable e) old.history.items new.history.items
  settled e came.Done h b = inr (record { entry = record { lane = lane; command = h.command; event = e; moment = moment }; kind = refl; grows = b.1 _ h.pending })
  settled e (came.Halted why) h b = inl b.0
  settled e came.More h b = absurd b
  settled e came.Blocked h b = absurd b
  settled e (came.Refused f) h b = absurd b

  published_so : (e : Event) (outcome : Outcome) → IsBooked (Publish e) lane command moment outcome old new → new.history.items ≡ old.history.items
  published_so e came.More b = b.0
  published_so e (came.Halted why) b = b.0
  published_so e came.Blocked b = b.0
  published_so e (came.Refused f) b = b.0
  published_so e came.Done b = absurd b

  held_so : (e : Event) (n : ℕ) (outcome : Outcome) → IsBooked (Published e n) lane command moment outcome old new → new.history.items ≡ old.history.items
  held_so e n came.More b = b.0
  held_so e n (came.Halted why) b = b.0
  held_so e n came.Blocked b = absurd b
  held_so e n (came.Refused f) b = absurd b
  held_so e n came.Done b = absurd b

  -- the history is as it was, or longer by the change that was made to last
  pub grown : (k : Kind) (outcome : Outcome) → Holds k lane (books_of old) → IsBooked k lane command moment outcome old new → (new.history.items ≡ old.history.items) ⊎ IsLonger k old.history.items new.history.items
  grown Quiet outcome h b = inl b.0
  grown Store outcome h b = inl b.0
  grown (Take wants) outcome h b = inl b.0
  grown (Claim name) outcome h b = inl b.0
  grown (Publish e) outcome h b = inl (published_so e outcome b)
  grown (Published e n) outcome h b = inl (held_so e n outcome b)
  grown (Remove e n) outcome h b = inl (held_so e n outcome b)
  grown (MakeDurable e) outcome h b = settled e outcome h b

  same_pending : NotPending lane (books_of old) → new.pending ≡ old.pending → NotPending lane (books_of new)
  same_pending none same p is = none p (sym same ∙ is)

  publish_over : (e : Event) (outcome : Outcome) → EndsUnpublished outcome → NotPending lane (books_of old) → IsBooked (Publish e) lane command moment outcome old new → NotPending lane (books_of new)
  publish_over e (came.Refused f) over none b = same_pending none b.1
  publish_over e came.Done over none b = absurd b
  publish_over e came.More over none b = absurd over
  publish_over e came.Blocked over none b = absurd over
  publish_over e (came.Halted why) over none b = absurd over

  published_over : (e : Event) (n : ℕ) (outcome : Outcome) → EndsUnpublished outcome → IsBooked (Published e n) lane command moment outcome old new → NotPending lane (books_of new)
  published_over e n (came.Refused f) over b = absurd b
  published_over e n came.Done over b = absurd b
  published_over e n came.More over b = absurd over
  published_over e n came.Blocked over b = absurd over
  published_over e n (came.Halted why) over b = absurd over

  make_durable_over : (e : Event) (outcome : Outcome) → EndsUnpublished outcome → IsBooked (MakeDurable e) lane command moment outcome old new → NotPending lane (books_of new)
  make_durable_over e came.Done over b = λ p is. absurd (let z : None ≡ Some p = sym b.0 ∙ is in cc)
  make_durable_over e (came.Refused f) over b = absurd b
  make_durable_over e came.More over b = absurd over
  make_durable_over e came.Blocked over b = absurd over
  make_durable_over e (came.Halted why) over b = absurd over

  -- nothing of a command that is over is pending
  pub over_idle : (k : Kind) (outcome : Outcome) → EndsUnpublished outcome → Holds k lane (books_of old) → IsBooked k lane command moment outcome old new → NotPending lane (books_of new)
  over_idle Quiet outcome over h b = same_pending h b.1
  over_idle Store outcome over h b = same_pending h b.1
  over_idle (Take wants) outcome over h b = same_pending h b.1
  over_idle (Claim name) outcome over h b = same_pending h b.1
  over_idle (Publish e) outcome over h b = publish_over e outcome over h b
  over_idle (Published e n) outcome over h b = published_over e n outcome over b
  over_idle (Remove e n) outcome over h b = published_over e n outcome over b
  over_idle (MakeDurable e) outcome over h b = make_durable_over e outcome over b

-- the state after what was added
module _ (k : Kind) (old new : rust.Books) where
  pub now_goes : new.start ≡ old.start → (new.history.items ≡ old.history.items) ⊎ IsLonger k old.history.items new.history.items
      → after (events_of (drop (length old.history.items) new.history.items)) (now_of old) ≡ (now_of new)
  now_goes start (inl same) =
      ap (λ l. after (events_of l) (now_of old)) (drop_all (length old.history.items) new.history.items (omega (arith, ap length same)))
      ∙ ap (λ l. after (events_of l) (opening_state old.start)) (sym same) ∙ ap (λ (s : Start). after (events_of new.history.items) (opening_state s)) (sym start)
  now_goes start (inr longer) =
      let x = longer.entry in
      ap (λ l. after (events_of l) (now_of old)) (ap (drop (length old.history.items)) longer.grows ∙ drop_at old.history.items (x ∷ []) (length old.history.items) refl)
      ∙ sym (after_push (events_of old.history.items) x.event (opening_state old.start))
      ∙ ap (λ l. after l (opening_state old.start)) (sym (events_push old.history.items x))
      ∙ ap (λ l. after (events_of l) (opening_state old.start)) (sym longer.grows)
      ∙ ap (λ (s : Start). after (events_of new.history.items) (opening_state s)) (sym start)

  -- at most one more entry
  pub few_more : (new.history.items ≡ old.history.items) ⊎ IsLonger k old.history.items new.history.items → length new.history.items ≤ length old.history.items + 1
  few_more (inl same) = omega (arith, ap length same)
  few_more (inr longer) = omega (arith, ap length longer.grows, length-append old.history.items (longer.entry ∷ []))

-- what was added
pub added : (k : Kind) (old new : List Entry) (P : Entry → Type 0) → ((x : Entry) → k ≡ MakeDurable x.event → P x) → (new ≡ old) ⊎ IsLonger k old new → (d : Entry) → length old < length new → P (slice_index_or new (length old) d)
added k old new P each (inl same) d longer = absurd (omega (arith, ap length same, longer))
added k old new P each (inr more) d longer =
    subst P (sym (ap (λ l. slice_index_or l (length old) d) more.grows ∙ get_or-append_at old more.entry d)) (each more.entry more.kind)
  where
    get_or-append_at : (xs : List Entry) (x d : Entry) → slice_index_or (xs ++ x ∷ []) (length xs) d ≡ x
    get_or-append_at [] x d = refl
    get_or-append_at (y ∷ xs) x d = get_or-append_at xs x d
