-- The stored history, which are the changes that last and the one that is shown, grows at its end alone.
use Rattle.std.proofs.Common.{◌≡◌, ℕ, refl, sym, ◌∙◌, ap, List, [], ◌∷◌, ◌++◌, append-nil, Option, Some, None}
use Rattle.rely_guarantee.specs.declared.books.Books as rust
use Rattle.rely_guarantee.specs.declared.books.Entry.{Entry}
use Rattle.rely_guarantee.specs.declared.books.Pending.{Pending}
use Rattle.rely_guarantee.specs.declared.event.Event.{Event}
use Rattle.rely_guarantee.specs.declared.kind.Outcome.{Outcome}
use Rattle.rely_guarantee.specs.declared.kind.Outcome.TheVariants as came
use Rattle.rely_guarantee.specs.Books.{Spared, books_of}
use Rattle.rely_guarantee.specs.Exact.{IsBooked, IsEntered, IsNoted, IsUnbooked}
use Rattle.rely_guarantee.specs.Laws.{Kind, Quiet, Store, Take, Claim, Publish, Published, Remove, MakeDurable, Holds, NotPending}
use Rattle.rely_guarantee.specs.State.{events_of, stored}
use Rattle.rely_guarantee.proofs.States.{events_push}

module _ (actor lane command moment : ℕ) (old new : rust.Books) (spared : Spared actor lane (books_of old) (books_of new)) where
  abbrev Grown : Type 0
  Grown = (more : List Event) × (stored new.history.items new.pending ≡ stored old.history.items old.pending ++ more)

  same : IsUnbooked old new → Grown
  same b = ([], ap (λ (h : List Entry). stored h new.pending) b.0 ∙ ap (λ (p : Option Pending). stored old.history.items p) b.1 ∙ sym (append-nil (stored old.history.items old.pending)))

  -- another's change stays pending, so none was
  none_before : (o : Option Pending) (e : Event) → old.pending ≡ o → NotPending lane (books_of old) → IsNoted lane command e old new → o ≡ None
  none_before None e is idle noted = refl
  none_before (Some p) e is idle noted =
      let stays : new.pending ≡ Some p = spared.pending p (idle p is) is in
      let mine : Pending = record { lane = lane; command = command; event = e } in
      let one : Some p ≡ Some mine = sym stays ∙ noted.1 in
      let it : p ≡ mine = cc in
      absurd (idle p is (ap (λ (q : Pending). q.lane) it))

  noted : (e : Event) → NotPending lane (books_of old) → IsNoted lane command e old new → Grown
  noted e idle b =
      let none : old.pending ≡ None = none_before old.pending e refl idle b in
      let before : stored old.history.items old.pending ≡ events_of old.history.items = ap (λ (p : Option Pending). stored old.history.items p) none ∙ append-nil (events_of old.history.items) in (
        e ∷ [],
        ap (λ (h : List Entry). stored h new.pending) b.0 ∙ ap (λ (p : Option Pending). stored old.history.items p) b.1 ∙ sym (ap (λ (l : List Event). l ++ e ∷ []) before),
      )

  entered : (p : Pending) → old.pending ≡ Some p → IsEntered moment old new → Grown
  entered p is b = (
    [],
    ap (λ (q : Option Pending). stored new.history.items q) b.0
        ∙ append-nil (events_of new.history.items)
        ∙ ap (λ (h : List Entry). events_of h) (b.1 p is)
        ∙ events_push old.history.items (record { lane = p.lane; command = p.command; event = p.event; moment = moment })
        ∙ sym (ap (λ (q : Option Pending). stored old.history.items q) is)
        ∙ sym (append-nil (stored old.history.items old.pending)),
  )

  publish_grows : (e : Event) (outcome : Outcome) → NotPending lane (books_of old) → IsBooked (Publish e) lane command moment outcome old new → Grown
  publish_grows e came.More idle b = noted e idle b
  publish_grows e (came.Halted why) idle b = noted e idle b
  publish_grows e came.Blocked idle b = same b
  publish_grows e (came.Refused f) idle b = same b
  publish_grows e came.Done idle b = absurd b

  published_grows : (e : Event) (n : ℕ) (outcome : Outcome) → IsBooked (Published e n) lane command moment outcome old new → Grown
  published_grows e n came.More b = same b
  published_grows e n (came.Halted why) b = same b
  published_grows e n came.Blocked b = absurd b
  published_grows e n (came.Refused f) b = absurd b
  published_grows e n came.Done b = absurd b

  make_durable_grows : (e : Event) (outcome : Outcome) → Holds (MakeDurable e) lane (books_of old) → IsBooked (MakeDurable e) lane command moment outcome old new → Grown
  make_durable_grows e came.Done h b = entered (record { lane = lane; command = h.command; event = e }) h.pending b
  make_durable_grows e (came.Halted why) h b = same b
  make_durable_grows e came.More h b = absurd b
  make_durable_grows e came.Blocked h b = absurd b
  make_durable_grows e (came.Refused f) h b = absurd b

  pub stored_grows : (k : Kind) (outcome : Outcome) → Holds k lane (books_of old) → IsBooked k lane command moment outcome old new → Grown
  stored_grows Quiet outcome h b = same b
  stored_grows Store outcome h b = same b
  stored_grows (Take wants) outcome h b = same b
  stored_grows (Claim name) outcome h b = same b
  stored_grows (Publish e) outcome h b = publish_grows e outcome h b
  stored_grows (Published e n) outcome h b = published_grows e n outcome b
  stored_grows (Remove e n) outcome h b = published_grows e n outcome b
  stored_grows (MakeDurable e) outcome h b = make_durable_grows e outcome h b
