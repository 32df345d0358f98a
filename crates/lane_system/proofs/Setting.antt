-- Which changes last behind a step of a task, and which one is published.
use Rattle.std.proofs.Common.{◌≡◌, inl, inr, ⊎_elim, ℕ, refl, sym, ◌∙◌, ap, subst, List, ◌∷◌, ◌++◌, [], Some, None}
use Rattle.rely_guarantee.specs.declared.books.Books as rust
use Rattle.rely_guarantee.specs.declared.books.Entry.{Entry}
use Rattle.rely_guarantee.specs.declared.books.Pending.{Pending}
use Rattle.rely_guarantee.specs.declared.event.Event.{Event}
use Rattle.rely_guarantee.specs.declared.kind.Outcome.{Outcome}
use Rattle.rely_guarantee.specs.declared.kind.Outcome.TheVariants as came
use Rattle.rely_guarantee.specs.Books.{books_of}
use Rattle.rely_guarantee.specs.Exact.{IsBooked, IsNoted, IsUnbooked}
use Rattle.rely_guarantee.specs.Laws.{Kind, Quiet, Store, Take, Claim, Publish, Published, Remove, MakeDurable, Holds}
use Rattle.lane_system.specs.Acts.{ComesFrom}
use Rattle.lane_system.specs.Lanes.{IsAt}
use Rattle.lane_system.proofs.Places.{at_split}

-- the change that such a step publishes is of this kind
abbrev pub Publishes : (Event → Type 0) → Kind → Type 0
Publishes P k = (e : Event) → k ≡ Publish e → P e

-- changes as they were
pub comes_same : (P : Event → Type 0) (old new : rust.Books) → IsUnbooked old new → ComesFrom P old new
comes_same P old new same = record {
  lasting = λ k x at. inl (subst (λ (h : List Entry). IsAt h k x) same.0 at);
  shown = λ p is. inl (sym same.1 ∙ is);
}

-- with one that is shown
comes_shown : (P : Event → Type 0) (lane command : ℕ) (e : Event) (old new : rust.Books) → IsNoted lane command e old new → P e → ComesFrom P old new
comes_shown P lane command e old new noted here = record {
  lasting = λ k x at. inl (subst (λ (h : List Entry). IsAt h k x) noted.0 at);
  shown = λ p is. (let pending : Pending = record { lane = lane; command = command; event = e } in
      let same : Some pending ≡ Some p = sym noted.1 ∙ is in
      let one : pending ≡ p = cc in
      inr (subst (λ (q : Pending). P q.event) one here));
}

-- with the one that was shown and lasts now
comes_settled : (P : Event → Type 0) (old new : rust.Books) (p : Pending) (moment : ℕ) → old.pending ≡ Some p → new.pending ≡ None → new.history.items ≡ old.history.items ++ record { lane = p.lane; command = p.command; event = p.event; moment = moment } ∷ [] → ComesFrom P old new
comes_settled P old new p moment pending none longer = record {
  lasting = λ k x at. ⊎_elim
      (λ was. inl was)
      (λ here. inr (p, pending, ap (λ (y : Entry). y.event) here.1))
      (at_split old.history.items (record { lane = p.lane; command = p.command; event = p.event; moment = moment }) x k (subst (λ (h : List Entry). IsAt h k x) longer at));
  shown = λ q is. absurd (let z : None ≡ Some q = sym none ∙ is in cc);
}

module _ (lane command moment : ℕ) (old new : rust.Books) (P : Event → Type 0) where
  abbrev Goes : Type 0
  Goes = ComesFrom P old new

  publish_step : (e : Event) (outcome : Outcome) → IsBooked (Publish e) lane command moment outcome old new → P e → Goes
  publish_step e came.More b is = comes_shown P lane command e old new b is
  publish_step e (came.Halted why) b is = comes_shown P lane command e old new b is
  publish_step e came.Blocked b is = comes_same P old new b
  publish_step e (came.Refused f) b is = comes_same P old new b
  publish_step e came.Done b is = absurd b

  published_step : (e : Event) (n : ℕ) (outcome : Outcome) → IsBooked (Published e n) lane command moment outcome old new → Goes
  published_step e n came.More b = comes_same P old new b
  published_step e n (came.Halted why) b = comes_same P old new b
  published_step e n came.Blocked b = absurd b
  published_step e n (came.Refused f) b = absurd b
  published_step e n came.Done b = absurd b

  make_durable_step : (e : Event) (outcome : Outcome) → Holds (MakeDurable e) lane (books_of old) → IsBooked (MakeDurable e) lane command moment outcome old new → Goes
  make_durable_step e came.Done h b = comes_settled P old new (record { lane = lane; command = h.command; event = e }) moment h.pending b.0 (b.1 _ h.pending)
  make_durable_step e (came.Halted why) h b = comes_same P old new b
  make_durable_step e came.More h b = absurd b
  make_durable_step e came.Blocked h b = absurd b
  make_durable_step e (came.Refused f) h b = absurd b

  pub comes_step : (k : Kind) (outcome : Outcome) → Holds k lane (books_of old) → IsBooked k lane command moment outcome old new → Publishes P k → Goes
  comes_step Quiet outcome h b shows = comes_same P old new b
  comes_step Store outcome h b shows = comes_same P old new b
  comes_step (Take wants) outcome h b shows = comes_same P old new b
  comes_step (Claim name) outcome h b shows = comes_same P old new b
  comes_step (Publish e) outcome h b shows = publish_step e outcome b (shows e refl)
  comes_step (Published e n) outcome h b shows = published_step e n outcome b
  comes_step (Remove e n) outcome h b shows = published_step e n outcome b
  comes_step (MakeDurable e) outcome h b shows = make_durable_step e outcome h b
