-- What the last step of a command sees of the state.
use Rattle.std.proofs.Common.{◌≡◌, ◌≢◌, inl, inr, ⊎_elim, ℕ, refl, sym, ◌∙◌, ap, subst, List, [], ◌∷◌, ◌++◌, Option, Some, None}
use Rattle.fs_trait.specs.View.{View}
use Rattle.fs_trait.specs.Image.{IsTree}
use Rattle.fs_trait.proofs.Images.{Image-now}
use Rattle.rely_guarantee.specs.declared.books.Start.{Start}
use Rattle.rely_guarantee.specs.declared.books.Books as rust
use Rattle.rely_guarantee.specs.declared.books.Entry.{Entry}
use Rattle.rely_guarantee.specs.declared.books.Pending.{Pending}
use Rattle.rely_guarantee.specs.declared.event.Event.{Event}
use Rattle.rely_guarantee.specs.declared.kind.Outcome.TheVariants as came
use Rattle.rely_guarantee.specs.Books.{Agrees, Books, Free, books_of}
use Rattle.rely_guarantee.specs.Exact.{IsBooked, IsUnbooked, Opens}
use Rattle.rely_guarantee.specs.Laws.{Kind, Quiet, Store, Take, Claim, Publish, Published, Remove, MakeDurable, Holds, NotPending}
use Rattle.rely_guarantee.specs.SystemInvariant.{Stands}
use Rattle.rely_guarantee.specs.State.{Topic, gives, is_topic, target, after, events_of, opening_state, SystemState}
use Rattle.rely_guarantee.proofs.Goods.{fits_all}
use Rattle.rely_guarantee.proofs.States.{after_push, events_push, next_here, topic_self}
use Rattle.command.specs.Sees.{HoldsOff, IsState, Sees}
use Rattle.lane_system.specs.States.{now_of}

free_of : (turn : Option ℕ) (lane : ℕ) → turn ≡ Some lane → Free turn lane
free_of turn lane has x is = let e : Some x ≡ Some lane = sym is ∙ has in cc

-- where the lane's command has nothing shown and the Turn is free for it, nothing is pending
none_pending : (turn : Option ℕ) (pending : Option Pending) (lane : ℕ) → ((p : Pending) → pending ≡ Some p → turn ≡ Some p.lane) → ((p : Pending) → pending ≡ Some p → p.lane ≢ lane) → Free turn lane → pending ≡ None
none_pending turn None lane owner none free = refl
none_pending turn (Some p) lane owner none free = absurd (none p refl (free p.lane (owner p refl)))

-- and there the disk has the state of the history
pub state_of : (start : SystemState) (entries : List Entry) (pending : Option Pending) (v : View) → Stands start entries pending v → pending ≡ None → IsTree v.now → IsState v.now (after (events_of entries) start).refs
state_of start entries pending v stands none tree =
    let f = fits_all start entries v (subst (λ o. Stands start entries o v) none stands) v.now (Image-now v tree) in
    record { tree = tree; sane = f.0; logical = f.1 }

-- a lane that holds others off may have the ref lock
held_free : (lane : ℕ) (b : Books) → Agrees b → HoldsOff lane b → Free b.turn lane
held_free lane b agrees (inl mine) = free_of b.turn lane mine
held_free lane b agrees (inr alone) = λ y is. agrees.turn lane y alone is

module _ (lane command moment : ℕ) (old new : rust.Books) (agrees : Agrees (books_of old)) (start : new.start ≡ old.start) (owner : (p : Pending) → old.pending ≡ Some p → old.turn ≡ Some p.lane)
    (v w : View) (stands : Stands (opening_state old.start) old.history.items old.pending v) (then : Stands (opening_state new.start) new.history.items new.pending w) (tree : IsTree v.now) (tree' : IsTree w.now) where
  before : NotPending lane (books_of old) → Free old.turn lane → IsUnbooked old new → IsState v.now (now_of new).refs
  before none free same =
      let is : (now_of new).refs ≡ (now_of old).refs = ap (λ (h : List Entry). (after (events_of h) (opening_state new.start)).refs) same.0 ∙ ap (λ (x : Start). (after (events_of old.history.items) (opening_state x)).refs) start in
      subst (IsState v.now) (sym is) (state_of (opening_state old.start) old.history.items old.pending v stands (none_pending old.turn old.pending lane owner none free) tree)

  entered : (x : Entry) → new.history.items ≡ old.history.items ++ x ∷ [] → (t : Topic) → target x.event ≡ Some t → (now_of new).refs t ≡ gives x.event
  entered x grows t is =
      let from : SystemState = opening_state new.start in
      let past : SystemState = after (events_of old.history.items) from in
      ap (λ (h : List Entry). (after (events_of h) from).refs t) grows
      ∙ ap (λ (l : List Event). (after l from).refs t) (events_push old.history.items x)
      ∙ ap (λ (s : SystemState). s.refs t) (after_push (events_of old.history.items) x.event from)
      ∙ next_here x.event t past.refs (ap (λ o. is_topic o t) is ∙ topic_self t)

  pub sees : (k : Kind) → Holds k lane (books_of old) → Opens k lane (books_of old) → IsBooked k lane command moment came.Done old new → Sees k lane (books_of old) v w (now_of new).refs
  sees Quiet holds opens booked = λ has. before holds (held_free lane (books_of old) agrees has) booked
  sees Store holds opens booked = λ has. before holds (held_free lane (books_of old) agrees has) booked
  sees (Take wants) holds opens booked = λ has. before holds (⊎_elim (λ asks. (opens.turn asks).1) (λ more. ⊎_elim (λ asks. (opens.exclusive asks).1) (λ mine. held_free lane (books_of old) agrees mine) more) has) booked
  sees (Claim name) holds opens booked = λ has. before holds (held_free lane (books_of old) agrees has) booked
  sees (Publish e) holds opens booked = absurd booked
  sees (Published e owed) holds opens booked = absurd booked
  sees (Remove e owed) holds opens booked = absurd booked
  sees (MakeDurable e) holds opens booked = (
    state_of (opening_state new.start) new.history.items new.pending w then booked.0 tree',
    entered (record { lane = lane; command = holds.command; event = e; moment = moment }) (booked.1 _ holds.pending),
  )
