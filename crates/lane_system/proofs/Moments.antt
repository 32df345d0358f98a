-- The moments of changes, and the count of failed calls, over a step.
use Rattle.std.proofs.Common.{◌≡◌, ◌⊎◌, inl, inr, ⊎_elim, ◌≤◌, ℕ, zero, suc, refl, sym, ◌∙◌, subst, arith, List, ◌∷◌, ◌++◌, [], length, Option, Some}
use Rattle.fs_trait.specs.declared.types.FsErr.{FsErr}
use Rattle.fs_trait.specs.declared.types.FsErr.TheVariants as err
use Rattle.fs_trait.specs.Effect.{OfNone}
use Rattle.rely_guarantee.specs.declared.books.Books as rust
use Rattle.rely_guarantee.specs.declared.books.Entry.{Entry}
use Rattle.rely_guarantee.specs.declared.event.Event.{Event}
use Rattle.rely_guarantee.specs.declared.kind.Halt.{Halt}
use Rattle.rely_guarantee.specs.declared.kind.Halt.TheVariants as halt
use Rattle.rely_guarantee.specs.declared.kind.Outcome.{Outcome}
use Rattle.rely_guarantee.specs.declared.kind.Outcome.TheVariants as came
use Rattle.rely_guarantee.specs.Books.{books_of}
use Rattle.rely_guarantee.specs.Exact.{Causes, HasRisen, IsBooked, IsLive}
use Rattle.rely_guarantee.specs.Laws.{Kind, Quiet, Store, Take, Claim, Publish, Published, Remove, MakeDurable, Holds}
use Rattle.rely_guarantee.specs.State.{Ascends}
use Rattle.lane_system.specs.Acts.{Fails}
use Rattle.lane_system.specs.Lanes.{IsAt}
use Rattle.lane_system.proofs.Histories.{grown}
use Rattle.lane_system.proofs.Places.{at_split}

-- one more entry, of this moment
abbrev pub IsLater : ℕ → List Entry → List Entry → Type 0
IsLater moment old new = (new ≡ old) ⊎ ((e : Entry) × (e.moment ≡ moment) × (new ≡ old ++ e ∷ []))

module _ (lane command moment : ℕ) (old new : rust.Books) where
  unsettled : (k : Kind) (outcome : Outcome) → ((e : Event) → k ≡ MakeDurable e → ⊥) → Holds k lane (books_of old) → IsBooked k lane command moment outcome old new → IsLater moment old.history.items new.history.items
  unsettled k outcome never h b = ⊎_elim (λ same. inl same) (λ longer. absurd (never longer.entry.event longer.kind)) (grown lane command moment old new k outcome h b)

  settled : (e : Event) (outcome : Outcome) → Holds (MakeDurable e) lane (books_of old) → IsBooked (MakeDurable e) lane command moment outcome old new → IsLater moment old.history.items new.history.items
  settled e came.Done h b = inr (record { lane = lane; command = h.command; event = e; moment = moment }, refl, b.1 _ h.pending)
  settled e (came.Halted why) h b = inl b.0
  settled e came.More h b = absurd b
  settled e came.Blocked h b = absurd b
  settled e (came.Refused f) h b = absurd b

  pub moment_is : (k : Kind) (outcome : Outcome) → Holds k lane (books_of old) → IsBooked k lane command moment outcome old new → IsLater moment old.history.items new.history.items
  moment_is Quiet outcome h b = unsettled Quiet outcome (λ e is. cc) h b
  moment_is Store outcome h b = unsettled Store outcome (λ e is. cc) h b
  moment_is (Take wants) outcome h b = unsettled (Take wants) outcome (λ e is. cc) h b
  moment_is (Claim name) outcome h b = unsettled (Claim name) outcome (λ e is. cc) h b
  moment_is (Publish d) outcome h b = unsettled (Publish d) outcome (λ e is. cc) h b
  moment_is (Published d n) outcome h b = unsettled (Published d n) outcome (λ e is. cc) h b
  moment_is (Remove d n) outcome h b = unsettled (Remove d n) outcome (λ e is. cc) h b
  moment_is (MakeDurable d) outcome h b = settled d outcome h b

pub later_at : (moment : ℕ) (old new : List Entry) → IsLater moment old new → (k : ℕ) (e : Entry) → IsAt new k e → IsAt old k e ⊎ ((length old ≤ k) × (e.moment ≡ moment))
later_at moment old new (inl same) k e at = inl (subst (λ (l : List Entry). IsAt l k e) same at)
later_at moment old new (inr more) k e at = ⊎_elim
    (λ before. inl before)
    (λ here. inr (omega (arith, here.0), subst (λ (x : Entry). x.moment ≡ moment) (sym here.1) more.1))
    (at_split old more.0 e k (subst (λ (l : List Entry). IsAt l k e) more.2 at))

-- only a failed change ends all commands for a failed call
pub fails_by : (before now : ℕ) (outcome : Outcome) (old new : Option Halt) → Causes before now outcome → IsLive outcome old new → Fails before now old new
fails_by before now (came.Halted halt.Failed) old new cause live = (cause.0, λ is. inr cause.1)
fails_by before now (came.Halted halt.Strayed) old new cause live = (cause.0, λ is. (let z : Some halt.Strayed ≡ Some halt.Failed = sym live ∙ is in cc))
fails_by before now came.Blocked old new cause live = (cause.0, λ is. inl (sym live ∙ is))
fails_by before now came.More old new cause live = (cause.0, λ is. inl (sym live ∙ is))
fails_by before now came.Done old new cause live = (cause.0, λ is. inl (sym live ∙ is))
fails_by before now (came.Refused e) old new cause live = (cause.0, λ is. inl (sym live ∙ is))

-- a step is refused only for a failed call and for want of memory
pub refused_named : (before now : ℕ) (outcome : Outcome) → Causes before now outcome → (e : FsErr) → outcome ≡ came.Refused e → OfNone e
refused_named before now outcome cause e is = by e (subst (Causes before now) is cause).1
  where
    by : (x : FsErr) → HasRisen before now (came.Refused x) → OfNone x
    by err.Failed rose = tt
    by err.NoMemory rose = tt
    by err.Exists none = none
    by err.Missing none = none
    by err.NotFolder none = none
    by err.NotEmpty none = none

-- the moments of a history lie between the opening and its end
pub opened_by : (from : ℕ) (es : List Entry) (to : ℕ) → Ascends from es to → from ≤ to
opened_by from [] to up = up
opened_by from (e ∷ es) to up = let x = opened_by e.moment es to up.1 in omega (arith, up.0, x)

pub moment_by : (from : ℕ) (es : List Entry) (to : ℕ) → Ascends from es to → (k : ℕ) (e : Entry) → IsAt es k e → e.moment ≤ to
moment_by from [] to up k e at = absurd (omega (arith, at.0))
moment_by from (x ∷ es) to up zero e at = subst (λ (y : Entry). y.moment ≤ to) at.1 (opened_by x.moment es to up.1)
moment_by from (x ∷ es) to up (suc k) e at = moment_by x.moment es to up.1 k e (omega (arith, at.0), at.1)
