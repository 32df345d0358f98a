-- What the last step of a command does to the books, and what its answer is by how it ended.
use Rattle.std.proofs.Common.{◌≡◌, ◌⊎◌, inl, inr, ⊎_elim, ℕ, refl, sym, ◌∙◌, ap, [], ◌∷◌, ◌++◌, Option, Some, None}
use Rattle.ost_types.specs.Path.{Path}
use Rattle.fs_trait.specs.declared.types.FsErr.{FsErr}
use Rattle.fs_trait.specs.declared.types.FsErr.TheVariants as err
use Rattle.rely_guarantee.specs.declared.books.Books as rust
use Rattle.rely_guarantee.specs.declared.books.Entry.{Entry}
use Rattle.rely_guarantee.specs.declared.books.Pending.{Pending}
use Rattle.rely_guarantee.specs.declared.event.Event.{Event}
use Rattle.rely_guarantee.specs.declared.kind.Halt.{Halt}
use Rattle.rely_guarantee.specs.declared.kind.Halt.TheVariants as halt
use Rattle.rely_guarantee.specs.declared.kind.Outcome.{Outcome}
use Rattle.rely_guarantee.specs.declared.kind.Outcome.TheVariants as came
use Rattle.rely_guarantee.specs.Books.{books_of}
use Rattle.rely_guarantee.specs.Exact.{IsBooked}
use Rattle.rely_guarantee.specs.Laws.{Kind, Quiet, Store, Take, Claim, Publish, Published, Remove, MakeDurable, IsMakeDurable, Holds}
use Rattle.command.specs.declared.ended.Ended.{Ended}
use Rattle.command.specs.declared.ended.Ended.TheVariants as ended
use Rattle.lane_system.specs.Replies.{EndsBy, IsCutOff}
use Rattle.lane_system.specs.Steps.{HasEnded, IsCutShort, IsEndedAs, IsRefusal, IsStray}

-- The change was made to last: it is the last entry, of this command.
pub record IsSettled (lane number : ℕ) (k : Kind) (old new : rust.Books) : Type 0 where
  pub entry : Entry
  pub kind : k ≡ MakeDurable entry.event
  pub grows : new.history.items ≡ old.history.items ++ entry ∷ []
  pub owner : entry.lane ≡ lane
  pub command : entry.command ≡ number

-- what is pending for the lane is its command's
abbrev pub IsMine : ℕ → ℕ → rust.Books → Type 0
IsMine lane number b = (p : Pending) → b.pending ≡ Some p → p.lane ≡ lane → p.command ≡ number

module _ (lane number moment : ℕ) (old new : rust.Books) where
  abbrev pub Ends : Kind → Outcome → Type 0
  Ends k outcome = ((outcome ≡ came.Done) × IsSettled lane number k old new) ⊎ ((new.history.items ≡ old.history.items) × (outcome ≡ came.Done → IsMakeDurable k → ⊥))

  -- a step that makes a change durable adds it to the history, and no other last step changes that
  pub ends : IsMine lane number old → (k : Kind) (outcome : Outcome) → HasEnded outcome → Holds k lane (books_of old) → IsBooked k lane number moment outcome old new → Ends k outcome
  ends mine Quiet outcome end h b = inr (b.0, λ is s. s)
  ends mine Store outcome end h b = inr (b.0, λ is s. s)
  ends mine (Take wants) outcome end h b = inr (b.0, λ is s. s)
  ends mine (Claim name) outcome end h b = inr (b.0, λ is s. s)
  ends mine (Publish e) (came.Halted why) end h b = inr (b.0, λ is s. s)
  ends mine (Publish e) (came.Refused f) end h b = inr (b.0, λ is s. s)
  ends mine (Publish e) came.Done end h b = absurd b
  ends mine (Publish e) came.More end h b = absurd end
  ends mine (Publish e) came.Blocked end h b = absurd end
  ends mine (Published e n) (came.Halted why) end h b = inr (b.0, λ is s. s)
  ends mine (Published e n) (came.Refused f) end h b = absurd b
  ends mine (Published e n) came.Done end h b = absurd b
  ends mine (Published e n) came.More end h b = absurd end
  ends mine (Published e n) came.Blocked end h b = absurd end
  ends mine (Remove e n) (came.Halted why) end h b = inr (b.0, λ is s. s)
  ends mine (Remove e n) (came.Refused f) end h b = absurd b
  ends mine (Remove e n) came.Done end h b = absurd b
  ends mine (Remove e n) came.More end h b = absurd end
  ends mine (Remove e n) came.Blocked end h b = absurd end
  ends mine (MakeDurable e) came.Done end h b = inl (
    refl,
    record {
      entry = record { lane = lane; command = h.command; event = e; moment = moment };
      kind = refl;
      grows = b.1 _ h.pending;
      owner = refl;
      command = mine _ h.pending refl;
    },
  )
  ends mine (MakeDurable e) (came.Halted why) end h b = inr (b.0, λ is s. (let z : came.Halted why ≡ came.Done = is in cc))
  ends mine (MakeDurable e) (came.Refused f) end h b = absurd b
  ends mine (MakeDurable e) came.More end h b = absurd end
  ends mine (MakeDurable e) came.Blocked end h b = absurd end

  abbrev pub IsPublishedNow : Kind → Pending → Type 0
  IsPublishedNow k p = (old.pending ≡ Some p) ⊎ ((e : Event) × (k ≡ Publish e) × (p ≡ record { lane = lane; command = number; event = e }))

  noted : (e : Event) (p : Pending) → new.pending ≡ Some (record { lane = lane; command = number; event = e }) → new.pending ≡ Some p → IsPublishedNow (Publish e) p
  noted e p here is =
      let q : Pending = record { lane = lane; command = number; event = e } in
      let same : Some p ≡ Some q = sym is ∙ here in
      inr (e, refl, (let one : p ≡ q = cc in one))

  was : (k : Kind) (p : Pending) → new.pending ≡ old.pending → new.pending ≡ Some p → IsPublishedNow k p
  was k p same is = inl (sym same ∙ is)

  -- what is pending was so before, or is what the step shows
  pub pending_by : (k : Kind) (outcome : Outcome) → IsBooked k lane number moment outcome old new → (p : Pending) → new.pending ≡ Some p → IsPublishedNow k p
  pending_by Quiet outcome b p is = was Quiet p b.1 is
  pending_by Store outcome b p is = was Store p b.1 is
  pending_by (Take wants) outcome b p is = was (Take wants) p b.1 is
  pending_by (Claim name) outcome b p is = was (Claim name) p b.1 is
  pending_by (Publish e) came.More b p is = noted e p b.1 is
  pending_by (Publish e) (came.Halted why) b p is = noted e p b.1 is
  pending_by (Publish e) came.Blocked b p is = was (Publish e) p b.1 is
  pending_by (Publish e) (came.Refused f) b p is = was (Publish e) p b.1 is
  pending_by (Publish e) came.Done b p is = absurd b
  pending_by (Published e n) came.More b p is = was (Published e n) p b.1 is
  pending_by (Published e n) (came.Halted why) b p is = was (Published e n) p b.1 is
  pending_by (Published e n) came.Blocked b p is = absurd b
  pending_by (Published e n) (came.Refused f) b p is = absurd b
  pending_by (Published e n) came.Done b p is = absurd b
  pending_by (Remove e n) came.More b p is = was (Remove e n) p b.1 is
  pending_by (Remove e n) (came.Halted why) b p is = was (Remove e n) p b.1 is
  pending_by (Remove e n) came.Blocked b p is = absurd b
  pending_by (Remove e n) (came.Refused f) b p is = absurd b
  pending_by (Remove e n) came.Done b p is = absurd b
  pending_by (MakeDurable e) came.Done b p is = absurd (let z : None ≡ Some p = sym b.0 ∙ is in cc)
  pending_by (MakeDurable e) (came.Halted why) b p is = was (MakeDurable e) p b.1 is
  pending_by (MakeDurable e) came.More b p is = absurd b
  pending_by (MakeDurable e) came.Blocked b p is = absurd b
  pending_by (MakeDurable e) (came.Refused f) b p is = absurd b

  -- a step that goes on leaves the history as it was
  pub more_history : (k : Kind) → IsBooked k lane number moment came.More old new → new.history.items ≡ old.history.items
  more_history Quiet b = b.0
  more_history Store b = b.0
  more_history (Take wants) b = b.0
  more_history (Claim name) b = b.0
  more_history (Publish e) b = b.0
  more_history (Published e n) b = b.0
  more_history (Remove e n) b = b.0
  more_history (MakeDurable e) b = absurd b

module _ {T A : Type 0} (answer : T → Option A) (refused : Option Path) (t : T) (faults : ℕ) where
  stray_answer : (o : Option Path) (a : A) → IsStray o (ended.Answered a) → ⊥
  stray_answer None a is = cc
  stray_answer (Some path) a is = ⊎_elim (λ e. cc) (λ e. cc) is

  short_answer : (why : Halt) (a : A) → IsCutShort why refused faults (ended.Answered a) → ⊥
  short_answer halt.Failed a is = cc
  short_answer halt.Strayed a is = stray_answer refused a is

  refused_answer : (e : FsErr) (a : A) → IsRefusal e (ended.Answered a) → ⊥
  refused_answer err.NoMemory a is = cc
  refused_answer err.Failed a is = cc
  refused_answer err.Exists a is = is
  refused_answer err.Missing a is = is
  refused_answer err.NotFolder a is = is
  refused_answer err.NotEmpty a is = is

  -- only a command that is done has an answer of its own,
  pub answer_only : (outcome : Outcome) (a : A) → IsEndedAs answer refused outcome t faults (ended.Answered a) → (outcome ≡ came.Done) × (answer t ≡ Some a)
  answer_only came.Done a is = (refl, is)
  answer_only (came.Halted why) a is = absurd (short_answer why a is)
  answer_only (came.Refused e) a is = absurd (refused_answer e a is)
  answer_only came.Blocked a is = absurd is
  answer_only came.More a is = absurd is

  stray_halted : (o : Option Path) (n : ℕ) → IsStray {A = A} o (ended.Halted n) → ⊥
  stray_halted None n is = cc
  stray_halted (Some path) n is = ⊎_elim (λ e. cc) (λ e. cc) is

  refused_halted : (e : FsErr) (n : ℕ) → IsRefusal {A = A} e (ended.Halted n) → ⊥
  refused_halted err.NoMemory n is = cc
  refused_halted err.Failed n is = cc
  refused_halted err.Exists n is = is
  refused_halted err.Missing n is = is
  refused_halted err.NotFolder n is = is
  refused_halted err.NotEmpty n is = is

  -- only a failed change ends all with the count of failed calls,
  pub halted_only : (outcome : Outcome) (n : ℕ) → IsEndedAs answer refused outcome t faults (ended.Halted n) → (outcome ≡ came.Halted halt.Failed) × (n ≡ faults)
  halted_only (came.Halted halt.Failed) n is = (refl, (let e : n ≡ faults = cc in e))
  halted_only (came.Halted halt.Strayed) n is = absurd (stray_halted refused n is)
  halted_only came.Done n is = absurd is
  halted_only (came.Refused e) n is = absurd (refused_halted e n is)
  halted_only came.Blocked n is = absurd is
  halted_only came.More n is = absurd is

  refused_outside : (e : FsErr) (path : Path) → IsRefusal {A = A} e (ended.Outside path) → ⊥
  refused_outside err.NoMemory path is = cc
  refused_outside err.Failed path is = cc
  refused_outside err.Exists path is = is
  refused_outside err.Missing path is = is
  refused_outside err.NotFolder path is = is
  refused_outside err.NotEmpty path is = is

  stray_outside : (o : Option Path) (path : Path) → IsStray {A = A} o (ended.Outside path) → o ≡ Some path
  stray_outside None path is = cc
  stray_outside (Some p) path is = ⊎_elim (λ e. (let same : path ≡ p = cc in ap Some (sym same))) (λ e. cc) is

  -- and only a call that was refused for what stands at its path ends all with this path
  pub outside_only : (outcome : Outcome) (path : Path) → IsEndedAs answer refused outcome t faults (ended.Outside path) → (outcome ≡ came.Halted halt.Strayed) × (refused ≡ Some path)
  outside_only (came.Halted halt.Strayed) path is = (refl, stray_outside refused path is)
  outside_only (came.Halted halt.Failed) path is = cc
  outside_only (came.Refused e) path is = absurd (refused_outside e path is)
  outside_only came.Done path is = absurd is
  outside_only came.Blocked path is = absurd is
  outside_only came.More path is = absurd is

  refused_failed : (e : FsErr) → IsRefusal {A = A} e ended.DiskFault → e ≡ err.Failed
  refused_failed err.Failed is = refl
  refused_failed err.NoMemory is = cc
  refused_failed err.Exists is = absurd is
  refused_failed err.Missing is = absurd is
  refused_failed err.NotFolder is = absurd is
  refused_failed err.NotEmpty is = absurd is

  stray_failed : (o : Option Path) → IsStray {A = A} o ended.DiskFault → ⊥
  stray_failed None is = cc
  stray_failed (Some path) is = ⊎_elim (λ e. cc) (λ e. cc) is

  -- a failed call ends one alone where it is one that reads
  pub failed_only : (outcome : Outcome) → IsEndedAs answer refused outcome t faults ended.DiskFault → outcome ≡ came.Refused err.Failed
  failed_only (came.Refused e) is = ap came.Refused (refused_failed e is)
  failed_only (came.Halted halt.Failed) is = cc
  failed_only (came.Halted halt.Strayed) is = absurd (stray_failed refused is)
  failed_only came.Done is = absurd is
  failed_only came.Blocked is = absurd is
  failed_only came.More is = absurd is

  -- one that was cut short says so, where the view isn't told if a call was refused for what stands at its path
  short_off : (told : Type 0) (why : Halt) → (why ≡ halt.Strayed → ¬ told) → (x : Ended A) → IsCutShort why refused faults x → IsCutOff told x
  short_off told why never (ended.Halted n) is = tt
  short_off told halt.Strayed never (ended.Outside path) is = never refl
  short_off told halt.Failed never (ended.Outside path) is = cc
  short_off told halt.Strayed never ended.NoMemory is = never refl
  short_off told halt.Failed never ended.NoMemory is = cc
  short_off told why never (ended.Answered a) is = absurd (short_answer why a is)
  short_off told halt.Failed never ended.DiskFault is = cc
  short_off told halt.Strayed never ended.DiskFault is = absurd (stray_failed refused is)

  pub cut_off : (told : Type 0) (why : Halt) → (why ≡ halt.Strayed → ¬ told) → (x : Ended A) → IsEndedAs answer refused (came.Halted why) t faults x → IsCutOff told x
  cut_off told why never x is = short_off told why never x is

  -- what ended all is what the answer says that tells so
  pub ends_by : (halted : Option Halt) (outcome : Outcome) → ((why : Halt) → outcome ≡ came.Halted why → halted ≡ Some why) → (x : Ended A) → IsEndedAs answer refused outcome t faults x → EndsBy halted refused faults x
  ends_by halted outcome why (ended.Halted n) is = (let o = halted_only outcome n is in (why halt.Failed o.0, o.1))
  ends_by halted outcome why (ended.Outside path) is = (let o = outside_only outcome path is in (why halt.Strayed o.0, o.1))
  ends_by halted outcome why (ended.Answered a) is = tt
  ends_by halted outcome why ended.NoMemory is = tt
  ends_by halted outcome why ended.DiskFault is = tt
