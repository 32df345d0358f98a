-- The one act of all tasks, from their laws.
use Rattle.std.proofs.Common.{◌≡◌, ◌≢◌, ◌⊎◌, inl, ⊎_elim, arith, ◌<◌, ◌≤◌, ℕ, refl, sym, ◌∙◌, ap, subst, [], append-nil, Contains, Option, Some, Result, Err}
use Rattle.ost_types.specs.Path.{Path}
use Rattle.fs_trait.specs.declared.task.StepResult.{StepResult}
use Rattle.fs_trait.specs.declared.task.StepResult.TheVariants as turn
use Rattle.fs_trait.specs.View.{View}
use Rattle.fs_trait.specs.Image.{Told}
use Rattle.fs_trait.specs.Seen.{Seen}
use Rattle.fs_trait.specs.Change.{Writes}
use Rattle.fs_trait.specs.Effect.{Elapses, HasCause, OfNone}
use Rattle.fs_trait.specs.declared.types.FsErr.{FsErr}
use Rattle.fs_trait.specs.declared.types.FsErr.TheVariants as err
use Rattle.fs_trait.proofs.Kept.{weaker}
use Rattle.rely_guarantee.specs.declared.books.Base.{Base}
use Rattle.rely_guarantee.specs.declared.books.Books as rust
use Rattle.rely_guarantee.specs.declared.books.Claim as claim
use Rattle.rely_guarantee.specs.declared.books.Pending.{Pending}
use Rattle.rely_guarantee.specs.declared.event.Event.{Event}
use Rattle.rely_guarantee.specs.declared.kind.Outcome.{Outcome}
use Rattle.rely_guarantee.specs.declared.kind.Outcome.TheVariants as came
use Rattle.rely_guarantee.specs.Exact as exact
use Rattle.rely_guarantee.specs.Exact.{IsRefusedBy, why_of}
use Rattle.rely_guarantee.specs.State.{acked, stored, opening_state}
use Rattle.rely_guarantee.specs.Books.{Books, books_of, Spared, Keeps}
use Rattle.rely_guarantee.specs.Rely.{Guarantee, Interference}
use Rattle.rely_guarantee.specs.SystemInvariant.{Ordered, SystemInvariant}
use Rattle.rely_guarantee.specs.Change.{Still}
use Rattle.rely_guarantee.specs.Laws.{Kind, Quiet, Store, Take, Claim, Publish, Published, Remove, MakeDurable, Laws, StepObligation, Within, IsQuiet, IsPlain, IsBy, IsBefore, Owned, Chain, Holds, Stood, NotPending, IsPending, Runs, Ready, Tells, Acts, Ends, IsEnd}
use Rattle.rely_guarantee.proofs.States.{ascends_later}
use Rattle.rely_guarantee.proofs.Knowns.{stands_quiet}
use Rattle.rely_guarantee.proofs.Claiming.{claims_stand}
use Rattle.rely_guarantee.proofs.Locking.{listed_same, spared_refl}
use Rattle.rely_guarantee.proofs.Sounds.{IsFs, sound_goes}

pub told_same : {P : View → Type 0} (view : Option View) (w : View) → view ≡ Some w → Told view P → P w
told_same {P} view w is told = let e : Some told.0 ≡ Some w = sym told.1 ∙ is in let k : told.0 ≡ w = cc in subst P k told.2

pub keeps_refl : (lane : ℕ) (b : Books) → Keeps lane b b
keeps_refl lane b = record { exclusive = λ k. k; turn = λ k. k; sysroot = λ k. k; holds = λ h l k. k; wants = λ w l k. k; pins = λ p l k. k; pinned = λ p l k. k; claims = λ c k. k; others = λ c l k. k; start = refl; listed = refl }

-- what is to be held for the next step
pub before_holds : (next : Kind) (lane : ℕ) (b : Books) → IsBefore next → NotPending lane b → Holds next lane b
before_holds Quiet lane b is none = none
before_holds Store lane b is none = none
before_holds (Take wants) lane b is none = none
before_holds (Claim name) lane b is none = none
before_holds (Publish e) lane b is none = none
before_holds (Published e owed) lane b is none = absurd is
before_holds (Remove e owed) lane b is none = absurd is
before_holds (MakeDurable e) lane b is none = absurd is

pub quiet_not : (kind : Kind) (lane : ℕ) (b : Books) → IsQuiet kind → Holds kind lane b → NotPending lane b
quiet_not Quiet lane b is h = h
quiet_not Store lane b is h = h
quiet_not (Take wants) lane b is h = h
quiet_not (Claim name) lane b is h = h
quiet_not (Publish e) lane b is h = absurd is
quiet_not (Published e owed) lane b is h = absurd is
quiet_not (Remove e owed) lane b is h = absurd is
quiet_not (MakeDurable e) lane b is h = absurd is

quiet_chain : (kind next : Kind) → IsQuiet kind → Chain kind next → IsBefore next
quiet_chain Quiet next is c = c
quiet_chain Store next is c = c
quiet_chain (Take wants) next is c = c
quiet_chain (Claim name) next is c = c
quiet_chain (Publish e) next is c = absurd is
quiet_chain (Published e owed) next is c = absurd is
quiet_chain (Remove e owed) next is c = absurd is
quiet_chain (MakeDurable e) next is c = absurd is

pub plain_quiet : (kind : Kind) → IsPlain kind → IsQuiet kind
plain_quiet Quiet is = tt
plain_quiet Store is = tt
plain_quiet (Take wants) is = tt
plain_quiet (Claim name) is = absurd is
plain_quiet (Publish e) is = absurd is
plain_quiet (Published e owed) is = absurd is
plain_quiet (Remove e owed) is = absurd is
plain_quiet (MakeDurable e) is = absurd is

-- behind it the lane has nothing of its own
plain_owned : (kind : Kind) (lane : ℕ) (b b' : Books) → IsPlain kind → Owned kind lane b b'
plain_owned Quiet lane b b' is = tt
plain_owned Store lane b b' is = tt
plain_owned (Take wants) lane b b' is = tt
plain_owned (Claim name) lane b b' is = absurd is
plain_owned (Publish e) lane b b' is = absurd is
plain_owned (Published e owed) lane b b' is = absurd is
plain_owned (Remove e owed) lane b b' is = absurd is
plain_owned (MakeDurable e) lane b b' is = absurd is

own : (W : Path → Seen → Type 0) (b : Books) (v : View) (actor lane : ℕ) (kind : Kind) → IsBy kind actor lane → (kind ≡ Store → ⊥) → Within W (Guarantee b v lane lane) → Within W (Guarantee b v actor lane)
own W b v actor lane kind by not within = subst (λ (a : ℕ). Within W (Guarantee b v a lane)) (sym (⊎_elim (λ e. e) (λ s. absurd (not s)) by)) within

quiet_duty : (kind : Kind) (actor lane : ℕ) (v : View) (b : Books) (W : Path → Seen → Type 0) (Done : View → Type 0) → IsQuiet kind → IsBy kind actor lane → StepObligation kind actor lane v b W Done → Within W (Guarantee b v actor lane) × Still W v
quiet_duty Quiet actor lane v b W Done is by d = (own W b v actor lane Quiet by (λ (z : Quiet ≡ Store). cc) d.0, d.1)
quiet_duty Store actor lane v b W Done is by d = d
quiet_duty (Take wants) actor lane v b W Done is by d = (own W b v actor lane (Take wants) by (λ (z : Take wants ≡ Store). cc) d.0, d.1)
quiet_duty (Claim name) actor lane v b W Done is by d = (own W b v actor lane (Claim name) by (λ (z : Claim name ≡ Store). cc) d.0, d.1)
quiet_duty (Publish e) actor lane v b W Done is by d = absurd is
quiet_duty (Published e owed) actor lane v b W Done is by d = absurd is
quiet_duty (Remove e owed) actor lane v b W Done is by d = absurd is
quiet_duty (MakeDurable e) actor lane v b W Done is by d = absurd is

module _ {F : Type 0} (view : F → Option View) (clock spare : F → ℕ) (was : F → ℕ → View → Type 0) (fslaws : IsFs view clock was)
    {T : Type 0} {kind : T → Kind} {needs : ℕ → T → View → Type 0} {writes : ℕ → T → View → Path → Seen → Type 0} {stepped : T → StepResult (Unit {0}) → T → Type 0} {leaves : T → StepResult (Unit {0}) → T → View → View → Type 0} {facts : ℕ → T → View → Books → Type 0}
    (laws : Laws kind needs writes stepped leaves facts) where
  abbrev Calls : F → F → Type 0
  Calls old new = Elapses (clock old) (clock new) (was old) (was new) (view new)

  -- what was written, where the view is told
  abbrev Wrote : F → F → ℕ → T → Type 0
  Wrote old new actor t = (v : View) → view old ≡ Some v → Told (view new) (λ w. Writes (writes actor t v) v w)

  pub asks : (base : Base F) (actor lane : ℕ) (t : T) → IsBy (kind t) actor lane → Ready view clock spare was (Runs kind facts lane t) base → (v : View) → view base.fs ≡ Some v → needs actor t v
  asks base actor lane t by ready v is = laws.ready actor lane t v (books_of base.books) by (ready.task.facts v is)

  quiet_parts : (base : Base F) (actor lane : ℕ) (t : T) → IsBy (kind t) actor lane → IsQuiet (kind t) → Stood (kind t) actor lane (books_of base.books) → Ready view clock spare was (Runs kind facts lane t) base
      → (v : View) → view base.fs ≡ Some v → Within (writes actor t v) (Guarantee (books_of base.books) v actor lane) × Still (writes actor t v) v
  quiet_parts base actor lane t by is stood ready v told =
      quiet_duty (kind t) actor lane v (books_of base.books) (writes actor t v) (leaves t (turn.Done tt) t v) is by (laws.duty actor lane t t v (books_of base.books) ready.sound.ordered.agrees by stood (ready.task.facts v told))

  -- the books are in order after a step and what the command gives up at its end
  pub ends_ordered : (old mid new : Base F) (actor lane : ℕ) → mid.books ≡ old.books → Ends actor lane mid new → NotPending lane (books_of old.books) → clock old.fs ≤ clock mid.fs → old.books.owed ≤ spare mid.fs → Ordered clock spare old → Ordered clock spare new
  ends_ordered old mid new actor lane same ends none later room was = record {
    agrees = ends.agrees (rw same was.agrees);
    owner = λ p is.
        let before : old.books.pending ≡ Some p = sym (ap (λ b. b.pending) same) ∙ sym ends.pending ∙ is in
        ends.spared.turn p.lane (none p before) (rw same (was.owner p before));
    ascends = rw (ends.opened, ends.history, ends.fs, same) (ascends_later old.books.opened old.books.history.items (clock old.fs) (clock mid.fs) was.ascends later);
    idle = λ is. ends.owed ∙ ap (λ b. b.owed) same ∙ was.idle (sym (ap (λ b. b.pending) same) ∙ sym ends.pending ∙ is);
    room = rw (ends.owed, ends.fs, same) room;
    entry = λ owes. rw (ends.history, same) (was.entry (subst (λ n. 0 < n) (ends.owed ∙ ap (λ b. b.owed) same) owes));
    counted = rw (ends.gone, ends.owed, same) was.counted;
  }

  -- no claim comes
  pub ended_claims : (old mid new : Base F) (actor lane : ℕ) → mid.books ≡ old.books → Ends actor lane mid new → (c : claim.Claim) → Contains new.books.claims.items c → Contains old.books.claims.items c
  ended_claims old mid new actor lane same ends c has = subst (λ (b : rust.Books). Contains b.claims.items c) same (ends.claims c has)

  pub quiet_sound : (old mid new : Base F) (actor lane : ℕ) (t : T) → mid.books ≡ old.books → Ends actor lane mid new → IsBy (kind t) actor lane → IsQuiet (kind t) → Stood (kind t) actor lane (books_of old.books) → Ready view clock spare was (Runs kind facts lane t) old
      → Wrote old.fs mid.fs actor t → Calls old.fs mid.fs → old.books.owed ≤ spare mid.fs → SystemInvariant view clock spare was new
  quiet_sound old mid new actor lane t same ends by is stood ready wrote time room =
      let none = quiet_not (kind t) lane (books_of old.books) is ready.task.holds in
      let history : new.books.history ≡ old.books.history = ends.history ∙ ap (λ b. b.history) same in
      let pending : new.books.pending ≡ old.books.pending = ends.pending ∙ ap (λ b. b.pending) same in
      sound_goes view clock spare was fslaws old new [] ready.sound (subst (Calls old.fs) (sym ends.fs) time)
      (ends_ordered old mid new actor lane same ends none time.later room ready.sound.ordered)
      (ends.opened ∙ ap (λ b. b.opened) same)
      (ends.start ∙ ap (λ b. b.start) same)
      (rw (history, pending) (sym (append-nil (stored old.books.history.items old.books.pending))))
      (λ t le. rw history refl)
      (λ v w told_v told_w stands.
      let parts = quiet_parts old actor lane t by is stood ready v told_v in
      let wrote_w : Writes (writes actor t v) v w = told_same (view mid.fs) w (ap view (sym ends.fs) ∙ told_w) (wrote v told_v) in
      rw (history, pending) (stands_quiet (opening_state old.books.start) old.books.history.items (books_of old.books) actor lane (writes actor t v) v w wrote_w parts.0 parts.1 ready.sound.ordered.owner none stands))
      (λ v w told_v told_w there.
      let parts = quiet_parts old actor lane t by is stood ready v told_v in
      let wrote_w : Writes (writes actor t v) v w = told_same (view mid.fs) w (ap view (sym ends.fs) ∙ told_w) (wrote v told_v) in
      claims_stand (books_of old.books) v w actor lane (weaker (writes actor t v) (Guarantee (books_of old.books) v actor lane) v w parts.0 wrote_w) old.books.claims.items new.books.claims.items (ended_claims old mid new actor lane same ends) there)
      (λ v told_v relists p is more.
      let before : old.books.pending ≡ Some p = sym pending ∙ is in
      let spared = subst (λ b. Spared actor lane (books_of b) (books_of new.books)) same ends.spared in
      spared.sysroot p.lane (none p before) (relists p before more))

  pub quiet_does : (old mid new : Base F) (actor lane : ℕ) (t : T) → mid.books ≡ old.books → Ends actor lane mid new → IsBy (kind t) actor lane → IsQuiet (kind t) → Stood (kind t) actor lane (books_of old.books) → Ready view clock spare was (Runs kind facts lane t) old
      → Wrote old.fs mid.fs actor t → (v : View) → view old.fs ≡ Some v → (w : View) × (view new.fs ≡ Some w) × Interference actor lane v (books_of old.books) w (books_of new.books)
  quiet_does old mid new actor lane t same ends by is stood ready wrote v told =
      let w = wrote v told in
      let parts = quiet_parts old actor lane t by is stood ready v told in
      (w.0, ap view ends.fs ∙ w.1, record { writes = weaker (writes actor t v) (Guarantee (books_of old.books) v actor lane) v w.0 parts.0 w.2; books = subst (λ b. Spared actor lane (books_of b) (books_of new.books)) same ends.spared; claims = λ c has. inl (ended_claims old mid new actor lane same ends c has); listed = λ x other held. listed_same old.books new.books (ends.history ∙ ap (λ b. b.history) same) (ends.start ∙ ap (λ b. b.start) same) })

  pub quiet_runs : (old : Base F) (fs : F) (actor lane : ℕ) (t new : T) → IsPlain (kind t) → Stood (kind t) actor lane (books_of old.books) → Ready view clock spare was (Runs kind facts lane t) old
      → stepped t turn.More new → ((v : View) → view old.fs ≡ Some v → Told (view fs) (λ w. leaves t turn.More new v w))
      → Runs kind facts lane new (view fs) (books_of old.books)
  quiet_runs old fs actor lane t new is stood ready step after = record {
    facts = λ w told_w.
        let v = fslaws.told fs old.fs w told_w in
        laws.next actor lane t new v.0 w (books_of old.books) (books_of old.books) stood (ready.task.facts v.0 v.1) (told_same (view fs) w told_w (after v.0 v.1)) (keeps_refl lane (books_of old.books)) (plain_owned (kind t) lane (books_of old.books) (books_of old.books) is);
    holds = before_holds (kind new) lane (books_of old.books) (quiet_chain (kind t) (kind new) (plain_quiet (kind t) is) (laws.chain t new step)) (quiet_not (kind t) lane (books_of old.books) (plain_quiet (kind t) is) ready.task.holds);
  }

  -- A step that changes nothing that the state speaks of, and what its command gives up then.
  pub quiet_acts : (old mid new : Base F) (actor lane : ℕ) (t next : T) (outcome : Outcome) → mid ≡ record old { fs = mid.fs } → Ends actor lane mid new → IsBy (kind t) actor lane → IsQuiet (kind t) → Stood (kind t) actor lane (books_of old.books)
      → Ready view clock spare was (Runs kind facts lane t) old → Wrote old.fs mid.fs actor t → Calls old.fs mid.fs → old.books.owed ≤ spare mid.fs → Tells view (Runs kind facts lane next) outcome new
      → Acts view clock spare was actor lane outcome (Runs kind facts lane next) old new
  quiet_acts old mid new actor lane t next outcome only ends by is stood ready wrote time room tells =
      let same : mid.books ≡ old.books = ap (λ b. b.books) only in
      record {
        sound = quiet_sound old mid new actor lane t same ends by is stood ready wrote time room;
        does = quiet_does old mid new actor lane t same ends by is stood ready wrote;
        books = subst (λ b. Spared actor lane (books_of b) (books_of new.books)) same ends.spared;
        past = λ t le. ap (λ h. acked t h.items) (ends.history ∙ ap (λ b. b.history) same);
        tells = tells;
      }

  pub quiet_tells : (old mid : Base F) (actor lane : ℕ) (t next : T) (u : StepResult (Unit {0})) → mid ≡ record old { fs = mid.fs } → IsPlain (kind t) → Stood (kind t) actor lane (books_of old.books) → Ready view clock spare was (Runs kind facts lane t) old
      → u ≡ turn.More → stepped t u next → ((v : View) → view old.fs ≡ Some v → Told (view mid.fs) (λ w. leaves t u next v w))
      → Runs kind facts lane next (view mid.fs) (books_of mid.books)
  quiet_tells old mid actor lane t next u only is stood ready more step after =
      subst (λ b. Runs kind facts lane next (view mid.fs) (books_of b)) (sym (ap (λ b. b.books) only))
      (quiet_runs old mid.fs actor lane t next is stood ready (subst (λ x. stepped t x next) more step) (λ v told. subst (λ x. Told (view mid.fs) (λ w. leaves t x next v w)) more (after v told)))

-- What a lane's task needs survives what others do.
module _ {T : Type 0} {kind : T → Kind} {needs : ℕ → T → View → Type 0} {writes : ℕ → T → View → Path → Seen → Type 0} {stepped : T → StepResult (Unit {0}) → T → Type 0} {leaves : T → StepResult (Unit {0}) → T → View → View → Type 0} {facts : ℕ → T → View → Books → Type 0}
    (laws : Laws kind needs writes stepped leaves facts) where
  others_hold : (k : Kind) (actor lane mine : ℕ) (b b' : Books) → mine ≢ lane → Spared actor lane b b' → Holds k mine b → Holds k mine b'
  others_hold k actor lane mine b b' other spared holds = by k holds
    where
      not_mine : NotPending mine b → NotPending mine b'
      not_mine none p is = ⊎_elim (λ was. none p was) (λ theirs own_p. other (sym own_p ∙ theirs)) (spared.shown p is)

      still : (e : Event) (owed : ℕ) → IsPending e owed mine b → IsPending e owed mine b'
      still e owed h =
          let p : Pending = record { lane = mine; command = h.command; event = e } in
          record { command = h.command; turn = spared.turn mine other h.turn; pending = spared.pending p other h.pending; owes = subst (λ n. owed ≤ n) (sym (spared.owed p other h.pending)) h.owes }

      by : (k : Kind) → Holds k mine b → Holds k mine b'
      by Quiet h = not_mine h
      by Store h = not_mine h
      by (Take wants) h = not_mine h
      by (Claim name) h = not_mine h
      by (Publish e) h = not_mine h
      by (Published e owed) h = (still e owed h.0, h.1)
      by (Remove e owed) h = (still e owed h.0, h.1)
      by (MakeDurable e) h = still e 1 h

  pub runs_kept : {F : Type 0} (view : F → Option View) (told : (fs gs : F) (v : View) → view fs ≡ Some v → Told (view gs) (λ w. Unit {0})) (actor lane mine : ℕ) (t : T) (fs gs : F) (b b' : Books) → mine ≢ actor → mine ≢ lane
      → ((v : View) → view fs ≡ Some v → (w : View) × (view gs ≡ Some w) × Interference actor lane v b w b') → Spared actor lane b b' → Runs kind facts mine t (view fs) b → Runs kind facts mine t (view gs) b'
  runs_kept view told actor lane mine t fs gs b b' not other does spared runs = record {
    facts = λ w told_w.
        let v = told gs fs w told_w in
        let d = does v.0 v.1 in
        let one : Some d.0 ≡ Some w = sym d.1 ∙ told_w in
        let k : d.0 ≡ w = cc in
        laws.kept actor lane mine t v.0 w b b' not other (subst (λ x. Interference actor lane v.0 b x b') k d.2) runs.holds (runs.facts v.0 v.1);
    holds = others_hold (kind t) actor lane mine b b' other spared runs.holds;
  }

pub tells_end : {F : Type 0} (view : F → Option View) (runs : Option View → Books → Type 0) (outcome : Outcome) (new : Base F) → IsEnd outcome new → Tells view runs outcome new
tells_end view runs (came.Refused e) new is = tt
tells_end view runs (came.Halted why) new is = is
tells_end view runs came.Blocked new is = absurd is
tells_end view runs came.More new is = absurd is
tells_end view runs came.Done new is = tt

pub ends_refl : {F : Type 0} (actor lane : ℕ) (base : Base F) → Ends actor lane base base
ends_refl actor lane base = record { fs = refl; history = refl; pending = refl; owed = refl; opened = refl; start = refl; claims = λ c has. has; gone = refl; spared = spared_refl actor lane (books_of base.books); agrees = λ a. a }

-- where no time goes by the view is as it was
pub view_stays : {F : Type 0} (view : F → Option View) (clock : F → ℕ) (was : F → ℕ → View → Type 0) (only_now : (fs : F) (t : ℕ) (v : View) → clock fs ≤ t → was fs t v → view fs ≡ Some v) (counts_now : (fs : F) (t : ℕ) (v : View) → t ≤ clock fs → view fs ≡ Some v → was fs t v)
    → (old new : F) → Elapses (clock old) (clock new) (was old) (was new) (view new) → clock new ≡ clock old → (v : View) → view old ≡ Some v → view new ≡ Some v
view_stays view clock was only_now counts_now old new time same v told =
    only_now new (clock old) v (omega (arith, same)) (time.keeps (clock old) v (omega arith) (counts_now old (clock old) v (omega arith) told))

-- a step that failed or wanted for memory, and didn't halt, left the view as it was
pub none_stays : {F : Type 0} (view : F → Option View) (clock : F → ℕ) (was : F → ℕ → View → Type 0) (only_now : (fs : F) (t : ℕ) (v : View) → clock fs ≤ t → was fs t v → view fs ≡ Some v) (counts_now : (fs : F) (t : ℕ) (v : View) → t ≤ clock fs → view fs ≡ Some v → was fs t v)
    → (old new : F) → Elapses (clock old) (clock new) (was old) (was new) (view new) → (e : FsErr) → (e ≡ err.Failed → clock new ≡ clock old) → ((v : View) → view old ≡ Some v → e ≡ err.NoMemory → view new ≡ Some v)
    → OfNone e → (v : View) → view old ≡ Some v → view new ≡ Some v
none_stays view clock was only_now counts_now old new time err.Failed still unchanged named v told = view_stays view clock was only_now counts_now old new time (still refl) v told
none_stays view clock was only_now counts_now old new time err.NoMemory still unchanged named v told = unchanged v told refl
none_stays view clock was only_now counts_now old new time err.Exists still unchanged named v told = absurd named
none_stays view clock was only_now counts_now old new time err.Missing still unchanged named v told = absurd named
none_stays view clock was only_now counts_now old new time err.NotFolder still unchanged named v told = absurd named
none_stays view clock was only_now counts_now old new time err.NotEmpty still unchanged named v told = absurd named

-- what the views say of a step that was refused
pub refused_tells : {T : Type 0} (leaves : T → StepResult (Unit {0}) → T → View → View → Type 0) (refuses : T → View → FsErr → Type 0) (t new : T) (outcome : Outcome) (e : FsErr) (before now : Option View)
    → IsRefusedBy e outcome → ((v : View) → before ≡ Some v → (e ≡ err.NoMemory) ⊎ refuses t v e) → (outcome ≡ came.Refused e → OfNone e → (v : View) → before ≡ Some v → now ≡ Some v)
    → exact.Tells leaves refuses t outcome new before now
refused_tells leaves refuses t new outcome e before now answer why still = ⊎_elim
    (λ halted. subst (λ o. exact.Tells leaves refuses t o new before now) (sym halted.0) tt)
    (λ other. ⊎_elim
    (λ strayed. subst (λ o. exact.Tells leaves refuses t o new before now) (sym strayed.0)
    (λ v told. (e, ⊎_elim (λ lack. absurd (strayed.1 (subst OfNone (sym lack) tt))) (λ refused. refused) (why v told), strayed.1)))
    (λ is. subst (λ o. exact.Tells leaves refuses t o new before now) (sym is.0) (λ v told. (why v told, λ named. still is.0 named v told)))
    other)
    answer

-- a step that publishes a change, or is owed by one, is never refused for what stands at a path where the view is told
pub owing_tells : {T : Type 0} (leaves : T → StepResult (Unit {0}) → T → View → View → Type 0) (refuses : T → View → FsErr → Type 0) (t new : T) (e : FsErr) (before now : Option View)
    → ((v : View) → before ≡ Some v → OfNone e) → (e ≡ err.NoMemory → ⊥) → exact.Tells leaves refuses t (came.Halted (why_of e)) new before now
owing_tells leaves refuses t new err.Failed before now none roomy = tt
owing_tells leaves refuses t new err.NoMemory before now none roomy = absurd (roomy refl)
owing_tells leaves refuses t new err.Exists before now none roomy = λ v told. absurd (none v told)
owing_tells leaves refuses t new err.Missing before now none roomy = λ v told. absurd (none v told)
owing_tells leaves refuses t new err.NotFolder before now none roomy = λ v told. absurd (none v told)
owing_tells leaves refuses t new err.NotEmpty before now none roomy = λ v told. absurd (none v told)

-- that no command goes on for a failed call has the call's cause
pub halted_causes : {T : Type 0} (before now : ℕ) (result : Result T FsErr) (e : FsErr) → result ≡ Err e → HasCause before now result → exact.Causes before now (came.Halted (why_of e))
halted_causes before now result err.Failed is cause = (cause.later, cause.failed is)
halted_causes before now result err.NoMemory is cause = (cause.later, tt)
halted_causes before now result err.Exists is cause = (cause.later, tt)
halted_causes before now result err.Missing is cause = (cause.later, tt)
halted_causes before now result err.NotFolder is cause = (cause.later, tt)
halted_causes before now result err.NotEmpty is cause = (cause.later, tt)
