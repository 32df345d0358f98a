-- The step that makes the folder of a checkout.
use Rattle.std.proofs.Common.{◌≡◌, ◌≢◌, ◌⊎◌, ⊎_elim, inl, inr, ◌≤◌, ℕ, refl, sym, ◌∙◌, ap, subst, List, [], ◌∷◌, ◌++◌, Contains, Option, Some}
use Rattle.ost_types.specs.Path.{Name, Path}
use Rattle.fs_trait.specs.declared.task.StepResult.{StepResult}
use Rattle.fs_trait.specs.declared.task.StepResult.TheVariants as turn
use Rattle.fs_trait.specs.View.{View}
use Rattle.fs_trait.specs.Image.{Told}
use Rattle.fs_trait.specs.Seen.{Seen, Vacant, shows}
use Rattle.fs_trait.specs.Change.{Writes}
use Rattle.fs_trait.specs.Effect.{Elapses}
use Rattle.repo_layout.specs.BootPaths.{checkout_path}
use Rattle.rely_guarantee.specs.declared.books.Base.{Base}
use Rattle.rely_guarantee.specs.declared.books.Books as rust
use Rattle.rely_guarantee.specs.declared.books.Claim as claim
use Rattle.rely_guarantee.specs.declared.kind.Outcome.TheVariants as came
use Rattle.rely_guarantee.specs.Books.{Books, books_of, IsClaimed, Keeps, Spared}
use Rattle.rely_guarantee.specs.SystemInvariant.{SystemInvariant}
use Rattle.rely_guarantee.specs.Laws.{Kind, Quiet, Store, Take, Claim, Publish, Published, Remove, MakeDurable, Laws, IsBefore, IsClaim, IsQuiet, Chain, Holds, NotPending, Owned, Stood, Runs, Ready, Acts}
use Rattle.rely_guarantee.proofs.Lists.{added_cases, added_contains, contains_added}
use Rattle.rely_guarantee.proofs.Locking.{spared_refl}
use Rattle.rely_guarantee.proofs.Sounds.{IsFs}
use Rattle.rely_guarantee.proofs.Acting.{before_holds, ends_refl, quiet_acts, quiet_not, told_same}

pub claim_is : (k : Kind) → IsClaim k → (name : Name) × (k ≡ Claim name)
claim_is Quiet is = absurd is
claim_is Store is = absurd is
claim_is (Take wants) is = absurd is
claim_is (Claim name) is = (name, refl)
claim_is (Publish e) is = absurd is
claim_is (Published e owed) is = absurd is
claim_is (Remove e owed) is = absurd is
claim_is (MakeDurable e) is = absurd is

pub claim_quiet : (k : Kind) → IsClaim k → IsQuiet k
claim_quiet Quiet is = absurd is
claim_quiet Store is = absurd is
claim_quiet (Take wants) is = absurd is
claim_quiet (Claim name) is = tt
claim_quiet (Publish e) is = absurd is
claim_quiet (Published e owed) is = absurd is
claim_quiet (Remove e owed) is = absurd is
claim_quiet (MakeDurable e) is = absurd is

module _ {F : Type 0} (view : F → Option View) (clock spare : F → ℕ) (was : F → ℕ → View → Type 0) (fslaws : IsFs view clock was)
    {T : Type 0} {kind : T → Kind} {needs : ℕ → T → View → Type 0} {writes : ℕ → T → View → Path → Seen → Type 0} {stepped : T → StepResult (Unit {0}) → T → Type 0} {leaves : T → StepResult (Unit {0}) → T → View → View → Type 0} {facts : ℕ → T → View → Books → Type 0}
    (laws : Laws kind needs writes stepped leaves facts) where
  abbrev Calls : F → F → Type 0
  Calls old new = Elapses (clock old) (clock new) (was old) (was new) (view new)

  abbrev Wrote : F → F → ℕ → T → Type 0
  Wrote old new actor t = (v : View) → view old ≡ Some v → Told (view new) (λ w. Writes (writes actor t v) v w)

  -- what holds behind it
  pub claim_stood : (t : T) (lane : ℕ) (b : Books) → IsClaim (kind t) → Stood (kind t) lane lane b
  claim_stood t lane b is = let k = claim_is (kind t) is in subst (λ (x : Kind). Stood x lane lane b) (sym k.1) tt

  pub claim_not : (old : Base F) (lane : ℕ) (t : T) → IsClaim (kind t) → Ready view clock spare was (Runs kind facts lane t) old → NotPending lane (books_of old.books)
  claim_not old lane t is ready = quiet_not (kind t) lane (books_of old.books) (claim_quiet (kind t) is) ready.task.holds

  -- the books with the claim
  abbrev pub claimed_books : rust.Books → rust.Books → rust.Books
  claimed_books b noted = record b { claims = noted.claims }

  module _ (old : Base F) (fs : F) (lane : ℕ) (t next : T) (name : Name) (noted : rust.Books) (is : kind t ≡ Claim name) (added : noted.claims.items ≡ old.books.claims.items ++ record { lane = lane; name = name } ∷ [])
      (ready : Ready view clock spare was (Runs kind facts lane t) old) (step : stepped t turn.More next) (after : (v : View) → view old.fs ≡ Some v → Told (view fs) (λ w. leaves t turn.More next v w)) where
    abbrev own : claim.Claim
    own = record { lane = lane; name = name }

    both : (v w : View) → view old.fs ≡ Some v → view fs ≡ Some w → (shows v.now (checkout_path name) ≡ Vacant) × (shows w.now (checkout_path name) ≢ Vacant)
    both v w told_v told_w = laws.claims lane t next v w (books_of old.books) name is step (ready.task.facts v told_v) (told_same (view fs) w told_w (after v told_v))

    claim_cases : (c : claim.Claim) → Contains noted.claims.items c → Contains old.books.claims.items c ⊎ (own ≡ c)
    claim_cases c has = added_cases old.books.claims.items own c (subst (λ (l : List claim.Claim). Contains l c) added has)

    claim_stays : (c : claim.Claim) → Contains old.books.claims.items c → Contains noted.claims.items c
    claim_stays c has = subst (λ (l : List claim.Claim). Contains l c) (sym added) (added_contains old.books.claims.items own c has)

    no_others : (c : claim.Claim) → c.lane ≢ lane → Contains noted.claims.items c → Contains old.books.claims.items c
    no_others c other has = ⊎_elim (λ was_there. was_there) (λ e. absurd (other (sym (ap (λ (x : claim.Claim). x.lane) e)))) (claim_cases c has)

    noted_keeps : Keeps lane (books_of old.books) (books_of (claimed_books old.books noted))
    noted_keeps = record { exclusive = λ k. k; turn = λ k. k; sysroot = λ k. k; holds = λ h l k. k; wants = λ w l k. k; pins = λ p l k. k; pinned = λ p l k. k; claims = claim_stays; others = no_others; start = refl; listed = refl }

    noted_spared : Spared lane lane (books_of old.books) (books_of (claimed_books old.books noted))
    noted_spared =
        let s = spared_refl lane lane (books_of old.books) in
        record {
          shared = s.shared;
          exclusive = s.exclusive;
          turn = s.turn;
          sysroot = s.sysroot;
          holds = s.holds;
          wants = s.wants;
          pins = s.pins;
          pinned = s.pinned;
          doomed = s.doomed;
          claims = λ c other has. claim_stays c has;
          claimers = no_others;
          uses = s.uses;
          pending = s.pending;
          shown = s.shown;
          owed = s.owed;
          more = s.more;
          grows = s.grows;
          replies = s.replies;
          opened = refl;
          start = refl;
          listed = λ x other held. refl;
        }

    -- nobody had it, since its folder would have stood
    noted_claimed : (v w : View) → view old.fs ≡ Some v → view fs ≡ Some w → IsClaimed name lane (books_of (claimed_books old.books noted))
    noted_claimed v w told_v told_w = record {
      mine = subst (λ (l : List claim.Claim). Contains l own) (sym added) (contains_added old.books.claims.items own);
      alone = λ c has same. ⊎_elim
          (λ was_there. absurd (ready.sound.claims v told_v c was_there (ap (λ n. shows v.now (checkout_path n)) same ∙ (both v w told_v told_w).0)))
          (λ e. sym (ap (λ (x : claim.Claim). x.lane) e))
          (claim_cases c has);
    }

    noted_runs : Runs kind facts lane next (view fs) (books_of (claimed_books old.books noted))
    noted_runs = record {
      facts = λ w told_w.
          let v = fslaws.told fs old.fs w told_w in
          let b : Books = books_of (claimed_books old.books noted) in
          laws.next lane lane t next v.0 w (books_of old.books) b (subst (λ (k : Kind). Stood k lane lane (books_of old.books)) (sym is) tt) (ready.task.facts v.0 v.1)
          (told_same (view fs) w told_w (after v.0 v.1)) noted_keeps (subst (λ (k : Kind). Owned k lane (books_of old.books) b) (sym is) (noted_claimed v.0 w v.1 told_w));
      holds =
          let none : NotPending lane (books_of old.books) = subst (λ (k : Kind). Holds k lane (books_of old.books)) is ready.task.holds in
          let chain : IsBefore (kind next) = subst (λ (k : Kind). Chain k (kind next)) is (laws.chain t next step) in
          before_holds (kind next) lane (books_of (claimed_books old.books noted)) chain none;
    }

    -- What every value keeps, once the claim is noted.
    noted_sound : SystemInvariant view clock spare was (record { fs = fs; books = old.books }) → SystemInvariant view clock spare was (record { fs = fs; books = claimed_books old.books noted })
    noted_sound sound = record {
      ordered = record {
        agrees = record { turn = sound.ordered.agrees.turn; shared = sound.ordered.agrees.shared; doomed = sound.ordered.agrees.doomed };
        owner = sound.ordered.owner;
        ascends = sound.ordered.ascends;
        idle = sound.ordered.idle;
        room = sound.ordered.room;
        entry = sound.ordered.entry;
        counted = sound.ordered.counted;
      };
      stands = sound.stands;
      crash = sound.crash;
      claims = λ w told_w c has. ⊎_elim
          (λ was_there. sound.claims w told_w c was_there)
          (λ e vacant. let v = fslaws.told fs old.fs w told_w in (both v.0 w v.1 told_w).1 (ap (λ (x : claim.Claim). shows w.now (checkout_path x.name)) e ∙ vacant))
          (claim_cases c has);
      relists = sound.relists;
    }

    noted_acts : Acts view clock spare was lane lane came.Done (Runs kind facts lane next) old (record { fs = fs; books = old.books }) → Acts view clock spare was lane lane came.More (Runs kind facts lane next) old (record { fs = fs; books = claimed_books old.books noted })
    noted_acts acts = record {
      sound = noted_sound acts.sound;
      does = λ v told_v. let d = acts.does v told_v in (
        d.0,
        d.1,
        record {
          writes = d.2.writes;
          books = noted_spared;
          claims = λ c has. ⊎_elim (λ was_there. inl was_there) (λ e. inr (ap (λ (x : claim.Claim). shows v.now (checkout_path x.name)) (sym e) ∙ (both v d.0 told_v d.1).0)) (claim_cases c has);
          listed = λ x other held. refl;
        },
      );
      books = noted_spared;
      past = acts.past;
      tells = noted_runs;
    }

  -- It goes on, and the claim is noted.
  pub claim_acts : (old mid : Base F) (noted : rust.Books) (lane : ℕ) (t next : T) (u : StepResult (Unit {0})) (name : Name) → mid ≡ record old { fs = mid.fs } → kind t ≡ Claim name
      → noted ≡ record mid.books { claims = noted.claims } → noted.claims.items ≡ mid.books.claims.items ++ record { lane = lane; name = name } ∷ []
      → Ready view clock spare was (Runs kind facts lane t) old → Wrote old.fs mid.fs lane t → Calls old.fs mid.fs → old.books.owed ≤ spare mid.fs
      → u ≡ turn.More → stepped t u next → ((v : View) → view old.fs ≡ Some v → Told (view mid.fs) (λ w. leaves t u next v w))
      → Acts view clock spare was lane lane came.More (Runs kind facts lane next) old (record { fs = mid.fs; books = noted })
  claim_acts old mid noted lane t next u name only is same added ready wrote time room more step after =
      let books : mid.books ≡ old.books = ap (λ m. m.books) only in
      let whole : noted ≡ claimed_books old.books noted = same ∙ ap (λ (b : rust.Books). record b { claims = noted.claims }) books in
      let these : noted.claims.items ≡ old.books.claims.items ++ record { lane = lane; name = name } ∷ [] = added ∙ ap (λ (b : rust.Books). b.claims.items ++ record { lane = lane; name = name } ∷ []) books in
      let a_claim : IsClaim (kind t) = subst IsClaim (sym is) tt in
      let quiet : Acts view clock spare was lane lane came.Done (Runs kind facts lane next) old mid = quiet_acts view clock spare was fslaws laws old mid mid lane lane t next came.Done only (ends_refl lane lane mid) (inl refl) (claim_quiet (kind t) a_claim) (claim_stood t lane (books_of old.books) a_claim) ready wrote time room tt in
      subst (λ (b : rust.Books). Acts view clock spare was lane lane came.More (Runs kind facts lane next) old (record { fs = mid.fs; books = b })) (sym whole)
      (noted_acts old mid.fs lane t next name noted is these ready (subst (λ x. stepped t x next) more step) (λ v told_v. subst (λ x. Told (view mid.fs) (λ w. leaves t x next v w)) more (after v told_v))
      (subst (λ (m : Base F). Acts view clock spare was lane lane came.Done (Runs kind facts lane next) old m) only quiet))
