-- The step that publishes a change, those behind it, and the one that makes it durable.
use Rattle.std.proofs.Common.{◌≡◌, ◌≢◌, inl, inr, ◌+◌, ◌-◌, ◌<◌, ◌≤◌, ℕ, suc, refl, sym, ◌∙◌, ap, subst, arith, List, [], ◌∷◌, ◌++◌, append-nil, Contains, IsSome, Option, Some, None}
use Rattle.std.specs.Vec.{vec_len, vec_capacity}
use Rattle.ost_types.specs.Path.{Path}
use Rattle.boot_model.specs.declared.item.DepId.{DepId}
use Rattle.fs_trait.specs.declared.task.StepResult.{StepResult}
use Rattle.fs_trait.specs.declared.task.StepResult.TheVariants as turn
use Rattle.fs_trait.specs.declared.types.FsErr.{FsErr}
use Rattle.fs_trait.specs.Count.{last}
use Rattle.fs_trait.specs.View.{View}
use Rattle.fs_trait.specs.Image.{Told}
use Rattle.fs_trait.specs.Seen.{Seen}
use Rattle.fs_trait.specs.Change.{Writes, Nothing}
use Rattle.fs_trait.specs.Effect.{Elapses, Next}
use Rattle.fs_trait.proofs.Kept.{weaker, same_view}
use Rattle.rely_guarantee.specs.declared.books.Base.{Base}
use Rattle.rely_guarantee.specs.declared.books.Books as rust
use Rattle.rely_guarantee.specs.declared.books.Claim as claim
use Rattle.rely_guarantee.specs.declared.books.Entry.{Entry}
use Rattle.rely_guarantee.specs.declared.books.Pending.{Pending}
use Rattle.rely_guarantee.specs.declared.event.Event.{Event}
use Rattle.rely_guarantee.specs.declared.kind.Halt.{Halt}
use Rattle.rely_guarantee.specs.declared.kind.Outcome.{Outcome}
use Rattle.rely_guarantee.specs.declared.kind.Outcome.TheVariants as came
use Rattle.rely_guarantee.specs.State.{SystemState, acked, events_of, list_in, next_list, stored, opening_state}
use Rattle.rely_guarantee.specs.Books.{Books, books_of, doomed_of, listed_in, Free, Agrees, Spared}
use Rattle.rely_guarantee.specs.Rely.{Guarantee, Interference}
use Rattle.rely_guarantee.specs.SystemInvariant.{AreThere, Ordered, Stands, SystemInvariant}
use Rattle.rely_guarantee.specs.Change.{Away, TakesNone, Dooms, Shows, Final}
use Rattle.rely_guarantee.specs.Laws.{Kind, Quiet, Store, Take, Claim, Publish, Published, Remove, MakeDurable, Laws, StepObligation, Within, Owned, IsPublish, IsPublished, IsRemove, IsMakeDurable, IsLastly, Chain, Follows, Holds, Stood, NotPending, IsPending, Runs, Ready, Tells, Acts, Ends, owed_by}
use Rattle.rely_guarantee.proofs.States.{ascends_later, ascends_push, events_push, acked_late, list_push}
use Rattle.rely_guarantee.proofs.Knowns.{stands_publish, stands_away, stands_make_durable}
use Rattle.rely_guarantee.proofs.Claiming.{claims_stand}
use Rattle.rely_guarantee.proofs.Locking.{listed_same, relisted_by, doomed_apart, doomed_held, doomed_idle, doomed_published, spared_refl, spared_then}
use Rattle.rely_guarantee.proofs.Sounds.{IsFs, sound_goes}
use Rattle.rely_guarantee.proofs.Acting.{told_same, ended_claims, ends_ordered}

pub no_pending : (o : Option Pending) → ((p : Pending) → o ≡ Some p → ⊥) → o ≡ None
no_pending None none = refl
no_pending (Some p) none = absurd (none p refl)

-- what is to be held for the next step
pub follows_holds : (e : Event) (most : ℕ) (next : Kind) (lane : ℕ) (b : Books) → Follows e most next → IsPending e (owed_by next) lane b → Holds next lane b
follows_holds e most Quiet lane b c h = absurd c
follows_holds e most Store lane b c h = absurd c
follows_holds e most (Take wants) lane b c h = absurd c
follows_holds e most (Claim name) lane b c h = absurd c
follows_holds e most (Publish d) lane b c h = absurd c
follows_holds e most (Published d owed) lane b c h = (subst (λ (x : Event). IsPending x owed lane b) (sym c.0) h, c.2)
follows_holds e most (Remove d owed) lane b c h = (subst (λ (x : Event). IsPending x owed lane b) (sym c.0) h, c.2)
follows_holds e most (MakeDurable d) lane b c h = subst (λ (x : Event). IsPending x 1 lane b) (sym c.0) h

pub follows_owed : (e : Event) (most : ℕ) (next : Kind) → Follows e most next → owed_by next ≤ most
follows_owed e most Quiet c = absurd c
follows_owed e most Store c = absurd c
follows_owed e most (Take wants) c = absurd c
follows_owed e most (Claim name) c = absurd c
follows_owed e most (Publish d) c = absurd c
follows_owed e most (Published d owed) c = c.1
follows_owed e most (Remove d owed) c = c.1
follows_owed e most (MakeDurable d) c = c.1

pub publish_is : (k : Kind) → IsPublish k → (e : Event) × (k ≡ Publish e)
publish_is Quiet is = absurd is
publish_is Store is = absurd is
publish_is (Take wants) is = absurd is
publish_is (Claim name) is = absurd is
publish_is (Publish e) is = (e, refl)
publish_is (Published e owed) is = absurd is
publish_is (Remove e owed) is = absurd is
publish_is (MakeDurable e) is = absurd is

pub published_is : (k : Kind) → IsPublished k → (e : Event) × (owed : ℕ) × (k ≡ Published e owed)
published_is Quiet is = absurd is
published_is Store is = absurd is
published_is (Take wants) is = absurd is
published_is (Claim name) is = absurd is
published_is (Publish e) is = absurd is
published_is (Published e owed) is = (e, owed, refl)
published_is (Remove e owed) is = absurd is
published_is (MakeDurable e) is = absurd is

pub remove_is : (k : Kind) → IsRemove k → (e : Event) × (owed : ℕ) × (k ≡ Remove e owed)
remove_is Quiet is = absurd is
remove_is Store is = absurd is
remove_is (Take wants) is = absurd is
remove_is (Claim name) is = absurd is
remove_is (Publish e) is = absurd is
remove_is (Published e owed) is = absurd is
remove_is (Remove e owed) is = (e, owed, refl)
remove_is (MakeDurable e) is = absurd is

pub make_durable_is : (k : Kind) → IsMakeDurable k → (e : Event) × (k ≡ MakeDurable e)
make_durable_is Quiet is = absurd is
make_durable_is Store is = absurd is
make_durable_is (Take wants) is = absurd is
make_durable_is (Claim name) is = absurd is
make_durable_is (Publish e) is = absurd is
make_durable_is (Published e owed) is = absurd is
make_durable_is (Remove e owed) is = absurd is
make_durable_is (MakeDurable e) is = (e, refl)

module _ {F : Type 0} (view : F → Option View) (clock spare : F → ℕ) (was : F → ℕ → View → Type 0) (fslaws : IsFs view clock was)
    {T : Type 0} {kind : T → Kind} {needs : ℕ → T → View → Type 0} {writes : ℕ → T → View → Path → Seen → Type 0} {stepped : T → StepResult (Unit {0}) → T → Type 0} {leaves : T → StepResult (Unit {0}) → T → View → View → Type 0} {facts : ℕ → T → View → Books → Type 0}
    (laws : Laws kind needs writes stepped leaves facts) where
  abbrev Calls : F → F → Type 0
  Calls old new = Elapses (clock old) (clock new) (was old) (was new) (view new)

  abbrev Wrote : F → F → ℕ → T → Type 0
  Wrote old new actor t = (v : View) → view old ≡ Some v → Told (view new) (λ w. Writes (writes actor t v) v w)

  pub no_time : (fs : F) → Calls fs fs
  no_time fs = record { later = omega arith; soon = omega arith; nothing_else = λ t w le is. inl is; keeps = λ t w le is. is }

  -- nothing was done, since another holds it off
  pub blocked_acts : (base : Base F) (actor lane : ℕ) (t : T) → Ready view clock spare was (Runs kind facts lane t) base → Acts view clock spare was actor lane came.Blocked (Runs kind facts lane t) base base
  blocked_acts base actor lane t ready = record {
    sound = ready.sound;
    does = λ v told. (v, told, record { writes = same_view (Guarantee (books_of base.books) v actor lane) v; books = spared_refl actor lane (books_of base.books); claims = λ c has. inl has; listed = λ x other held. refl });
    books = spared_refl actor lane (books_of base.books);
    past = λ t le. refl;
    tells = ready.task;
  }

  -- the command ended, and the view is as it was
  pub still_acts : (old mid new : Base F) (actor lane : ℕ) (runs after : Option View → Books → Type 0) (e : FsErr) → mid ≡ record old { fs = mid.fs } → ((v : View) → view old.fs ≡ Some v → view mid.fs ≡ Some v) → Calls old.fs mid.fs → old.books.owed ≤ spare mid.fs → Ends actor lane mid new → NotPending lane (books_of old.books)
      → Ready view clock spare was runs old → Acts view clock spare was actor lane (came.Refused e) after old new
  still_acts old mid new actor lane runs after e only unchanged time room ends none ready =
      let same : mid.books ≡ old.books = ap (λ b. b.books) only in
      let history : new.books.history ≡ old.books.history = ends.history ∙ ap (λ b. b.history) same in
      let pending : new.books.pending ≡ old.books.pending = ends.pending ∙ ap (λ b. b.pending) same in
      let spared = subst (λ b. Spared actor lane (books_of b) (books_of new.books)) same ends.spared in
      let fewer = ended_claims view clock spare was fslaws laws old mid new actor lane same ends in
      record {
        sound = sound_goes view clock spare was fslaws old new [] ready.sound (subst (Calls old.fs) (sym ends.fs) time)
            (ends_ordered view clock spare was fslaws laws old mid new actor lane same ends none time.later room ready.sound.ordered)
            (ends.opened ∙ ap (λ b. b.opened) same)
            (ends.start ∙ ap (λ b. b.start) same)
            (rw (history, pending) (sym (append-nil (stored old.books.history.items old.books.pending))))
            (λ t le. rw history refl)
            (λ v w told_v told_w stands.
            let one : Some v ≡ Some w = sym (unchanged v told_v) ∙ sym (ap view ends.fs) ∙ told_w in
            let k : v ≡ w = cc in
            rw (history, pending) (subst (λ x. Stands (opening_state old.books.start) old.books.history.items old.books.pending x) k stands))
            (λ v w told_v told_w there.
            let one : Some v ≡ Some w = sym (unchanged v told_v) ∙ sym (ap view ends.fs) ∙ told_w in
            let k : v ≡ w = cc in
            subst (λ x. AreThere new.books.claims.items x) k (λ c has. there c (fewer c has)))
            (λ v told_v relists p is more. let before : old.books.pending ≡ Some p = sym pending ∙ is in spared.sysroot p.lane (none p before) (relists p before more));
        does = λ v told. (v, ap view ends.fs ∙ unchanged v told, record { writes = same_view (Guarantee (books_of old.books) v actor lane) v; books = spared; claims = λ c has. inl (fewer c has); listed = λ x other held. listed_same old.books new.books history (ends.start ∙ ap (λ b. b.start) same) });
        books = spared;
        past = λ t le. rw history refl;
        tells = tt;
      }

  more_of : (t next : T) (u : StepResult (Unit {0})) → (IsLastly (kind t) → ⊥) → stepped t u next → u ≡ turn.More
  more_of t next turn.More not step = refl
  more_of t next (turn.Done x) not step = absurd (not (laws.last t next step))

  -- what the views say of it
  pub more_tells : (t next : T) (u : StepResult (Unit {0})) → (IsLastly (kind t) → ⊥) → stepped t u next → (v : View) (now : Option View) → Told now (λ w. leaves t u next v w) → Told now (λ w. leaves t turn.More next v w)
  more_tells t next u not step v now told = subst (λ x. Told now (λ w. leaves t x next v w)) (more_of t next u not step) told

  -- the books while the change is published
  abbrev pub pending_books : rust.Books → ℕ → ℕ → Event → ℕ → Option Halt → rust.Books
  pending_books b lane command e owed halted = record b { turn = Some lane; pending = Some (record { lane = lane; command = command; event = e }); gone = 0; owed = owed; halted = halted }

  publish_duty : (old : Base F) (lane : ℕ) (t : T) (e : Event) → kind t ≡ Publish e → Free old.books.turn lane → Free old.books.exclusive lane → Ready view clock spare was (Runs kind facts lane t) old → (v : View) → view old.fs ≡ Some v
      → Within (writes lane t v) (Guarantee (books_of old.books) v lane lane) × Shows (listed_in (books_of old.books)) (writes lane t v) v e × Dooms lane (books_of old.books) e
  publish_duty old lane t e is turn_free free ready v told =
      subst (λ (k : Kind). StepObligation k lane lane v (books_of old.books) (writes lane t v) (leaves t (turn.Done tt) t v)) is
      (laws.duty lane lane t t v (books_of old.books) ready.sound.ordered.agrees (inl refl) (subst (λ (k : Kind). Stood k lane lane (books_of old.books)) (sym is) (turn_free, free)) (ready.task.facts v told))

  publish_none : (old : Base F) (lane : ℕ) (t : T) (e : Event) → kind t ≡ Publish e → Free old.books.turn lane → Ready view clock spare was (Runs kind facts lane t) old → old.books.pending ≡ None
  publish_none old lane t e is turn_free ready =
      let none : NotPending lane (books_of old.books) = subst (λ (k : Kind). Holds k lane (books_of old.books)) is ready.task.holds in
      no_pending old.books.pending (λ p has. none p has (turn_free p.lane (ready.sound.ordered.owner p has)))

  publish_spared : (b : rust.Books) (lane command : ℕ) (e : Event) (owed : ℕ) (h : Option Halt) → b.pending ≡ None → Free b.turn lane → Free b.exclusive lane → Spared lane lane (books_of b) (books_of (pending_books b lane command e owed h))
  publish_spared b lane command e owed h none turn_free free =
      let p : Pending = record { lane = lane; command = command; event = e } in
      let s = spared_refl lane lane (books_of b) in
      record {
        shared = s.shared;
        exclusive = s.exclusive;
        turn = λ x other is. absurd (other (turn_free x is));
        sysroot = s.sysroot;
        holds = s.holds;
        wants = s.wants;
        pins = s.pins;
        pinned = s.pinned;
        doomed = λ x other is. absurd (other (free x is));
        claims = s.claims;
        claimers = s.claimers;
        uses = s.uses;
        pending = λ q other is. absurd (let z : None ≡ Some q = sym none ∙ is in cc);
        shown = λ q is. inr (let k : p ≡ q = cc in ap (λ (x : Pending). x.lane) (sym k));
        owed = λ q other is. absurd (let z : None ≡ Some q = sym none ∙ is in cc);
        more = s.more;
        grows = s.grows;
        replies = s.replies;
        opened = refl;
        start = refl;
        listed = λ x other held. refl;
      }

  pub publish_acts : (old : Base F) (fs : F) (lane command : ℕ) (t next : T) (e : Event) (owed : ℕ) (h : Option Halt) (outcome : Outcome) → kind t ≡ Publish e → Free old.books.turn lane → Free old.books.exclusive lane → vec_len old.books.history < vec_capacity old.books.history
      → Ready view clock spare was (Runs kind facts lane t) old → Wrote old.fs fs lane t → Calls old.fs fs → owed ≤ spare fs → owed ≤ last
      → Tells view (Runs kind facts lane next) outcome (record { fs = fs; books = pending_books old.books lane command e owed h })
      → Acts view clock spare was lane lane outcome (Runs kind facts lane next) old (record { fs = fs; books = pending_books old.books lane command e owed h })
  publish_acts old fs lane command t next e owed h outcome is turn_free free room ready wrote time owes small tells =
      let p : Pending = record { lane = lane; command = command; event = e } in
      let none = publish_none old lane t e is turn_free ready in
      let ord = ready.sound.ordered in
      let spared = publish_spared old.books lane command e owed h none turn_free free in
      record {
        sound = sound_goes view clock spare was fslaws old (record { fs = fs; books = pending_books old.books lane command e owed h }) (e ∷ []) ready.sound time
            (record {
              agrees = record { turn = λ x y ex tu. (let k : lane ≡ y = cc in sym k ∙ sym (free x ex)); shared = ord.agrees.shared; doomed = doomed_held old.books.exclusive (Some p) };
              owner = λ q has. (let k : p ≡ q = cc in ap (λ (x : Pending). Some x.lane) k);
              ascends = ascends_later old.books.opened old.books.history.items (clock old.fs) (clock fs) ord.ascends time.later;
              idle = λ bad. absurd (let z : Some p ≡ None = bad in cc);
              room = owes;
              entry = λ more. room;
              counted = omega (arith, small);
            })
            refl refl
            (rw none (ap (λ (l : List Event). l ++ e ∷ []) (sym (append-nil (events_of old.books.history.items)))))
            (λ t le. refl)
            (λ v w told_v told_w stands.
            let d = publish_duty old lane t e is turn_free free ready v told_v in
            stands_publish (opening_state old.books.start) old.books.history.items (books_of old.books) lane lane p (writes lane t v) v w (told_same (view fs) w told_w (wrote v told_v)) d.0 d.1
            (subst (λ (o : Option Pending). Stands (opening_state old.books.start) old.books.history.items o v) none stands))
            (λ v w told_v told_w there.
            let d = publish_duty old lane t e is turn_free free ready v told_v in
            claims_stand (books_of old.books) v w lane lane (weaker (writes lane t v) (Guarantee (books_of old.books) v lane lane) v w d.0 (told_same (view fs) w told_w (wrote v told_v))) old.books.claims.items old.books.claims.items (λ c has. has) there)
            (λ v told_v relists q is_q more.
            let k : p ≡ q = cc in
            subst (λ (x : Pending). old.books.sysroot ≡ Some x.lane) k (relisted_by e lane (books_of old.books) (publish_duty old lane t e is turn_free free ready v told_v).2 (subst (λ (x : Pending). IsSome (list_in x.event)) (sym k) more)));
        does = λ v told. let w = wrote v told in let d = publish_duty old lane t e is turn_free free ready v told in
            (w.0, w.1, record { writes = weaker (writes lane t v) (Guarantee (books_of old.books) v lane lane) v w.0 d.0 w.2; books = spared; claims = λ c has. inl has; listed = λ x other held. refl });
        books = spared;
        past = λ t le. refl;
        tells = tells;
      }

  pub publish_runs : (old : Base F) (fs : F) (lane command : ℕ) (t next : T) (u : StepResult (Unit {0})) (e : Event) → kind t ≡ Publish e → Free old.books.turn lane → Free old.books.exclusive lane → Ready view clock spare was (Runs kind facts lane t) old
      → stepped t u next → ((v : View) → view old.fs ≡ Some v → Told (view fs) (λ w. leaves t u next v w))
      → Runs kind facts lane next (view fs) (books_of (pending_books old.books lane command e (owed_by (kind next)) old.books.halted))
  publish_runs old fs lane command t next u e is turn_free free ready step after =
      let more : u ≡ turn.More = more_of t next u (λ last. let bad : IsLastly (Publish e) = subst IsLastly is last in bad) step in
      let b : Books = books_of (pending_books old.books lane command e (owed_by (kind next)) old.books.halted) in
      let chain : Follows e (owed_by (kind next)) (kind next) = subst (λ (k : Kind). Chain k (kind next)) is (laws.chain t next (subst (λ x. stepped t x next) more step)) in
      record {
        facts = λ w told_w.
            let v = fslaws.told fs old.fs w told_w in
            laws.next lane lane t next v.0 w (books_of old.books) b (subst (λ (k : Kind). Stood k lane lane (books_of old.books)) (sym is) (turn_free, free)) (ready.task.facts v.0 v.1)
            (told_same (view fs) w told_w (subst (λ x. Told (view fs) (λ w. leaves t x next v.0 w)) more (after v.0 v.1)))
            (record { exclusive = λ k. k; turn = λ k. refl; sysroot = λ k. k; holds = λ x l k. k; wants = λ x l k. k; pins = λ x l k. k; pinned = λ x l k. k; claims = λ c k. k; others = λ c l k. k; start = refl; listed = refl })
            (subst (λ (k : Kind). Owned k lane (books_of old.books) b) (sym is) (doomed_published lane command e (books_of old.books) (publish_duty old lane t e is turn_free free ready v.0 v.1).2, refl));
        holds = follows_holds e (owed_by (kind next)) (kind next) lane b chain (record { command = command; turn = refl; pending = refl; owes = omega arith });
      }

  -- a step that is owed: it writes nothing that the state speaks of, and pays for itself
  owed_core : (old : Base F) (fs : F) (lane : ℕ) (t : T) (e : Event) (n g : ℕ) (h : Option Halt) (runs : Option View → Books → Type 0) (outcome : Outcome) → IsPending e n lane (books_of old.books) → g + (old.books.owed - 1) ≤ last
      → ((v : View) → view old.fs ≡ Some v → Within (writes lane t v) (Guarantee (books_of old.books) v lane lane) × Away (writes lane t v))
      → SystemInvariant view clock spare was old → Wrote old.fs fs lane t → Calls old.fs fs → spare old.fs ≤ spare fs + 1
      → Tells view runs outcome (record { fs = fs; books = record old.books { owed = old.books.owed - 1; gone = g; halted = h } })
      → Acts view clock spare was lane lane outcome runs old (record { fs = fs; books = record old.books { owed = old.books.owed - 1; gone = g; halted = h } })
  owed_core old fs lane t e n g h runs outcome pend small parts sound wrote time room tells =
      let p : Pending = record { lane = lane; command = pend.command; event = e } in
      let ord = sound.ordered in
      let s = spared_refl lane lane (books_of old.books) in
      let spared : Spared lane lane (books_of old.books) (books_of (record old.books { owed = old.books.owed - 1; gone = g; halted = h })) = record {
        shared = s.shared;
        exclusive = s.exclusive;
        turn = s.turn;
        sysroot = s.sysroot;
        holds = s.holds;
        wants = s.wants;
        pins = s.pins;
        pinned = s.pinned;
        doomed = λ x other is. absurd (other (sym (ord.agrees.turn x lane is pend.turn)));
        claims = s.claims;
        claimers = s.claimers;
        uses = s.uses;
        pending = s.pending;
        shown = s.shown;
        owed = λ q other is. absurd (other (let one : Some p ≡ Some q = sym pend.pending ∙ is in let k : p ≡ q = cc in ap (λ (x : Pending). x.lane) (sym k)));
        more = s.more;
        grows = s.grows;
        replies = s.replies;
        opened = refl;
        start = refl;
        listed = λ x other held. refl;
      } in
      record {
        sound = sound_goes view clock spare was fslaws old (record { fs = fs; books = record old.books { owed = old.books.owed - 1; gone = g; halted = h } }) [] sound time
            (record {
              agrees = record { turn = ord.agrees.turn; shared = ord.agrees.shared; doomed = ord.agrees.doomed };
              owner = ord.owner;
              ascends = ascends_later old.books.opened old.books.history.items (clock old.fs) (clock fs) ord.ascends time.later;
              idle = λ bad. absurd (let z : Some p ≡ None = sym pend.pending ∙ bad in cc);
              room = omega (arith, ord.room, room);
              entry = λ more. ord.entry (omega (arith, more));
              counted = small;
            })
            refl refl (sym (append-nil (stored old.books.history.items old.books.pending))) (λ t le. refl)
            (λ v w told_v told_w stands.
            let d = parts v told_v in
            stands_away (opening_state old.books.start) old.books.history.items (books_of old.books) lane lane (writes lane t v) v w (told_same (view fs) w told_w (wrote v told_v)) d.0 d.1 stands)
            (λ v w told_v told_w there.
            claims_stand (books_of old.books) v w lane lane (weaker (writes lane t v) (Guarantee (books_of old.books) v lane lane) v w (parts v told_v).0 (told_same (view fs) w told_w (wrote v told_v))) old.books.claims.items old.books.claims.items (λ c has. has) there)
            (λ v told_v relists. relists);
        does = λ v told. let w = wrote v told in let d = parts v told in
            (w.0, w.1, record { writes = weaker (writes lane t v) (Guarantee (books_of old.books) v lane lane) v w.0 d.0 w.2; books = spared; claims = λ c has. inl has; listed = λ x other held. refl });
        books = spared;
        past = λ t le. refl;
        tells = tells;
      }

  pub owed_acts : (old : Base F) (fs : F) (paid : rust.Books) (lane : ℕ) (t : T) (e : Event) (n g : ℕ) (h : Option Halt) (runs : Option View → Books → Type 0) (outcome : Outcome) → paid ≡ record old.books { owed = old.books.owed - 1; gone = g } → IsPending e n lane (books_of old.books) → g + (old.books.owed - 1) ≤ last
      → ((v : View) → view old.fs ≡ Some v → Within (writes lane t v) (Guarantee (books_of old.books) v lane lane) × Away (writes lane t v))
      → SystemInvariant view clock spare was old → Wrote old.fs fs lane t → Calls old.fs fs → spare old.fs ≤ spare fs + 1
      → Tells view runs outcome (record { fs = fs; books = record paid { halted = h } })
      → Acts view clock spare was lane lane outcome runs old (record { fs = fs; books = record paid { halted = h } })
  owed_acts old fs paid lane t e n g h runs outcome pays pend small parts sound wrote time room tells =
      subst (λ (b : rust.Books). Tells view runs outcome (record { fs = fs; books = record b { halted = h } }) → Acts view clock spare was lane lane outcome runs old (record { fs = fs; books = record b { halted = h } }))
      (sym pays) (owed_core old fs lane t e n g h runs outcome pend small parts sound wrote time room) tells

  -- of those that are to be removed one more is gone, or none
  pub same_counted : (old : Base F) → Ordered clock spare old → old.books.gone + (old.books.owed - 1) ≤ last
  same_counted old ord = omega (arith, ord.counted)

  pub more_counted : (old : Base F) (e : Event) (n lane : ℕ) → IsPending e n lane (books_of old.books) × (0 < n) → Ordered clock spare old → (old.books.gone + 1) + (old.books.owed - 1) ≤ last
  more_counted old e n lane pend ord = omega (arith, ord.counted, pend.0.owes, pend.1)

  pub fewer_gone : (old : Base F) (e : Event) (n lane : ℕ) → IsPending e n lane (books_of old.books) × (0 < n) → Ordered clock spare old → old.books.gone < last
  fewer_gone old e n lane pend ord = omega (arith, ord.counted, pend.0.owes, pend.1)

  pub published_parts : (old : Base F) (lane : ℕ) (t : T) (e : Event) (n : ℕ) → kind t ≡ Published e n → Ready view clock spare was (Runs kind facts lane t) old → (v : View) → view old.fs ≡ Some v
      → Within (writes lane t v) (Guarantee (books_of old.books) v lane lane) × Away (writes lane t v) × TakesNone (writes lane t v) v
  published_parts old lane t e n is ready v told =
      subst (λ (k : Kind). StepObligation k lane lane v (books_of old.books) (writes lane t v) (leaves t (turn.Done tt) t v)) is
      (laws.duty lane lane t t v (books_of old.books) ready.sound.ordered.agrees (inl refl) (subst (λ (k : Kind). Stood k lane lane (books_of old.books)) (sym is) tt) (ready.task.facts v told))

  pub remove_parts : (old : Base F) (lane : ℕ) (t : T) (e : Event) (n : ℕ) → kind t ≡ Remove e n → Ready view clock spare was (Runs kind facts lane t) old → (v : View) → view old.fs ≡ Some v
      → Within (writes lane t v) (Guarantee (books_of old.books) v lane lane) × Away (writes lane t v)
  remove_parts old lane t e n is ready v told =
      let d : StepObligation (Remove e n) lane lane v (books_of old.books) (writes lane t v) (leaves t (turn.Done tt) t v) =
      subst (λ (k : Kind). StepObligation k lane lane v (books_of old.books) (writes lane t v) (leaves t (turn.Done tt) t v)) is
      (laws.duty lane lane t t v (books_of old.books) ready.sound.ordered.agrees (inl refl) (subst (λ (k : Kind). Stood k lane lane (books_of old.books)) (sym is) tt) (ready.task.facts v told)) in
      (d.0, d.1)

  pub published_pending : (old : Base F) (lane : ℕ) (t : T) (e : Event) (n : ℕ) → kind t ≡ Published e n → Ready view clock spare was (Runs kind facts lane t) old → IsPending e n lane (books_of old.books) × (0 < n)
  published_pending old lane t e n is ready = subst (λ (k : Kind). Holds k lane (books_of old.books)) is ready.task.holds

  pub remove_pending : (old : Base F) (lane : ℕ) (t : T) (e : Event) (n : ℕ) → kind t ≡ Remove e n → Ready view clock spare was (Runs kind facts lane t) old → IsPending e n lane (books_of old.books) × (0 < n)
  remove_pending old lane t e n is ready = subst (λ (k : Kind). Holds k lane (books_of old.books)) is ready.task.holds

  -- what holds behind a step that is owed
  owed_runs : (old : Base F) (fs : F) (paid : rust.Books) (lane : ℕ) (t next : T) (u : StepResult (Unit {0})) (e : Event) (n g : ℕ) (k : Kind) → paid ≡ record old.books { owed = old.books.owed - 1; gone = g } → kind t ≡ k
      → IsPending e n lane (books_of old.books) → (IsLastly k → ⊥) → ((x : Kind) → Chain k x → (most : ℕ) × (n ≡ suc most) × Follows e most x) → Stood k lane lane (books_of old.books) → Owned k lane (books_of old.books) (books_of (record old.books { owed = old.books.owed - 1; gone = g }))
      → Ready view clock spare was (Runs kind facts lane t) old → stepped t u next → ((v : View) → view old.fs ≡ Some v → Told (view fs) (λ w. leaves t u next v w))
      → Runs kind facts lane next (view fs) (books_of paid)
  owed_runs old fs paid lane t next u e n g k pays is pend never chains stood owned ready step after =
      let more : u ≡ turn.More = more_of t next u (λ last_. never (subst IsLastly is last_)) step in
      let b : Books = books_of (record old.books { owed = old.books.owed - 1; gone = g }) in
      let chain = chains (kind next) (subst (λ (x : Kind). Chain x (kind next)) is (laws.chain t next (subst (λ x. stepped t x next) more step))) in
      subst (λ (x : rust.Books). Runs kind facts lane next (view fs) (books_of x)) (sym pays)
      (record {
        facts = λ w told_w.
            let v = fslaws.told fs old.fs w told_w in
            laws.next lane lane t next v.0 w (books_of old.books) b (subst (λ (x : Kind). Stood x lane lane (books_of old.books)) (sym is) stood) (ready.task.facts v.0 v.1)
            (told_same (view fs) w told_w (subst (λ x. Told (view fs) (λ w. leaves t x next v.0 w)) more (after v.0 v.1)))
            (record { exclusive = λ h. h; turn = λ h. h; sysroot = λ h. h; holds = λ x l h. h; wants = λ x l h. h; pins = λ x l h. h; pinned = λ x l h. h; claims = λ c h. h; others = λ c l h. h; start = refl; listed = refl })
            (subst (λ (x : Kind). Owned x lane (books_of old.books) b) (sym is) owned);
        holds = follows_holds e chain.0 (kind next) lane b chain.2
            (record { command = pend.command; turn = pend.turn; pending = pend.pending; owes = omega (arith, follows_owed e chain.0 (kind next) chain.2, chain.1, pend.owes) });
      })

  pub published_runs : (old : Base F) (fs : F) (paid : rust.Books) (lane : ℕ) (t next : T) (u : StepResult (Unit {0})) (e : Event) (n : ℕ) → paid ≡ record old.books { owed = old.books.owed - 1; gone = old.books.gone } → kind t ≡ Published e n → Ready view clock spare was (Runs kind facts lane t) old
      → stepped t u next → ((v : View) → view old.fs ≡ Some v → Told (view fs) (λ w. leaves t u next v w))
      → Runs kind facts lane next (view fs) (books_of paid)
  published_runs old fs paid lane t next u e n pays is ready step after =
      owed_runs old fs paid lane t next u e n old.books.gone (Published e n) pays is (published_pending old lane t e n is ready).0 (λ bad. bad) (λ x c. c) tt (refl, refl) ready step after

  pub remove_runs : (old : Base F) (fs : F) (paid : rust.Books) (lane : ℕ) (t next : T) (u : StepResult (Unit {0})) (e : Event) (n : ℕ) → paid ≡ record old.books { owed = old.books.owed - 1; gone = old.books.gone + 1 } → kind t ≡ Remove e n → Ready view clock spare was (Runs kind facts lane t) old
      → stepped t u next → ((v : View) → view old.fs ≡ Some v → Told (view fs) (λ w. leaves t u next v w))
      → Runs kind facts lane next (view fs) (books_of paid)
  remove_runs old fs paid lane t next u e n pays is ready step after =
      owed_runs old fs paid lane t next u e n (old.books.gone + 1) (Remove e n) pays is (remove_pending old lane t e n is ready).0 (λ bad. bad) (λ x c. c) tt (refl, refl) ready step after

  pub make_durable_pending : (old : Base F) (lane : ℕ) (t : T) (e : Event) → kind t ≡ MakeDurable e → Ready view clock spare was (Runs kind facts lane t) old → IsPending e 1 lane (books_of old.books)
  make_durable_pending old lane t e is ready = subst (λ (k : Kind). Holds k lane (books_of old.books)) is ready.task.holds

  make_durable_duty : (old : Base F) (lane : ℕ) (t next : T) (e : Event) → kind t ≡ MakeDurable e → Ready view clock spare was (Runs kind facts lane t) old → (v : View) → view old.fs ≡ Some v
      → Within (writes lane t v) Nothing × ((w : View) → leaves t (turn.Done tt) next v w → Final e w)
  make_durable_duty old lane t next e is ready v told =
      subst (λ (k : Kind). StepObligation k lane lane v (books_of old.books) (writes lane t v) (leaves t (turn.Done tt) next v)) is
      (laws.duty lane lane t next v (books_of old.books) ready.sound.ordered.agrees (inl refl) (subst (λ (k : Kind). Stood k lane lane (books_of old.books)) (sym is) tt) (ready.task.facts v told))

  pub make_durable_parts : (old : Base F) (lane : ℕ) (t : T) (e : Event) → kind t ≡ MakeDurable e → Ready view clock spare was (Runs kind facts lane t) old → (v : View) → view old.fs ≡ Some v
      → Within (writes lane t v) (Guarantee (books_of old.books) v lane lane) × Away (writes lane t v)
  make_durable_parts old lane t e is ready v told = let d = make_durable_duty old lane t t e is ready v told in ((λ p s wrote. absurd (d.0 p s wrote)), (λ q s wrote. absurd (d.0 _ s wrote)))

  pub make_durable_more : (t next : T) (u : StepResult (Unit {0})) (e : Event) → kind t ≡ MakeDurable e → u ≡ turn.More → stepped t u next → ⊥
  make_durable_more t next u e is more step = let bad : Chain (MakeDurable e) (kind next) = subst (λ (k : Kind). Chain k (kind next)) is (laws.chain t next (subst (λ x. stepped t x next) more step)) in bad

  make_durable_spared : (b b' : rust.Books) (lane : ℕ) (en : Entry) (p : Pending) → b' ≡ record b { history = b'.history; pending = None; owed = 0 } → b'.history.items ≡ b.history.items ++ en ∷ [] → b.pending ≡ Some p → p.lane ≡ lane → b.turn ≡ Some lane → Agrees (books_of b) → Spared lane lane (books_of b) (books_of b')
  make_durable_spared b b' lane en p same grows pend own_p turn_is agrees =
      let s = spared_refl lane lane (books_of b) in
      let mine : (q : Pending) → b.pending ≡ Some q → q.lane ≡ lane = (λ q is. let one : Some p ≡ Some q = sym pend ∙ is in let k : p ≡ q = cc in ap (λ (x : Pending). x.lane) (sym k) ∙ own_p) in
      subst (λ (x : rust.Books). Spared lane lane (books_of b) (books_of x)) (sym same)
      (record {
        shared = s.shared;
        exclusive = s.exclusive;
        turn = s.turn;
        sysroot = s.sysroot;
        holds = s.holds;
        wants = s.wants;
        pins = s.pins;
        pinned = s.pinned;
        doomed = λ x other is. (doomed_idle b.exclusive ∙ sym (ap (λ l. doomed_of l b.pending) is ∙ doomed_apart x b.pending (λ q has e. other (sym e ∙ mine q has))), refl);
        claims = s.claims;
        claimers = s.claimers;
        uses = s.uses;
        pending = λ q other is. absurd (other (mine q is));
        shown = λ q is. absurd (let z : None ≡ Some q = is in cc);
        owed = λ q other is. absurd (other (mine q is));
        more = en ∷ [];
        grows = grows;
        replies = s.replies;
        opened = refl;
        start = refl;
        listed = λ x other held. absurd (other (sym (agrees.turn x lane held turn_is)));
      })

  -- while another lane works on the list none comes to last
  relisted : (old new : Base F) (lane : ℕ) (e : Event) (en : Entry) (x : ℕ) → x ≢ lane → old.books.sysroot ≡ Some x → new.books.history.items ≡ old.books.history.items ++ en ∷ [] → new.books.start ≡ old.books.start
      → (IsSome (list_in en.event) → old.books.sysroot ≡ Some lane) → listed_in (books_of new.books) ≡ listed_in (books_of old.books)
  relisted old new lane e en x other held history start mine = by (list_in en.event) refl
    where
      begin : SystemState
      begin = opening_state old.books.start

      pushed : listed_in (books_of new.books) ≡ next_list (list_in en.event) (listed_in (books_of old.books))
      pushed = rw (history, start) (list_push old.books.history.items en begin)

      by : (o : Option (List DepId)) → list_in en.event ≡ o → listed_in (books_of new.books) ≡ listed_in (books_of old.books)
      by None is = pushed ∙ ap (λ (o : Option (List DepId)). next_list o (listed_in (books_of old.books))) is
      by (Some list) is =
          let both : Some lane ≡ Some x = sym (mine (subst (λ (o : Option (List DepId)). IsSome o) (sym is) refl)) ∙ held in
          absurd (other (let k : x ≡ lane = cc in k))

  -- The step that makes the change durable.
  pub make_durable_acts : (old mid new : Base F) (lane : ℕ) (t next : T) (u : StepResult (Unit {0})) (e : Event) (runs : Option View → Books → Type 0) → kind t ≡ MakeDurable e
      → mid.books ≡ record old.books { history = mid.books.history; pending = None; owed = 0 }
      → ((p : Pending) → old.books.pending ≡ Some p → mid.books.history.items ≡ old.books.history.items ++ record { lane = p.lane; command = p.command; event = p.event; moment = clock mid.fs } ∷ [])
      → Ends lane lane mid new → Ready view clock spare was (Runs kind facts lane t) old → Wrote old.fs mid.fs lane t → Calls old.fs mid.fs → Next (clock old.fs) (clock mid.fs)
      → u ≡ turn.Done tt → ((v : View) → view old.fs ≡ Some v → Told (view mid.fs) (λ w. leaves t u next v w))
      → Acts view clock spare was lane lane came.Done runs old new
  make_durable_acts old mid new lane t next u e runs is same entry ends ready wrote time ticks done after =
      let pend = make_durable_pending old lane t e is ready in
      let p : Pending = record { lane = lane; command = pend.command; event = e } in
      let en : Entry = record { lane = lane; command = pend.command; event = e; moment = clock mid.fs } in
      let grows : mid.books.history.items ≡ old.books.history.items ++ en ∷ [] = entry p pend.pending in
      let history : new.books.history.items ≡ old.books.history.items ++ en ∷ [] = ap (λ h. h.items) ends.history ∙ grows in
      let none : new.books.pending ≡ None = ends.pending ∙ ap (λ b. b.pending) same in
      let nothing : new.books.owed ≡ 0 = ends.owed ∙ ap (λ b. b.owed) same in
      let opened : new.books.opened ≡ old.books.opened = ends.opened ∙ ap (λ b. b.opened) same in
      let start : new.books.start ≡ old.books.start = ends.start ∙ ap (λ b. b.start) same in
      let now : clock new.fs ≡ clock mid.fs = ap clock ends.fs in
      let fewer : (c : claim.Claim) → Contains new.books.claims.items c → Contains old.books.claims.items c = (λ c has. subst (λ (b : rust.Books). Contains b.claims.items c) same (ends.claims c has)) in
      let ord = ready.sound.ordered in
      let agrees : Agrees (books_of mid.books) = subst (λ (b : rust.Books). Agrees (books_of b)) (sym same) (record { turn = ord.agrees.turn; shared = ord.agrees.shared; doomed = doomed_held old.books.exclusive None }) in
      let spared = spared_then lane lane (books_of old.books) (books_of mid.books) (books_of new.books) (make_durable_spared old.books mid.books lane en p same grows pend.pending refl pend.turn ord.agrees) ends.spared in
      record {
        sound = sound_goes view clock spare was fslaws old new [] ready.sound (subst (Calls old.fs) (sym ends.fs) time)
            (record {
              agrees = ends.agrees agrees;
              owner = λ q bad. absurd (let z : None ≡ Some q = sym none ∙ bad in cc);
              ascends = rw (opened, history, now) (ascends_push old.books.opened old.books.history.items en (ascends_later old.books.opened old.books.history.items (clock old.fs) (clock mid.fs) ord.ascends time.later));
              idle = λ is. nothing;
              room = rw nothing (omega arith);
              entry = λ more. absurd (let z : 0 < 0 = subst (λ n. 0 < n) nothing more in omega (arith, z));
              counted = (let gone : new.books.gone ≡ old.books.gone = ends.gone ∙ ap (λ b. b.gone) same in rw (nothing, gone) (omega (arith, ord.counted)));
            })
            opened start
            (rw (history, none) (append-nil (events_of (old.books.history.items ++ en ∷ [])) ∙ events_push old.books.history.items en ∙ sym (append-nil (events_of old.books.history.items ++ e ∷ [])) ∙ ap (λ (o : Option Pending). stored old.books.history.items o ++ []) (sym pend.pending)))
            (λ t le. rw history (acked_late t old.books.history.items en (omega (arith, le, ticks.is))))
            (λ v w told_v told_w stands.
            let told_m : view mid.fs ≡ Some w = ap view (sym ends.fs) ∙ told_w in
            let d = make_durable_duty old lane t next e is ready v told_v in
            rw (history, none) (stands_make_durable (opening_state old.books.start) old.books.history.items p en v w refl
            (weaker (writes lane t v) Nothing v w d.0 (told_same (view mid.fs) w told_m (wrote v told_v)))
            (d.1 w (told_same (view mid.fs) w told_m (subst (λ x. Told (view mid.fs) (λ w. leaves t x next v w)) done (after v told_v))))
            (subst (λ (o : Option Pending). Stands (opening_state old.books.start) old.books.history.items o v) pend.pending stands)))
            (λ v w told_v told_w there.
            let told_m : view mid.fs ≡ Some w = ap view (sym ends.fs) ∙ told_w in
            let d = make_durable_duty old lane t next e is ready v told_v in
            claims_stand (books_of old.books) v w lane lane (weaker (writes lane t v) (Guarantee (books_of old.books) v lane lane) v w (λ q s k. absurd (d.0 q s k)) (told_same (view mid.fs) w told_m (wrote v told_v))) old.books.claims.items new.books.claims.items fewer there)
            (λ v told_v relists q bad. absurd (let z : None ≡ Some q = sym none ∙ bad in cc));
        does = λ v told. let w = wrote v told in let d = make_durable_duty old lane t next e is ready v told in
            (w.0, ap view ends.fs ∙ w.1, record { writes = weaker (writes lane t v) (Guarantee (books_of old.books) v lane lane) v w.0 (λ q s k. absurd (d.0 q s k)) w.2; books = spared; claims = λ c has. inl (fewer c has); listed = λ x other held. relisted old new lane e en x other held history start (λ more. ready.sound.relists v told p pend.pending more) });
        books = spared;
        past = λ t le. rw history (acked_late t old.books.history.items en (omega (arith, le, ticks.is)));
        tells = tt;
      }

  -- what it comes to in the books
  books_published : (old mid : Base F) (shown : rust.Books) (lane command : ℕ) (e : Event) (owed : ℕ) → mid ≡ record old { fs = mid.fs }
      → shown ≡ record mid.books { turn = Some lane; pending = Some (record { lane = lane; command = command; event = e }); gone = 0; owed = owed } → shown ≡ pending_books old.books lane command e owed old.books.halted
  books_published old mid shown lane command e owed only shows = shows ∙ ap (λ (m : Base F). record m.books { turn = Some lane; pending = Some (record { lane = lane; command = command; event = e }); gone = 0; owed = owed }) only

  pub publish_done : (old mid : Base F) (shown : rust.Books) (lane command : ℕ) (t next : T) (e : Event) (owed : ℕ) (h : Option Halt) (outcome : Outcome) → mid ≡ record old { fs = mid.fs }
      → shown ≡ record mid.books { turn = Some lane; pending = Some (record { lane = lane; command = command; event = e }); gone = 0; owed = owed }
      → kind t ≡ Publish e → Free old.books.exclusive lane × Free old.books.turn lane → vec_len old.books.history < vec_capacity old.books.history → Ready view clock spare was (Runs kind facts lane t) old → Wrote old.fs mid.fs lane t → Calls old.fs mid.fs → owed ≤ spare mid.fs → owed ≤ last
      → Tells view (Runs kind facts lane next) outcome (record { fs = mid.fs; books = record shown { halted = h } })
      → Acts view clock spare was lane lane outcome (Runs kind facts lane next) old (record { fs = mid.fs; books = record shown { halted = h } })
  publish_done old mid shown lane command t next e owed h outcome only shows is free room ready wrote time owes small tells =
      subst (λ (b : rust.Books). Tells view (Runs kind facts lane next) outcome (record { fs = mid.fs; books = record b { halted = h } }) → Acts view clock spare was lane lane outcome (Runs kind facts lane next) old (record { fs = mid.fs; books = record b { halted = h } }))
      (sym (books_published old mid shown lane command e owed only shows))
      (publish_acts old mid.fs lane command t next e owed h outcome is free.1 free.0 room ready wrote time owes small) tells

  pub publish_tells : (old mid : Base F) (shown : rust.Books) (lane command : ℕ) (t next : T) (u : StepResult (Unit {0})) (e : Event) (owed : ℕ) → mid ≡ record old { fs = mid.fs }
      → shown ≡ record mid.books { turn = Some lane; pending = Some (record { lane = lane; command = command; event = e }); gone = 0; owed = owed } → owed ≡ owed_by (kind next)
      → kind t ≡ Publish e → Free old.books.exclusive lane × Free old.books.turn lane → Ready view clock spare was (Runs kind facts lane t) old
      → stepped t u next → ((v : View) → view old.fs ≡ Some v → Told (view mid.fs) (λ w. leaves t u next v w))
      → Runs kind facts lane next (view mid.fs) (books_of shown)
  publish_tells old mid shown lane command t next u e owed only shows owes is free ready step after =
      subst (λ (b : rust.Books). Runs kind facts lane next (view mid.fs) (books_of b)) (sym (books_published old mid shown lane command e owed only shows))
      (subst (λ (n : ℕ). Runs kind facts lane next (view mid.fs) (books_of (pending_books old.books lane command e n old.books.halted))) (sym owes)
      (publish_runs old mid.fs lane command t next u e is free.1 free.0 ready step after))

  pub publish_not : (old : Base F) (lane : ℕ) (t : T) → IsPublish (kind t) → Ready view clock spare was (Runs kind facts lane t) old → NotPending lane (books_of old.books)
  publish_not old lane t is ready = let e = publish_is (kind t) is in subst (λ (k : Kind). Holds k lane (books_of old.books)) e.1 ready.task.holds

  -- once there is room for an entry
  room_only : (old mid : Base F) → mid.fs ≡ old.fs → mid.books ≡ record old.books { history = mid.books.history } → mid.books.history.items ≡ old.books.history.items → books_of mid.books ≡ books_of old.books
  room_only old mid fs same items = ap books_of same ∙ ap (λ h. record (books_of old.books) { history = h }) items

  pub room_ready : (old : Base F) (made : rust.Books) (runs : Option View → Books → Type 0) → made ≡ record old.books { history = made.history } → made.history.items ≡ old.books.history.items
      → (vec_len old.books.history < vec_capacity old.books.history → vec_len made.history < vec_capacity made.history)
      → Ready view clock spare was runs old → Ready view clock spare was runs (record { fs = old.fs; books = made })
  room_ready old made runs same items more ready =
      let eq : books_of made ≡ books_of old.books = ap books_of same ∙ ap (λ h. record (books_of old.books) { history = h }) items in
      let ord = ready.sound.ordered in
      let pending : made.pending ≡ old.books.pending = ap (λ b. b.pending) same in
      let owed : made.owed ≡ old.books.owed = ap (λ b. b.owed) same in
      let gone : made.gone ≡ old.books.gone = ap (λ b. b.gone) same in
      let turn : made.turn ≡ old.books.turn = ap (λ b. b.turn) same in
      let sysroot : made.sysroot ≡ old.books.sysroot = ap (λ b. b.sysroot) same in
      let opened : made.opened ≡ old.books.opened = ap (λ b. b.opened) same in
      let start : made.start ≡ old.books.start = ap (λ b. b.start) same in
      record {
        sound = record {
          ordered = record {
            agrees = subst Agrees (sym eq) ord.agrees;
            owner = λ p is. turn ∙ ord.owner p (sym pending ∙ is);
            ascends = rw (opened, items) ord.ascends;
            idle = λ is. owed ∙ ord.idle (sym pending ∙ is);
            room = rw owed ord.room;
            entry = λ owes. more (ord.entry (subst (λ n. 0 < n) owed owes));
            counted = rw (gone, owed) ord.counted;
          };
          stands = rw (items, pending, start) ready.sound.stands;
          crash = rw (items, pending, start, opened) ready.sound.crash;
          claims = rw (ap (λ b. b.claims.items) same) ready.sound.claims;
          relists = λ v told p is more. sysroot ∙ ready.sound.relists v told p (sym pending ∙ is) more;
        };
        live = ap (λ b. b.halted) same ∙ ready.live;
        task = subst (runs (view old.fs)) (sym eq) ready.task;
      }

  pub room_acts : (old new : Base F) (made : rust.Books) (actor lane : ℕ) (outcome : Outcome) (runs : Option View → Books → Type 0) → made ≡ record old.books { history = made.history } → made.history.items ≡ old.books.history.items
      → Acts view clock spare was actor lane outcome runs (record { fs = old.fs; books = made }) new → Acts view clock spare was actor lane outcome runs old new
  room_acts old new made actor lane outcome runs same items acts =
      let eq : books_of made ≡ books_of old.books = ap books_of same ∙ ap (λ h. record (books_of old.books) { history = h }) items in
      record {
        sound = acts.sound;
        does = λ v told. let d = acts.does v told in (d.0, d.1, subst (λ b. Interference actor lane v b d.0 (books_of new.books)) eq d.2);
        books = subst (λ b. Spared actor lane b (books_of new.books)) eq acts.books;
        past = λ t le. acts.past t le ∙ ap (λ b. acked t b.history) eq;
        tells = acts.tells;
      }
