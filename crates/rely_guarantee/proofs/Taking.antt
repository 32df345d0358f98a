-- Locks that a lane takes in the middle of its task.
use Rattle.std.proofs.Common.{◌≡◌, ◌≢◌, ◌⊎◌, ⊎_elim, inl, inr, ◌<◌, ℕ, refl, sym, ◌∙◌, ap, subst, List, [], ◌∷◌, Option, Some, Contains, take, drop}
use Rattle.std.proofs.lemmas.List.Elements.{All-contains}
use Rattle.ost_types.specs.declared.object.Kind as object
use Rattle.ost_types.specs.declared.object.ObjName.{ObjName}
use Rattle.ost_types.specs.Path.{Path}
use Rattle.fs_trait.specs.declared.task.StepResult.{StepResult}
use Rattle.fs_trait.specs.View.{View}
use Rattle.fs_trait.specs.Seen.{Seen}
use Rattle.fs_trait.proofs.Kept.{weaker}
use Rattle.repo_layout.specs.Place.{Place, Config, Stage, Ref, ObjectsFolder, Object, Mark, Summary, Deployment, Etc, Origin, Staged, BootLink, BootLinkStage, BootFolder, Loader, LoaderStage, LoaderFolder, KernelCopy, Checkout, Other, place}
use Rattle.boot_model.specs.declared.item.DepId.{DepId}
use Rattle.repo_model.specs.Objects.{Stores}
use Rattle.repo_model.specs.Trees.{name_of}
use Rattle.reach.proofs.Reaching.{reach_up}
use Rattle.rely_guarantee.specs.State.{IsDeployedCommit, acked}
use Rattle.rely_guarantee.specs.declared.books.Base.{Base}
use Rattle.rely_guarantee.specs.declared.books.Books as rust
use Rattle.rely_guarantee.specs.declared.books.Claim as claim
use Rattle.rely_guarantee.specs.declared.books.Pin.{Pin}
use Rattle.rely_guarantee.specs.declared.books.Share.{Share}
use Rattle.rely_guarantee.specs.declared.event.Event.{Event}
use Rattle.rely_guarantee.specs.declared.kind.Outcome.{Outcome}
use Rattle.rely_guarantee.specs.declared.kind.Outcome.TheVariants as came
use Rattle.rely_guarantee.specs.declared.kind.Wants.{Wants}
use Rattle.rely_guarantee.specs.Books.{Books, books_of, doomed_of, Agrees, Free, Frees, Spared, Keeps}
use Rattle.rely_guarantee.specs.Rely.{Guarantee, may_at, NotPinned}
use Rattle.rely_guarantee.specs.Removing.{Goes, IsGuarded, IsRoot, next_of}
use Rattle.rely_guarantee.specs.Exact.{NoNewShares, lock_taken}
use Rattle.rely_guarantee.specs.Laws.{Kind, Quiet, Store, Take, Claim, Publish, Published, Remove, MakeDurable, Laws, IsStore, IsTake, Holds, IsPending, NotPending, Runs, Ready, Tells, Acts}
use Rattle.rely_guarantee.specs.SystemInvariant.{Ordered}
use Rattle.rely_guarantee.proofs.Lists.{all_of, other_or_own}
use Rattle.rely_guarantee.proofs.Locking.{doomed_taken, free_before, spared_refl, spared_then}

-- With more locks of its own a lane may write no more than before.
links_before : (b b' : Books) (lane actor : ℕ) → Spared actor lane b b' → Free b'.sysroot lane × Free b'.turn lane × Free b'.exclusive lane → Free b.sysroot lane × Free b.turn lane × Free b.exclusive lane
links_before b b' lane actor sp m = (free_before b.sysroot b'.sysroot lane sp.sysroot m.0, free_before b.turn b'.turn lane sp.turn m.1, free_before b.exclusive b'.exclusive lane sp.exclusive m.2)

may_before : (b b' : Books) (actor lane : ℕ) → Spared actor lane b b' → Keeps lane b b' → b'.claims ≡ b.claims → (x : Place) (s : Seen) → may_at b' actor lane x s → may_at b actor lane x s
may_before b b' actor lane sp ke same Config s m = m
may_before b b' actor lane sp ke same (Stage a) s m = m
may_before b b' actor lane sp ke same (Ref n) s m = (free_before b.turn b'.turn lane sp.turn m.0, free_before b.exclusive b'.exclusive lane sp.exclusive m.1)
may_before b b' actor lane sp ke same (ObjectsFolder d) s m = m
may_before b b' actor lane sp ke same (Object k c) s m = (free_before b.exclusive b'.exclusive lane sp.exclusive m.0, m.1, λ none p has k e. pinned p (m.2 none) has k e)
  where
    pinned : (p : Pin) → NotPinned b'.pins lane k c → Contains b.pins p → p.object.kind ≡ k → p.object.csum ≡ c → p.lane ≡ lane
    pinned p none has kk cc_ = other_or_own p.lane lane (λ other. none p (sp.pins p other has) kk cc_)
may_before b b' actor lane sp ke same (Mark c) s m = m
may_before b b' actor lane sp ke same Summary s m = (free_before b.turn b'.turn lane sp.turn m.0, free_before b.exclusive b'.exclusive lane sp.exclusive m.1)
may_before b b' actor lane sp ke same (Deployment o c n r) s m = free_before b.sysroot b'.sysroot lane sp.sysroot m
may_before b b' actor lane sp ke same (Etc o c n r) s m = free_before b.sysroot b'.sysroot lane sp.sysroot m
may_before b b' actor lane sp ke same (Origin o c n) s m = free_before b.sysroot b'.sysroot lane sp.sysroot m
may_before b b' actor lane sp ke same Staged s m = m
may_before b b' actor lane sp ke same (BootLink n) s m = links_before b b' lane actor sp m
may_before b b' actor lane sp ke same BootLinkStage s m = free_before b.sysroot b'.sysroot lane sp.sysroot m
may_before b b' actor lane sp ke same (BootFolder n k r) s m = free_before b.sysroot b'.sysroot lane sp.sysroot m
may_before b b' actor lane sp ke same Loader s m = links_before b b' lane actor sp m
may_before b b' actor lane sp ke same LoaderStage s m = free_before b.sysroot b'.sysroot lane sp.sysroot m
may_before b b' actor lane sp ke same (LoaderFolder n r) s m = free_before b.sysroot b'.sysroot lane sp.sysroot m
may_before b b' actor lane sp ke same (KernelCopy o c r) s m = free_before b.sysroot b'.sysroot lane sp.sysroot m
may_before b b' actor lane sp ke same (Checkout n []) s m = m
may_before b b' actor lane sp ke same (Checkout n (x ∷ r)) s m = subst (λ (l : List claim.Claim). Contains l (record { lane = lane; name = n })) same m
may_before b b' actor lane sp ke same (Other p) s m = m

pub may_less : (b b' : Books) (v : View) (actor lane : ℕ) → Spared actor lane b b' → Keeps lane b b' → b'.claims ≡ b.claims → next_of b' ≡ next_of b → (p : Path) (s : Seen) → Guarantee b' v actor lane p s → Guarantee b v actor lane p s
may_less b b' v actor lane sp ke same next p s m = record {
  at = may_before b b' actor lane sp ke same (place p) s m.at;
  fits = m.fits;
  objects = λ kind sum at. ⊎_elim (λ comes. inl comes) (λ goes. inr (goes_before kind sum goes)) (m.objects kind sum at);
  marks = λ commit at there. let k = m.marks commit at there in (free_before b.exclusive b'.exclusive lane sp.exclusive k.0, k.1);
  checkouts = m.checkouts;
  comes = m.comes;
  folders = m.folders;
}
  where
    root_before : (o : ObjName) → IsRoot b v lane o → IsRoot b' v lane o
    root_before o = ⊎_elim
        (λ pin. inl (pin.0, sp.pins pin.0 pin.2 pin.1, pin.2, pin.3))
        (λ more. inr (⊎_elim (λ named. inl named) (λ listed. inr (subst (λ (list : List DepId). IsDeployedCommit list o) (sym ke.listed) listed)) more))

    guarded_before : (o : ObjName) → IsGuarded b v lane o → IsGuarded b' v lane o
    guarded_before = reach_up (Stores v.now) (Stores v.now) (IsRoot b v lane) (IsRoot b' v lane) root_before (λ o c stored. stored)

    goes_before : (kind : object.Kind) (sum : List ℕ) → Goes b' v lane kind sum s → Goes b v lane kind sum s
    goes_before kind sum goes = (goes.0, subst (λ (l : List ObjName). Contains l (name_of kind sum)) next goes.1, λ guarded. goes.2 (guarded_before (name_of kind sum) guarded))

pub store_is : (k : Kind) → IsStore k → k ≡ Store
store_is Quiet is = absurd is
store_is Store is = refl
store_is (Take wants) is = absurd is
store_is (Claim name) is = absurd is
store_is (Publish e) is = absurd is
store_is (Published e owed) is = absurd is
store_is (Remove e owed) is = absurd is
store_is (MakeDurable e) is = absurd is

pub take_is : (wants : Wants) (k : Kind) → IsTake wants k → k ≡ Take wants
take_is wants Quiet is = absurd is
take_is wants Store is = absurd is
take_is wants (Take w) is = ap Take is
take_is wants (Claim name) is = absurd is
take_is wants (Publish e) is = absurd is
take_is wants (Published e owed) is = absurd is
take_is wants (Remove e owed) is = absurd is
take_is wants (MakeDurable e) is = absurd is

-- what is removed goes on to be so, where a lane that shows nothing has more locks
pub granted_doomed : (b b' : rust.Books) (lane : ℕ) (wants : Wants) → b' ≡ record b { shared = b'.shared; exclusive = b'.exclusive; turn = b'.turn; sysroot = b'.sysroot; holds = b'.holds; pins = b'.pins } → Frees wants lane (books_of b)
    → b'.exclusive ≡ lock_taken wants.exclusive lane b.exclusive → NotPending lane (books_of b) → (books_of b').doomed ≡ (books_of b).doomed
granted_doomed b b' lane wants same frees taken none =
    ap (λ (x : rust.Books). doomed_of b'.exclusive x.pending) same
    ∙ ap (λ (l : Option ℕ). doomed_of l b.pending) taken ∙ doomed_taken wants.exclusive lane b.exclusive b.pending (λ asks. (frees.exclusive asks).0) none

-- and so does what is removed next
pub granted_next : (b b' : rust.Books) (lane : ℕ) (wants : Wants) → b' ≡ record b { shared = b'.shared; exclusive = b'.exclusive; turn = b'.turn; sysroot = b'.sysroot; holds = b'.holds; pins = b'.pins } → Frees wants lane (books_of b)
    → b'.exclusive ≡ lock_taken wants.exclusive lane b.exclusive → NotPending lane (books_of b) → next_of (books_of b') ≡ next_of (books_of b)
granted_next b b' lane wants same frees taken none =
    ap (λ (x : rust.Books). take 1 (drop x.gone (books_of b').doomed)) same
    ∙ ap (λ (l : List ObjName). take 1 (drop b.gone l)) (granted_doomed b b' lane wants same frees taken none)

-- a share that was there before the lane took one, behind the step
pub unshared : (old granted stepped new : rust.Books) (lane : ℕ) → ((x : Share) → Contains granted.shared.items x → Contains old.shared.items x ⊎ (x.lane ≡ lane)) → NoNewShares granted stepped
    → NoNewShares stepped new → ((x : Share) → Contains new.shared.items x → x.lane ≢ lane) → NoNewShares old new
unshared old granted stepped new lane came more fewer none x has = ⊎_elim (λ was. was) (λ own. absurd (none x has own)) (came x (more x (fewer x has)))

-- what is to be held for a step says nothing of those that store
holds_on : (k : Kind) (lane : ℕ) (b : Books) (shared : List Share) → Holds k lane b → Holds k lane (record b { shared = shared })
holds_on k lane b shared = by k
  where
    still : (e : Event) (owed : ℕ) → IsPending e owed lane b → IsPending e owed lane (record b { shared = shared })
    still e owed h = record { command = h.command; turn = h.turn; pending = h.pending; owes = h.owes }

    by : (k : Kind) → Holds k lane b → Holds k lane (record b { shared = shared })
    by Quiet h = h
    by Store h = h
    by (Take wants) h = h
    by (Claim name) h = h
    by (Publish e) h = h
    by (Published e owed) h = (still e owed h.0, h.1)
    by (Remove e owed) h = (still e owed h.0, h.1)
    by (MakeDurable e) h = still e 1 h

-- The lane is no more among those that store, and all else is as it was.
module _ (b : rust.Books) (left : rust.Books) (lane : ℕ) (kept : (x : Share) → x.lane ≢ lane → Contains b.shared.items x → Contains left.shared.items x) (fewer : NoNewShares b left) where
  abbrev pub left_books : rust.Books
  left_books = record b { shared = left.shared }

  left_keeps : Keeps lane (books_of b) (books_of left_books)
  left_keeps = record { exclusive = λ k. k; turn = λ k. k; sysroot = λ k. k; holds = λ h l k. k; wants = λ w l k. k; pins = λ p l k. k; pinned = λ p l k. k; claims = λ c k. k; others = λ c l k. k; start = refl; listed = refl }

  left_spared : Spared lane lane (books_of b) (books_of left_books)
  left_spared =
      let s = spared_refl lane lane (books_of b) in
      record {
        shared = λ x actor other has. kept x other has;
        exclusive = s.exclusive;
        turn = s.turn;
        sysroot = s.sysroot;
        holds = s.holds;
        wants = s.wants;
        pins = s.pins;
        pinned = s.pinned;
        doomed = s.doomed;
        claims = s.claims;
        claimers = s.claimers;
        uses = s.uses;
        pending = s.pending;
        shown = s.shown;
        owed = s.owed;
        more = s.more;
        grows = s.grows;
        replies = s.replies;
        opened = refl;
        start = refl;
        listed = λ x other held. refl;
      }

  left_agrees : Agrees (books_of b) → Agrees (books_of left_books)
  left_agrees agrees = record {
    turn = agrees.turn;
    shared = λ x alone. all_of (λ (s : Share). s.lane ≡ x) left.shared.items (λ s has. All-contains (λ (s : Share). s.lane ≡ x) b.shared.items s (agrees.shared x alone) (fewer s has));
    doomed = agrees.doomed;
  }

module _ {F : Type 0} (view : F → Option View) (clock spare : F → ℕ) (was : F → ℕ → View → Type 0)
    {T : Type 0} {kind : T → Kind} {needs : ℕ → T → View → Type 0} {writes : ℕ → T → View → Path → Seen → Type 0} {stepped : T → StepResult (Unit {0}) → T → Type 0} {leaves : T → StepResult (Unit {0}) → T → View → View → Type 0} {facts : ℕ → T → View → Books → Type 0}
    (laws : Laws kind needs writes stepped leaves facts) where
  pub take_not : (old : Base F) (lane : ℕ) (t : T) (wants : Wants) → kind t ≡ Take wants → Ready view clock spare was (Runs kind facts lane t) old → NotPending lane (books_of old.books)
  take_not old lane t wants is ready = subst (λ (k : Kind). Holds k lane (books_of old.books)) is ready.task.holds

  -- with the locks it is ready
  pub take_ready : (old : Base F) (b : rust.Books) (lane : ℕ) (t : T) (wants : Wants) → kind t ≡ Take wants
      → b ≡ record old.books { shared = b.shared; exclusive = b.exclusive; turn = b.turn; sysroot = b.sysroot; holds = b.holds; pins = b.pins }
      → Spared lane lane (books_of old.books) (books_of b) → Keeps lane (books_of old.books) (books_of b) → (books_of b).doomed ≡ (books_of old.books).doomed → (Agrees (books_of old.books) → Agrees (books_of b))
      → Ready view clock spare was (Runs kind facts lane t) old → Ready view clock spare was (Runs kind facts lane t) (record old { books = b })
  take_ready old b lane t wants is same spared keeps removes agrees ready =
      let ord = ready.sound.ordered in
      let none : NotPending lane (books_of old.books) = subst (λ (k : Kind). Holds k lane (books_of old.books)) is ready.task.holds in
      let pending : b.pending ≡ old.books.pending = ap (λ x. x.pending) same in
      let owed : b.owed ≡ old.books.owed = ap (λ x. x.owed) same in
      let gone : b.gone ≡ old.books.gone = ap (λ x. x.gone) same in
      let opened : b.opened ≡ old.books.opened = ap (λ x. x.opened) same in
      let history : b.history ≡ old.books.history = ap (λ x. x.history) same in
      let start : b.start ≡ old.books.start = ap (λ x. x.start) same in
      record {
        sound = record {
          ordered = record {
            agrees = agrees ord.agrees;
            owner = λ p has. let before : old.books.pending ≡ Some p = sym pending ∙ has in spared.turn p.lane (none p before) (ord.owner p before);
            ascends = rw (opened, history) ord.ascends;
            idle = λ no. owed ∙ ord.idle (sym pending ∙ no);
            room = rw owed ord.room;
            entry = λ owes. rw history (ord.entry (subst (λ n. 0 < n) owed owes));
            counted = rw (gone, owed) ord.counted;
          };
          stands = rw (history, pending, start) ready.sound.stands;
          crash = rw (history, pending, start, opened) ready.sound.crash;
          claims = rw (ap (λ x. x.claims) same) ready.sound.claims;
          relists = λ v told p has more. let before : old.books.pending ≡ Some p = sym pending ∙ has in spared.sysroot p.lane (none p before) (ready.sound.relists v told p before more);
        };
        live = ap (λ x. x.halted) same ∙ ready.live;
        task = record {
          facts = λ v told. laws.gains lane t v (books_of old.books) (books_of b) keeps (removes, gone) (ready.task.facts v told);
          holds = subst (λ (k : Kind). Holds k lane (books_of b)) (sym is) (λ p has. none p (sym pending ∙ has));
        };
      }

  pub take_acts : (old new : Base F) (b : rust.Books) (lane : ℕ) (outcome : Outcome) (runs : Option View → Books → Type 0) → b.claims ≡ old.books.claims → b.history ≡ old.books.history → next_of (books_of b) ≡ next_of (books_of old.books) → Spared lane lane (books_of old.books) (books_of b) → Keeps lane (books_of old.books) (books_of b)
      → Acts view clock spare was lane lane outcome runs (record old { books = b }) new → Acts view clock spare was lane lane outcome runs old new
  take_acts old new b lane outcome runs same history next spared keeps acts = record {
    sound = acts.sound;
    does = λ v told. let d = acts.does v told in
        (d.0, d.1, record { writes = weaker (Guarantee (books_of b) v lane lane) (Guarantee (books_of old.books) v lane lane) v d.0 (may_less (books_of old.books) (books_of b) v lane lane spared keeps (ap (λ l. l.items) same) next) d.2.writes; books = spared_then lane lane (books_of old.books) (books_of b) (books_of new.books) spared d.2.books; claims = λ c has. ⊎_elim (λ was. inl (subst (λ l. Contains l.items c) same was)) (λ none. inr none) (d.2.claims c has); listed = λ x other held. d.2.listed x other (spared.sysroot x other held) ∙ keeps.listed });
    books = spared_then lane lane (books_of old.books) (books_of b) (books_of new.books) spared acts.books;
    past = λ t le. acts.past t le ∙ ap (λ h. acked t h.items) history;
    tells = acts.tells;
  }

  -- Behind the step the lane is no more among those that store.
  module _ (old new : Base F) (left : rust.Books) (lane : ℕ) (kept : (x : Share) → x.lane ≢ lane → Contains new.books.shared.items x → Contains left.shared.items x) (fewer : NoNewShares new.books left) where
    abbrev left_base : Base F
    left_base = record new { books = record new.books { shared = left.shared } }

    left_ordered : Ordered clock spare new → Ordered clock spare left_base
    left_ordered ord = record { agrees = left_agrees new.books left lane kept fewer ord.agrees; owner = ord.owner; ascends = ord.ascends; idle = ord.idle; room = ord.room; entry = ord.entry; counted = ord.counted }

    left_runs : (t : T) → Runs kind facts lane t (view new.fs) (books_of new.books) → Runs kind facts lane t (view new.fs) (books_of left_base.books)
    left_runs t runs = record {
      facts = λ v told. laws.gains lane t v (books_of new.books) (books_of left_base.books) (left_keeps new.books left lane kept fewer) (refl, refl) (runs.facts v told);
      holds = holds_on (kind t) lane (books_of new.books) left.shared.items runs.holds;
    }

    left_tells : (outcome : Outcome) (t : T) → Tells view (Runs kind facts lane t) outcome new → Tells view (Runs kind facts lane t) outcome left_base
    left_tells came.Blocked t runs = left_runs t runs
    left_tells came.More t runs = left_runs t runs
    left_tells came.Done t runs = tt
    left_tells (came.Refused e) t runs = tt
    left_tells (came.Halted why) t halted = halted

    left_spares : Spared lane lane (books_of old.books) (books_of new.books) → Spared lane lane (books_of old.books) (books_of left_base.books)
    left_spares spared = spared_then lane lane (books_of old.books) (books_of new.books) (books_of left_base.books) spared (left_spared new.books left lane kept fewer)

    left_acts : (outcome : Outcome) (t : T) → Acts view clock spare was lane lane outcome (Runs kind facts lane t) old new → Acts view clock spare was lane lane outcome (Runs kind facts lane t) old left_base
    left_acts outcome t acts = record {
      sound = record { ordered = left_ordered acts.sound.ordered; stands = acts.sound.stands; crash = acts.sound.crash; claims = acts.sound.claims; relists = acts.sound.relists };
      does = λ v told. let d = acts.does v told in (d.0, d.1, record { writes = d.2.writes; books = left_spares d.2.books; claims = d.2.claims; listed = d.2.listed });
      books = left_spares acts.books;
      past = acts.past;
      tells = left_tells outcome t acts.tells;
    }

    pub stopped_acts : (outcome : Outcome) (t : T) → left ≡ record new.books { shared = left.shared } → Acts view clock spare was lane lane outcome (Runs kind facts lane t) old new
        → Acts view clock spare was lane lane outcome (Runs kind facts lane t) old (record new { books = left })
    stopped_acts outcome t same acts = subst (λ (b : rust.Books). Acts view clock spare was lane lane outcome (Runs kind facts lane t) old (record new { books = b })) (sym same) (left_acts outcome t acts)
