-- How what is known of the state goes on: the kinds of change.
use Rattle.std.proofs.Common.{◌≡◌, ◌⊎◌, inl, inr, ⊎_elim, ℕ, Bool, true, false, refl, sym, ◌∙◌, ap, subst, List, [], ◌∷◌, ◌++◌, append-nil, Option, Some, None}
use Rattle.ost_types.specs.Path.{Path, under, is_below}
use Rattle.ost_types.proofs.Paths.{is_below-under}
use Rattle.fs_trait.specs.View.{View}
use Rattle.fs_trait.specs.Seen.{Seen, shows, MayBe}
use Rattle.fs_trait.specs.Change.{Writes, Nothing, Harmless, LeadsTo}
use Rattle.fs_trait.proofs.Effects.{may_now}
use Rattle.fs_trait.proofs.Kept.{firm_kept}
use Rattle.repo_layout.specs.Paths.{folder_path, ref_path}
use Rattle.boot_model.specs.declared.item.DepId.{DepId}
use Rattle.rely_guarantee.specs.declared.books.Entry.{Entry}
use Rattle.rely_guarantee.specs.declared.books.Pending.{Pending}
use Rattle.rely_guarantee.specs.declared.event.Event.{Event}
use Rattle.rely_guarantee.specs.State.{Topic, RefOf, Said, State, is_topic, target, before, gives, next, after, IsRun, events_of, SystemState, next_refs}
use Rattle.rely_guarantee.specs.Disks.{path_of, IsLeaf, Logical, Says}
use Rattle.rely_guarantee.specs.Books.{Books}
use Rattle.rely_guarantee.specs.Rely.{Guarantee}
use Rattle.rely_guarantee.specs.SystemInvariant.{Published, Leads, NoStray, Known, Stands}
use Rattle.rely_guarantee.specs.Change.{Still, Away, Shows, Final}
use Rattle.rely_guarantee.specs.Laws.{Within, NotPending}
use Rattle.rely_guarantee.proofs.States.{topic_is, topic_none, next_here, next_apart, after_push, events_push, run_push, says_leaf, says_one}
use Rattle.layout_rules.specs.InLayout.{IsBounded, IsSuited}
use Rattle.layout_rules.proofs.Layouts.{above_ref}
use Rattle.rely_guarantee.proofs.Mays.{not_other, ref_turn, leads_stay, folders_harmless, kinds_harmless, reached_harmless, strays_harmless}

-- what has a value shows it now, where nothing is shown
leaf_now : (value : State) (v : View) → Known (Published None) value v → (name commit : List ℕ) → value (RefOf name) ≡ Some commit → IsLeaf (shows v.now (ref_path name))
leaf_now value v known name commit is =
    says_leaf name commit _ (⊎_elim (λ k. subst (λ y. Says (RefOf name) y (shows v.now (ref_path name))) is k) (λ bad. absurd bad) (known.each (RefOf name) _ (may_now v (ref_path name))))

-- what nothing says has no value
none_here : (value : State) (v : View) → Known (Published None) value v → (t : Topic) → Says t None (shows v.now (path_of t)) → value t ≡ None
none_here value v known t none = ⊎_elim (λ k. says_one t (value t) None _ k none) (λ bad. absurd bad) (known.each t _ (may_now v (path_of t)))

module _ (W : Path → Seen → Type 0) (v w : View) (writes : Writes W v w) where
  -- folders that nothing harms
  leads_on : (f : Path) → Harmless W (LeadsTo f) → Leads v f → Leads w f
  leads_on f harmless leads = firm_kept W (LeadsTo f) v w writes harmless leads

  -- the folders above what has a value, where a writer within Guarantee that isn't held off finds each value there now
  pub leads_within : (b : Books) (actor lane : ℕ) (value : State) → Within W (Guarantee b v actor lane) → Known (Published None) value v → (t : Topic) (f : Path) (x : List ℕ) → path_of t ≡ under f x → (value t ≡ None) ⊎ Leads w f
  leads_within b actor lane value within known (RefOf name) f x e = ⊎_elim (λ none. inl none) (λ leads. by (value (RefOf name)) refl leads) (known.leads (RefOf name) f x e)
    where
      by : (said : Said) → value (RefOf name) ≡ said → Leads v f → (value (RefOf name) ≡ None) ⊎ Leads w f
      by None is leads = inl is
      by (Some commit) is leads = inr (leads_on f (λ p s wrote. leads_stay b v actor lane name f x e (leaf_now value v known name commit is) leads p s (within p s wrote)) leads)

  -- or where no path of the state is written at all
  leads_away : (b : Books) (actor lane : ℕ) (shown : Topic → Seen → Type 0) (value : State) → Within W (Guarantee b v actor lane) → Away W → Known shown value v → (t : Topic) (f : Path) (x : List ℕ) → path_of t ≡ under f x → (value t ≡ None) ⊎ Leads w f
  leads_away b actor lane shown value within away known (RefOf name) f x e = ⊎_elim (λ none. inl none)
      (λ leads. inr (leads_on f (λ p s wrote below. absurd (⊎_elim
      (λ o. not_other b v actor lane p s o (within p s wrote))
      (λ r. away (RefOf r.0) s (subst (λ q. W q s) r.2 wrote))
      (above_ref name p (subst (λ q. is_below p q ≡ true) (sym e) (is_below-under p f x below))))) leads))
      (known.leads (RefOf name) f x e)

  pub known_away : (b : Books) (actor lane : ℕ) (shown : Topic → Seen → Type 0) (value : State) → Within W (Guarantee b v actor lane) → Away W → Known shown value v → Known shown value w
  known_away b actor lane shown value within away known = record {
    each = λ t s may. ⊎_elim (known.each t s) (λ wrote. absurd (away t s wrote)) (writes.only (path_of t) s may);
    leads = leads_away b actor lane shown value within away known;
  }

  known_still : (b : Books) (actor lane : ℕ) (value : State) → Within W (Guarantee b v actor lane) → Still W v → Known (Published None) value v → Known (Published None) value w
  known_still b actor lane value within still known = record {
    each = λ t s may. ⊎_elim (known.each t s)
        (λ wrote. let k = still t s wrote in inl (subst (λ y. Says t y s) (sym (none_here value v known t k.1)) k.0))
        (writes.only (path_of t) s may);
    leads = leads_within b actor lane value within known;
  }

  -- who writes a path of the state holds the ref lock, so another's change isn't pending
  still_away : (b : Books) (actor lane : ℕ) (p : Pending) → b.pending ≡ Some p → b.turn ≡ Some p.lane → NotPending lane b → Within W (Guarantee b v actor lane) → Away W
  still_away b actor lane p is turn not within (RefOf name) s wrote = not p is (ref_turn b v actor lane name s (within (ref_path name) s wrote) p.lane turn)

  -- a step that changes nothing that the state speaks of
  pub known_quiet : (b : Books) (actor lane : ℕ) (value : State) → Within W (Guarantee b v actor lane) → Still W v → ((p : Pending) → b.pending ≡ Some p → b.turn ≡ Some p.lane) → NotPending lane b
      → Known (Published b.pending) value v → Known (Published b.pending) value w
  known_quiet b actor lane value within still owner not known = by b.pending refl
    where
      by : (o : Option Pending) → b.pending ≡ o → Known (Published b.pending) value w
      by None is = subst (λ (o : Option Pending). Known (Published o) value w) (sym is) (known_still b actor lane value within still (subst (λ (o : Option Pending). Known (Published o) value v) is known))
      by (Some p) is = known_away b actor lane (Published b.pending) value within (still_away b actor lane p is (owner p is) not within) known

  -- the one that publishes a change
  pub known_publish : (list : List DepId) (b : Books) (actor lane : ℕ) (value : State) (p : Pending) → Within W (Guarantee b v actor lane) → Shows list W v p.event → Known (Published None) value v → Known (Published (Some p)) value w
  known_publish list b actor lane value p within change known = record {
    each = λ t s may. ⊎_elim
        (λ was. ⊎_elim (λ k. inl k) (λ bad. absurd bad) (known.each t s was))
        (λ wrote. inr (change.writes t s wrote))
        (writes.only (path_of t) s may);
    leads = leads_within b actor lane value within known;
  }

  -- what is so of every view
  pub folders_kept : (b : Books) (actor lane : ℕ) → Within W (Guarantee b v actor lane) → ((f : _) → Leads v (folder_path f)) → (f : _) → Leads w (folder_path f)
  folders_kept b actor lane within was f = leads_on (folder_path f) (λ p s wrote. folders_harmless b v actor lane f p s (within p s wrote)) (was f)

  pub strays_kept : (b : Books) (actor lane : ℕ) → Within W (Guarantee b v actor lane) → ((p : Path) (s : Seen) → MayBe v p s → NoStray p s) → (p : Path) (s : Seen) → MayBe w p s → NoStray p s
  strays_kept b actor lane within was = firm_kept W NoStray v w writes (λ p s wrote. strays_harmless b v actor lane p s (within p s wrote)) was

  pub kinds_kept : (b : Books) (actor lane : ℕ) → Within W (Guarantee b v actor lane) → ((p : Path) (s : Seen) → MayBe v p s → IsSuited p s) → (p : Path) (s : Seen) → MayBe w p s → IsSuited p s
  kinds_kept b actor lane within was = firm_kept W IsSuited v w writes (λ p s wrote. kinds_harmless b v actor lane p s (within p s wrote)) was

  pub reached_kept : (b : Books) (actor lane : ℕ) → Within W (Guarantee b v actor lane) → ((p : Path) (s : Seen) → MayBe v p s → IsBounded p s) → (p : Path) (s : Seen) → MayBe w p s → IsBounded p s
  reached_kept b actor lane within was = firm_kept W IsBounded v w writes (λ p s wrote. reached_harmless b v actor lane p s (within p s wrote)) was

-- the sync that makes it durable
pub known_make_durable : (value : State) (v w : View) (p : Pending) → Writes Nothing v w → Final p.event w → Known (Published (Some p)) value v → Known (Published None) (next_refs p.event value) w
known_make_durable value v w p writes final known = record {
  each = λ t s may. inl (each t s may (is_topic (target p.event) t) refl);
  leads = λ t f x e. leads t f x e (is_topic (target p.event) t) refl;
}
  where
    was : (q : Path) (s : Seen) → MayBe w q s → MayBe v q s
    was q s may = ⊎_elim (λ m. m) (λ bad. absurd bad) (writes.only q s may)

    each : (t : Topic) (s : Seen) → MayBe w (path_of t) s → (b : Bool) → is_topic (target p.event) t ≡ b → Says t (next_refs p.event value t) s
    each t s may true same = subst (λ y. Says t y s) (sym (next_here p.event t value same)) (final.only t (topic_is (target p.event) t same) s may)
    each t s may false other =
        subst (λ y. Says t y s) (sym (next_apart p.event t value other)) (⊎_elim (λ k. k) (λ k. absurd (topic_none (target p.event) t other k.0)) (known.each t s (was (path_of t) s may)))

    given : (t : Topic) → target p.event ≡ Some t → (said : Said) → gives p.event ≡ said → (f : Path) (x : List ℕ) → path_of t ≡ under f x → (said ≡ None) ⊎ Leads w f
    given t at None is f x e = inl refl
    given t at (Some commit) is f x e = inr (final.leads t commit at is f x e)

    leads : (t : Topic) (f : Path) (x : List ℕ) → path_of t ≡ under f x → (b : Bool) → is_topic (target p.event) t ≡ b → (next_refs p.event value t ≡ None) ⊎ Leads w f
    leads t f x e true same = ⊎_elim (λ none. inl (next_here p.event t value same ∙ none)) (λ l. inr l) (given t (topic_is (target p.event) t same) (gives p.event) refl f x e)
    leads t f x e false other = ⊎_elim
        (λ none. inl (next_apart p.event t value other ∙ none))
        (λ l. inr (λ q s may. l q s (was q s may)))
        (known.leads t f x e)

-- All of it, for each kind of change.
pub stands_quiet : (start : SystemState) (entries : List Entry) (b : Books) (actor lane : ℕ) (W : Path → Seen → Type 0) (v w : View) → Writes W v w → Within W (Guarantee b v actor lane) → Still W v
    → ((p : Pending) → b.pending ≡ Some p → b.turn ≡ Some p.lane) → NotPending lane b → Stands start entries b.pending v → Stands start entries b.pending w
stands_quiet start entries b actor lane W v w writes within still owner not was = record {
  named = was.named;
  run = was.run;
  known = known_quiet W v w writes b actor lane (after (events_of entries) start).refs within still owner not was.known;
  folders = folders_kept W v w writes b actor lane within was.folders;
  strays = strays_kept W v w writes b actor lane within was.strays;
  kinds = kinds_kept W v w writes b actor lane within was.kinds;
  reached = reached_kept W v w writes b actor lane within was.reached;
}

pub stands_away : (start : SystemState) (entries : List Entry) (b : Books) (actor lane : ℕ) (W : Path → Seen → Type 0) (v w : View) → Writes W v w → Within W (Guarantee b v actor lane) → Away W
    → Stands start entries b.pending v → Stands start entries b.pending w
stands_away start entries b actor lane W v w writes within away was = record {
  named = was.named;
  run = was.run;
  known = known_away W v w writes b actor lane (Published b.pending) (after (events_of entries) start).refs within away was.known;
  folders = folders_kept W v w writes b actor lane within was.folders;
  strays = strays_kept W v w writes b actor lane within was.strays;
  kinds = kinds_kept W v w writes b actor lane within was.kinds;
  reached = reached_kept W v w writes b actor lane within was.reached;
}

pub stands_publish : (start : SystemState) (entries : List Entry) (b : Books) (actor lane : ℕ) (p : Pending) (W : Path → Seen → Type 0) (v w : View) → Writes W v w → Within W (Guarantee b v actor lane) → Shows (after (events_of entries) start).deployments W v p.event
    → Stands start entries None v → Stands start entries (Some p) w
stands_publish start entries b actor lane p W v w writes within change was = record {
  named = was.named;
  run = run_push (events_of entries) p.event start (subst (λ (l : List Event). IsRun l start) (append-nil (events_of entries)) was.run) (record { valid = change.valid; was = seen_now; roots = change.roots value shown_now refl; list = change.list });
  known = known_publish W v w writes value.deployments b actor lane (after (events_of entries) start).refs p within change was.known;
  folders = folders_kept W v w writes b actor lane within was.folders;
  strays = strays_kept W v w writes b actor lane within was.strays;
  kinds = kinds_kept W v w writes b actor lane within was.kinds;
  reached = reached_kept W v w writes b actor lane within was.reached;
}
  where
    value : SystemState
    value = after (events_of entries) start

    shown_now : Logical v.now value.refs
    shown_now t = ⊎_elim (λ k. k) (λ bad. absurd bad) (was.known.each t _ (may_now v (path_of t)))

    seen_now : (t : Topic) → target p.event ≡ Some t → value.refs t ≡ before p.event
    seen_now t at = says_one t (value.refs t) (before p.event) _ (shown_now t) (change.was t at)

pub stands_make_durable : (start : SystemState) (entries : List Entry) (p : Pending) (e : Entry) (v w : View) → e.event ≡ p.event → Writes Nothing v w → Final p.event w
    → Stands start entries (Some p) v → Stands start (entries ++ e ∷ []) None w
stands_make_durable start entries p e v w same writes final was = record {
  named = was.named;
  run = subst (λ (l : List Event). IsRun l start) (sym (append-nil (events_of (entries ++ e ∷ [])) ∙ pushed)) was.run;
  known = subst (λ (s : SystemState). Known (Published None) s.refs w) (sym state) (known_make_durable (after (events_of entries) start).refs v w p writes final was.known);
  folders = λ f q s may. was.folders f q s (kept q s may);
  strays = λ q s may. was.strays q s (kept q s may);
  kinds = λ q s may. was.kinds q s (kept q s may);
  reached = λ q s may. was.reached q s (kept q s may);
}
  where
    pushed : events_of (entries ++ e ∷ []) ≡ events_of entries ++ p.event ∷ []
    pushed = events_push entries e ∙ ap (λ (x : Event). events_of entries ++ x ∷ []) same

    state : after (events_of (entries ++ e ∷ [])) start ≡ next p.event (after (events_of entries) start)
    state = ap (λ (l : List Event). after l start) pushed ∙ after_push (events_of entries) p.event start

    kept : (q : Path) (s : Seen) → MayBe w q s → MayBe v q s
    kept q s may = ⊎_elim (λ m. m) (λ bad. absurd bad) (writes.only q s may)
