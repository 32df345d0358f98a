-- What each crash leaves of the state.
use Rattle.std.proofs.Common.{◌≡◌, ◌≢◌, ◌⊎◌, inl, inr, ⊎_elim, ◌≤◌, ℕ, Bool, true, false, refl, sym, ◌∙◌, ap, subst, arith, List, [], ◌∷◌, ◌++◌, length, append-nil, length-append, Option, Some, None}
use Rattle.ost_types.specs.Path.{Path, IsPath, is_below, under}
use Rattle.ost_types.proofs.Paths.{is_below-under, root_or_under}
use Rattle.fs_trait.specs.declared.types.Value.{Value}
use Rattle.fs_trait.specs.declared.types.Value.TheVariants.{Absent, Folder, Link, File}
use Rattle.fs_trait.specs.View.{Disk, View}
use Rattle.fs_trait.specs.Image.{Image}
use Rattle.fs_trait.specs.Seen.{Seen, Vacant, seen, shows, MayBe}
use Rattle.fs_trait.proofs.Claims.{claim_each, firm_each, reads_shows}
use Rattle.fs_trait.proofs.Facts.{vacant_absent}
use Rattle.repo_layout.specs.Paths.{heads, ref_path, stage_path}
use Rattle.repo_layout.specs.Refs.{is_leaf, Names, ShowsCommit}
use Rattle.layout_rules.specs.Checks.{IsRefAt, IsSane, Kinds, RefFiles, Staging}
use Rattle.layout_rules.specs.InLayout.{IsBounded, IsSearched, IsSuited}
use Rattle.layout_rules.proofs.Layouts.{below_heads}
use Rattle.layout_rules.proofs.Suiting.{from_seen, vacant_suits}
use Rattle.rely_guarantee.specs.declared.books.Entry.{Entry}
use Rattle.rely_guarantee.specs.declared.books.Pending.{Pending}
use Rattle.rely_guarantee.specs.declared.event.Event.{Event}
use Rattle.rely_guarantee.specs.State.{Topic, RefOf, Said, State, is_topic, target, gives, after, IsNamed, events_of, stored, acked, SystemState, next_refs}
use Rattle.rely_guarantee.specs.Disks.{path_of, IsLeaf, Says, Logical, HasRef, IsOther}
use Rattle.rely_guarantee.specs.SystemInvariant.{PublishedBy, Published, Known, NoStray, Stands, Fits}
use Rattle.rely_guarantee.proofs.States.{topic_is, topic_none, next_here, next_apart, after_push, run_front, after_named, length-events, acked_few, says_vacant}

no_root : (t : Topic) → path_of t ≡ [] → ⊥
unfolding ref_path
no_root (RefOf name) e = cc

-- what each image shows at a path of the state, the folders above it included
pub known_at : (shown : Topic → Seen → Type 0) (value : State) (v : View) → Known shown value v → (d : Disk) → Image v d → (t : Topic)
    → Says t (value t) (shows d (path_of t)) ⊎ shown t (shows d (path_of t))
known_at shown value v known d i t = by (root_or_under (path_of t))
  where
    S : Seen → Type 0
    S s = Says t (value t) s ⊎ shown t s

    by : (path_of t ≡ []) ⊎ ((f : Path) × (x : List ℕ) × (path_of t ≡ under f x)) → S (shows d (path_of t))
    by (inl e) = absurd (no_root t e)
    by (inr w) = subst (λ q. S (shows d q)) (sym w.2) (claim_each S v w.0 w.1 (λ s may. known.each t s (subst (λ q. MayBe v q s) (sym w.2) may))
        (⊎_elim (λ none. inl (inl (subst (λ y. Says t y Vacant) (sym none) (says_vacant t)))) (λ leads. inr leads) (known.leads t w.0 w.1 w.2)) d i)

-- a leaf is shown
pub leaf_seen : (d : Disk) (z : Value) → is_leaf z ≡ true → IsLeaf (seen d z)
leaf_seen d Absent e = let n : false ≡ true = e in cc
leaf_seen d (Folder m) e = let n : false ≡ true = e in cc
leaf_seen d (Link m t) e = tt
leaf_seen d (File n) e = tt

seen_leaf : (d : Disk) (z : Value) → (IsLeaf (seen d z) → ⊥) → is_leaf z ≡ false
seen_leaf d Absent none = refl
seen_leaf d (Folder m) none = refl
seen_leaf d (Link m t) none = absurd (none tt)
seen_leaf d (File n) none = absurd (none tt)

-- the refs of a disk that has a state
pub has_ref : (d : Disk) (name : List ℕ) (said : Said) → Says (RefOf name) said (shows d (ref_path name)) → HasRef d name said
has_ref d name None says = seen_leaf d (d.at (ref_path name)) says
has_ref d name (Some commit) says = record { sum = says.0; file = reads_shows d (ref_path name) ∙ says.1 }

-- a disk of this state is sane
module _ (start : SystemState) (entries : List Entry) (pending : Option Pending) (v : View) (stands : Stands start entries pending v) (d : Disk) (i : Image v d) (state : State) (named : IsNamed state) (logical : Logical d state) where
  ref_at : (p : Path) (name : List ℕ) → p ≡ ref_path name → is_leaf (d.at p) ≡ true → (said : Said) → state (RefOf name) ≡ said → IsRefAt d p
  ref_at p name e leaf None is =
      let none : is_leaf (d.at (ref_path name)) ≡ false = has_ref d name None (subst (λ y. Says (RefOf name) y (shows d (ref_path name))) is (logical (RefOf name))) in
      absurd (let z : true ≡ false = sym leaf ∙ ap (λ q. is_leaf (d.at q)) e ∙ none in cc)
  ref_at p name e leaf (Some commit) is =
      let names : Names d name commit = has_ref d name (Some commit) (subst (λ y. Says (RefOf name) y (shows d (ref_path name))) is (logical (RefOf name))) in
      (name, named name commit is, sym e, (commit, subst (λ q. ShowsCommit d q commit) (sym e) names))

  ref_leaf : (p : Path) → is_below heads p ≡ true → is_leaf (d.at p) ≡ true → IsRefAt d p
  ref_leaf p below leaf = ⊎_elim
      (λ other. absurd (firm_each NoStray v stands.strays p (λ b o bad. bad) d i below (subst IsOther (sym other) tt) (leaf_seen d (d.at p) leaf)))
      (λ ref. ref_at p ref.0 ref.2 leaf (state (RefOf ref.0)) refl)
      (below_heads p below)

  bounded : (p : Path) → IsSearched p → d.at p ≢ Absent → IsPath p
  bounded p searched there = firm_each IsBounded v stands.reached p (λ s none. absurd (none refl)) d i searched (λ none. there (vacant_absent d p none))

  sane : IsSane d
  sane Kinds p = λ rule is. from_seen rule d (d.at p) (firm_each IsSuited v stands.kinds p (λ r w. vacant_suits r) d i rule is)
  sane RefFiles p = λ below. record { leaf = ref_leaf p below; reached = λ x. bounded (under p x) (inl (is_below-under heads p x below)) }
  sane Staging p = λ actor small below x. bounded (under p x) (inr (actor, small, is_below-under (stage_path actor) p x below))

few : (t : ℕ) (entries : List Entry) → acked t entries ≤ length (events_of entries)
few t entries = omega (arith, acked_few t entries, length-events entries)

-- While a change is published, a disk is before it or after it.
published_fits : (start : SystemState) (entries : List Entry) (p : Pending) (v : View) → Stands start entries (Some p) v → (t : ℕ) (d : Disk) → Image v d → Fits start entries (events_of entries ++ p.event ∷ []) t d
published_fits start entries p v stands t d i = by (target p.event) refl
  where
    events : List Event
    events = events_of entries

    value : State
    value = (after events start).refs

    known : (q : Topic) → Says q (value q) (shows d (path_of q)) ⊎ PublishedBy p.event q (shows d (path_of q))
    known q = known_at (Published (Some p)) value v stands.known d i q

    named : IsNamed value
    named = after_named events start (run_front events (p.event ∷ []) start stands.run) stands.named

    both : IsNamed (after (events ++ p.event ∷ []) start).refs
    both = after_named (events ++ p.event ∷ []) start stands.run stands.named

    old : ((q : Topic) → target p.event ≡ Some q → Says q (value q) (shows d (path_of q))) → Fits start entries (events ++ p.event ∷ []) t d
    old is =
        let logical : Logical d value = λ q. ⊎_elim (λ k. k) (λ s. is q s.0) (known q) in
        record { past = events; rest = p.event ∷ []; split = refl; has_acked = few t entries; shows = logical; sane = sane start entries (Some p) v stands d i value named logical }

    new : ((q : Topic) → target p.event ≡ Some q → Says q (gives p.event) (shows d (path_of q))) → Fits start entries (events ++ p.event ∷ []) t d
    new is = record {
      past = events ++ p.event ∷ [];
      rest = [];
      split = append-nil (events ++ p.event ∷ []);
      has_acked = omega (arith, few t entries, length-append events (p.event ∷ []));
      shows = logical;
      sane = sane start entries (Some p) v stands d i (after (events ++ p.event ∷ []) start).refs both logical;
    }
      where
        at : (q : Topic) (b : Bool) → is_topic (target p.event) q ≡ b → Says q (next_refs p.event value q) (shows d (path_of q))
        at q true same = subst (λ y. Says q y (shows d (path_of q))) (sym (next_here p.event q value same)) (is q (topic_is (target p.event) q same))
        at q false other =
            subst (λ y. Says q y (shows d (path_of q))) (sym (next_apart p.event q value other)) (⊎_elim (λ k. k) (λ s. absurd (topic_none (target p.event) q other s.0)) (known q))

        logical : Logical d (after (events ++ p.event ∷ []) start).refs
        logical q = subst (λ (f : SystemState). Says q (f.refs q) (shows d (path_of q))) (sym (after_push events p.event start)) (at q (is_topic (target p.event) q) refl)

    by : (o : Option Topic) → target p.event ≡ o → Fits start entries (events ++ p.event ∷ []) t d
    by None e = old (λ q is. absurd (let z : None ≡ Some q = sym e ∙ is in cc))
    by (Some x) e = ⊎_elim
        (λ k. old (λ q is. subst (λ r. Says r (value r) (shows d (path_of r))) (one q is) k))
        (λ s. new (λ q is. subst (λ r. Says r (gives p.event) (shows d (path_of r))) (one q is) s.1))
        (known x)
      where
        one : (q : Topic) → target p.event ≡ Some q → x ≡ q
        one q is = let z : Some x ≡ Some q = sym e ∙ is in cc

-- what a crash leaves now
pub fits_now : (start : SystemState) (entries : List Entry) (pending : Option Pending) (v : View) → Stands start entries pending v → (t : ℕ) (d : Disk) → Image v d → Fits start entries (stored entries pending) t d
fits_now start entries (Some p) v stands t d i = published_fits start entries p v stands t d i
fits_now start entries None v stands t d i =
    let events = events_of entries in
    let logical : Logical d (after events start).refs = λ q. ⊎_elim (λ k. k) (λ bad. absurd bad) (known_at (Published None) (after events start).refs v stands.known d i q) in
    record {
      past = events;
      rest = [];
      split = refl;
      has_acked = few t entries;
      shows = logical;
      sane = sane start entries None v stands d i (after events start).refs (after_named events start (run_front events [] start stands.run) stands.named) logical;
    }

-- and where nothing is pending, what there is at all
pub fits_all : (start : SystemState) (entries : List Entry) (v : View) → Stands start entries None v → (d : Disk) → Image v d → IsSane d × Logical d (after (events_of entries) start).refs
fits_all start entries v stands d i =
    let events = events_of entries in
    let logical : Logical d (after events start).refs = λ q. ⊎_elim (λ k. k) (λ bad. absurd bad) (known_at (Published None) (after events start).refs v stands.known d i q) in
    (sane start entries None v stands d i (after events start).refs (after_named events start (run_front events [] start stands.run) stands.named) logical, logical)
