-- What is kept stays kept, and what is settled stays so, over a removal's own steps and over the acts of others.
use Rattle.std.proofs.Common.{◌≡◌, ◌≢◌, ◌⊎◌, inl, inr, ⊎_elim, ℕ, List, Contains, Some, None, arith, refl, sym, ◌∙◌, subst}
use Rattle.ost_types.specs.declared.object.Kind.TheVariants.{Commit}
use Rattle.ost_types.specs.declared.object.ObjName.{ObjName}
use Rattle.ost_types.specs.Path.{Path}
use Rattle.fs_trait.specs.View.{View, all_synced}
use Rattle.fs_trait.specs.Seen.{Seen, Vacant, shows, MayBe}
use Rattle.fs_trait.specs.Change.{Writes}
use Rattle.fs_trait.proofs.Effects.{all_synced-firm}
use Rattle.repo_layout.specs.Paths.{ref_path}
use Rattle.repo_layout.specs.Place.{Object, Ref}
use Rattle.repo_layout.specs.RefFile.{IsSum}
use Rattle.repo_layout.proofs.Places.{place-object, place-ref}
use Rattle.repo_model.specs.Objects.{Stores, path_of}
use Rattle.repo_model.specs.Trees.{name_of}
use Rattle.repo_model.proofs.Named.{IsSum-named}
use Rattle.repo_model.proofs.Stored.{stores_same}
use Rattle.obj_store.proofs.PlaceLemmas.{one_name}
use Rattle.reach.specs.Lines.{Reachable}
use Rattle.reach.specs.Marking.{AreDoomed}
use Rattle.reach.specs.Reach.{ObjNames, onward, start}
use Rattle.reach.proofs.Reaching.{reach_least, refers_in, refers_where}
use Rattle.rely_guarantee.specs.declared.books.Pin.{Pin}
use Rattle.rely_guarantee.specs.Books.{Books, Free, Spared, listed_in}
use Rattle.rely_guarantee.specs.Disks.{Says, path_of as topic_path}
use Rattle.rely_guarantee.specs.Rely.{Guarantee}
use Rattle.rely_guarantee.specs.Removing.{IsGuarded, IsRoot}
use Rattle.rely_guarantee.specs.State.{RefOf, Said, Topic, commits_of, IsDeployedCommit}
use Rattle.rely_guarantee.proofs.Lasting.{no_vacant_leaf}
use Rattle.rely_guarantee.proofs.Mays.{at_place}
use Rattle.rely_guarantee.proofs.Removing.{object_as}
use Rattle.rely_guarantee.proofs.States.{says_leaf}
use Rattle.durable_store.specs.Removals.{AreKept, Except, IsRemoval, IsSettled}
use Rattle.durable_store.specs.Standing.{IsNeverThere}
use Rattle.durable_store.proofs.Apart.{mark_object, vacant_or}
use Rattle.durable_store.proofs.Removing.{as_before, mark_same, object_same}
use Rattle.durable_store.proofs.Vacating.{stored_there}

-- What isn't reachable is removed: the rest is kept.
pub kept_begins : (doomed roots : List ObjName) (depth : ℕ) (b : Books) (v : View) (lane : ℕ) → ((o : ObjName) → IsRoot b v lane o → Contains roots o)
    → AreDoomed (Stores v.now) (Reachable (Stores v.now) (Contains roots) depth) (Contains doomed) → AreKept (Except doomed) b v lane
kept_begins doomed roots depth b v lane all are = record {
  roots = λ o root has. (are.each o has).1 (start o (inl (all o root)));
  closed = λ o next kept refers has. ⊎_elim
      (λ reached. (are.each next has).1 (onward o next reached refers))
      kept
      (are.all o (refers_in (Stores v.now) o next refers));
}

pub kept_guarded : (keep : ObjNames) (b : Books) (v : View) (lane : ℕ) → AreKept keep b v lane → (o : ObjName) → IsGuarded b v lane o → keep o
kept_guarded keep b v lane kept = reach_least (Stores v.now) (IsRoot b v lane) keep kept.roots kept.closed

-- Where no object comes, no ref changes and nothing is pinned.
module _ (keep : ObjNames) (b b' : Books) (v w : View) (lane : ℕ) (same : listed_in b' ≡ listed_in b)
    (pins : (p : Pin) → p.lane ≢ lane → Contains b'.pins p → Contains b.pins p)
    (refs : (name commit : List ℕ) (s : Seen) → MayBe w (ref_path name) s → Says (RefOf name) (Some commit) s → MayBe v (ref_path name) s)
    (fewer : (o : ObjName) (c : List ℕ) → Stores w.now o c → Stores v.now o c) where
  named_before : (t : Topic) (value : Said) (s : Seen) (commit : List ℕ) → Contains (commits_of value) commit → Says t value s → MayBe w (topic_path t) s → MayBe v (topic_path t) s
  named_before (RefOf name) (Some c) s commit among says may = refs name c s may says
  named_before (RefOf name) None s commit among says may = absurd (omega (arith, among.1))

  root_before : (o : ObjName) → IsRoot b' w lane o → IsRoot b v lane o
  root_before o (inl pin) = inl (pin.0, pins pin.0 pin.2 pin.1, pin.2, pin.3)
  root_before o (inr (inl (t, value, s, may, says, commit, among, is))) = inr (inl (t, value, s, named_before t value s commit among says may, says, commit, among, is))
  root_before o (inr (inr listed)) = inr (inr (subst (λ ids. IsDeployedCommit ids o) same listed))

  kept_on : AreKept keep b v lane → AreKept keep b' w lane
  kept_on kept = record {
    roots = λ o root. kept.roots o (root_before o root);
    closed = λ o next is refers. kept.closed o next is (refers_where (Stores w.now) (Stores v.now) o next (fewer o) refers);
  }

-- ---- over its own steps

-- nothing that stands there comes
removal_there : (keep : ObjNames) (v w : View) (W : Path → Seen → Type 0) → Writes W v w → IsRemoval keep v W → (p : Path) (s : Seen) → MayBe w p s → s ≢ Vacant → MayBe v p s
removal_there keep v w W writes removal p s may some = ⊎_elim (λ was. was) (λ wrote. absurd (some (vacant removal wrote))) (writes.only p s may)
  where
    vacant : IsRemoval keep v W → W p s → s ≡ Vacant
    vacant (inl takes) wrote = (takes.vacates p s wrote).1
    vacant (inr (inl takes)) wrote = (takes.vacates p s wrote).1
    vacant (inr (inr none)) wrote = absurd (none p s wrote)

-- what stands now stood there
removal_now : (keep : ObjNames) (v w : View) (W : Path → Seen → Type 0) → Writes W v w → IsRemoval keep v W → (p : Path) → (shows w.now p ≡ shows v.now p) ⊎ (shows w.now p ≡ Vacant)
removal_now keep v w W writes removal p = ⊎_elim (λ same. inl same) (λ wrote. inr (vacant removal wrote)) (writes.now p)
  where
    vacant : IsRemoval keep v W → W p (shows w.now p) → shows w.now p ≡ Vacant
    vacant (inl takes) wrote = (takes.vacates p (shows w.now p) wrote).1
    vacant (inr (inl takes)) wrote = (takes.vacates p (shows w.now p) wrote).1
    vacant (inr (inr none)) wrote = absurd (none p (shows w.now p) wrote)

removal_fewer : (keep : ObjNames) (v w : View) (W : Path → Seen → Type 0) → Writes W v w → IsRemoval keep v W → (o : ObjName) (c : List ℕ) → Stores w.now o c → Stores v.now o c
removal_fewer keep v w W writes removal o c has = ⊎_elim
    (λ same. stores_same w.now v.now o c (sym same) has)
    (λ none. absurd (stored_there o.kind (shows w.now (path_of o)) c has.there none))
    (removal_now keep v w W writes removal (path_of o))

pub removal_kept : (keep : ObjNames) (b b' : Books) (actor lane : ℕ) (v w : View) (W : Path → Seen → Type 0) → Spared actor lane b b' → listed_in b' ≡ listed_in b → Writes W v w → IsRemoval keep v W → AreKept keep b v lane → AreKept keep b' w lane
removal_kept keep b b' actor lane v w W spared same writes removal = kept_on keep b b' v w lane same
    (λ p other has. ⊎_elim (λ was. was) (λ new. absurd (other new.0)) (spared.pinned p has))
    (λ name commit s may says. removal_there keep v w W writes removal (ref_path name) s may (no_vacant_leaf s (says_leaf name commit s says)))
    (removal_fewer keep v w W writes removal)

-- what is kept isn't written
removal_as : (keep : ObjNames) (v w : View) (W : Path → Seen → Type 0) → Writes W v w → IsRemoval keep v W → (o : ObjName) → IsSum o.csum → keep o → (s : Seen) → MayBe w (path_of o) s → MayBe v (path_of o) s
removal_as keep v w W writes (inl takes) o sum kept s may = object_same v w W writes keep takes o sum (λ e. takes.gone (subst keep e kept)) s may
removal_as keep v w W writes (inr (inl takes)) o sum kept s may = mark_same v w W writes takes o sum s may
removal_as keep v w W writes (inr (inr none)) o sum kept s may = as_before v w W writes none (path_of o) s may

removal_still : (keep : ObjNames) (v w : View) (W : Path → Seen → Type 0) → Writes W v w → IsRemoval keep v W → (o : ObjName) → IsSum o.csum → keep o → shows w.now (path_of o) ≡ shows v.now (path_of o)
removal_still keep v w W writes (inl takes) o sum kept =
    ⊎_elim (λ same. same) (λ wrote. absurd (takes.gone (subst keep (one_name o takes.name sum takes.sum (takes.vacates (path_of o) (shows w.now (path_of o)) wrote).0) kept))) (writes.now (path_of o))
removal_still keep v w W writes (inr (inl takes)) o sum kept =
    ⊎_elim (λ same. same) (λ wrote. absurd (mark_object takes.commit o takes.sum sum (sym (takes.vacates (path_of o) (shows w.now (path_of o)) wrote).0))) (writes.now (path_of o))
removal_still keep v w W writes (inr (inr none)) o sum kept = ⊎_elim (λ same. same) (λ wrote. absurd (none (path_of o) (shows w.now (path_of o)) wrote)) (writes.now (path_of o))

-- Where what is kept stays, and nothing else comes.
settled_by : (keep : ObjNames) (v w : View)
    → ((commit : List ℕ) → IsSum commit → (s : Seen) → MayBe w (path_of (name_of Commit commit)) s → s ≢ Vacant → MayBe v (path_of (name_of Commit commit)) s)
    → ((o : ObjName) → IsSum o.csum → keep o → (s : Seen) → MayBe w (path_of o) s → MayBe v (path_of o) s)
    → ((o : ObjName) → IsSum o.csum → keep o → shows w.now (path_of o) ≡ shows v.now (path_of o)) → IsSettled keep v → IsSettled keep w
settled_by keep v w there before still settled = record {
  commits = λ commit sum s may some. settled.commits commit sum s (there commit sum s may some) some;
  steady = λ o sum kept s may. settled.steady o sum kept s (before o sum kept s may) ∙ sym (still o sum kept);
}

pub removal_settled : (keep : ObjNames) (v w : View) (W : Path → Seen → Type 0) → Writes W v w → IsRemoval keep v W → IsSettled keep v → IsSettled keep w
removal_settled keep v w W writes removal = settled_by keep v w
    (λ commit sum s may some. removal_there keep v w W writes removal (path_of (name_of Commit commit)) s may some)
    (removal_as keep v w W writes removal) (removal_still keep v w W writes removal)

-- what isn't there doesn't come
pub removal_vacant : (keep : ObjNames) (v w : View) (W : Path → Seen → Type 0) → Writes W v w → IsRemoval keep v W → (p : Path) → shows v.now p ≡ Vacant → shows w.now p ≡ Vacant
removal_vacant keep v w W writes removal p none = ⊎_elim (λ same. same ∙ none) (λ gone. gone) (removal_now keep v w W writes removal p)

pub removal_never : (keep : ObjNames) (v w : View) (W : Path → Seen → Type 0) → Writes W v w → IsRemoval keep v W → (commit : List ℕ) → IsNeverThere v commit → IsNeverThere w commit
removal_never keep v w W writes removal commit never s may =
    ⊎_elim (λ none. none) (λ some. never s (removal_there keep v w W writes removal (path_of (name_of Commit commit)) s may some)) (vacant_or s)

-- ---- over the acts of others

module _ (keep : ObjNames) (b b' : Books) (v w : View) (actor other lane : ℕ) (apart : lane ≢ other) (alone : b.exclusive ≡ Some lane) (writes : Writes (Guarantee b v actor other) v w) where
  not_free : ¬ (Free b.exclusive other)
  not_free free = apart (free lane alone)

  pub object_still : (o : ObjName) → IsSum o.csum → shows w.now (path_of o) ≡ shows v.now (path_of o)
  object_still o sum = ⊎_elim
      (λ same. same)
      (λ m. absurd (not_free (at_place b v actor other (path_of o) (shows w.now (path_of o)) (Object o.kind o.csum) (place-object o.kind o.csum sum) m).0))
      (writes.now (path_of o))

  ref_as : (name : List ℕ) (s : Seen) → MayBe w (ref_path name) s → MayBe v (ref_path name) s
  ref_as name s may = ⊎_elim (λ was. was) (λ m. absurd (not_free (at_place b v actor other (ref_path name) s (Ref name) (place-ref name) m).1)) (writes.only (ref_path name) s may)

  pub others_kept : Spared actor other b b' → AreKept keep b v lane → AreKept keep b' w lane
  others_kept spared = kept_on keep b b' v w lane (spared.listed lane apart alone)
      (λ p mine has. ⊎_elim (λ was. was) (λ new. absurd (not_free new.1)) (spared.pinned p has))
      (λ name commit s may says. ref_as name s may)
      (λ o c has. stores_same w.now v.now o c (sym (object_still o (IsSum-named o c has.named))) has)

  pub others_settled : IsSettled keep v → IsSettled keep w
  others_settled = settled_by keep v w
      (λ commit sum s may some. object_as b v w actor other writes lane apart alone (name_of Commit commit) sum s may)
      (λ o sum kept s may. object_as b v w actor other writes lane apart alone o sum s may)
      (λ o sum kept. object_still o sum)

  pub others_never : (commit : List ℕ) → IsSum commit → IsNeverThere v commit → IsNeverThere w commit
  others_never commit sum never s may = never s (object_as b v w actor other writes lane apart alone (name_of Commit commit) sum s may)

-- Behind a sync of all, where no commit stands that isn't kept.
pub settled_begins : (doomed : List ObjName) (v : View) → ((o : ObjName) → Contains doomed o → o.kind ≡ Commit → shows v.now (path_of o) ≡ Vacant) → IsSettled (Except doomed) (all_synced v)
unfolding all_synced
settled_begins doomed v gone = record {
  commits = λ commit sum s may some has. some ((all_synced-firm v (path_of (name_of Commit commit))).each s may ∙ gone (name_of Commit commit) has refl);
  steady = λ o sum kept s may. (all_synced-firm v (path_of o)).each s may;
}

pub never_begins : (v : View) (commit : List ℕ) → shows v.now (path_of (name_of Commit commit)) ≡ Vacant → IsNeverThere (all_synced v) commit
unfolding all_synced
never_begins v commit none s may = (all_synced-firm v (path_of (name_of Commit commit))).each s may ∙ none
