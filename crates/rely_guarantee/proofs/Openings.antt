-- The beginning keeps what every value keeps.
use Rattle.std.proofs.Common.{◌≡◌, ◌⊎◌, inl, inr, ⊎_elim, ◌<◌, ◌≤◌, ℕ, refl, sym, ◌∙◌, ap, subst, arith, List, [], ◌∷◌, true, false, Contains, Option, Some, None}
use Rattle.ost_types.specs.Path.{Path, under}
use Rattle.fs_trait.specs.declared.types.Value.{Value}
use Rattle.fs_trait.specs.declared.types.Value.TheVariants.{Absent, Folder, Link, File}
use Rattle.fs_trait.specs.View.{Disk, View}
use Rattle.fs_trait.specs.Image.{is_folder, IsTree}
use Rattle.fs_trait.specs.Seen.{Seen, seen, shows, MayBe, IsDirectory}
use Rattle.fs_trait.specs.Change.{Left}
use Rattle.fs_trait.proofs.Images.{folder_or_not}
use Rattle.fs_trait.proofs.Ways.{above}
use Rattle.repo_layout.specs.Paths.{folder_path, ref_path}
use Rattle.repo_layout.specs.Place.{Ref, place}
use Rattle.repo_layout.specs.Refs.{is_leaf}
use Rattle.repo_layout.proofs.Places.{place-ref}
use Rattle.boot_model.specs.declared.item.DepId.{DepId}
use Rattle.rely_guarantee.specs.declared.books.Base.{Base}
use Rattle.rely_guarantee.specs.declared.books.Books.{Books}
use Rattle.rely_guarantee.specs.State.{Topic, RefOf, Said, State, first, IsNamed, opening_state}
use Rattle.rely_guarantee.specs.Disks.{path_of, IsLeaf, Says, IsOther}
use Rattle.rely_guarantee.specs.SystemInvariant.{Leads, NoStray, Stands, SystemInvariant}
use Rattle.rely_guarantee.specs.Opening.{IsOpening, HasSince}
use Rattle.rely_guarantee.proofs.Locking.{doomed_held}
use Rattle.rely_guarantee.proofs.States.{says_leaf}
use Rattle.layout_rules.specs.Checks.{IsRefAt, Kinds, RefFiles}
use Rattle.layout_rules.specs.InLayout.{IsBounded, IsSuited, SuitsSeen}
use Rattle.layout_rules.proofs.Layouts.{below_split}
use Rattle.layout_rules.proofs.Sanes.{bounded, ref_of}
use Rattle.layout_rules.proofs.Suiting.{to_seen}

shows_directory : (d : Disk) (z : Value) → is_folder z ≡ true → IsDirectory (seen d z)
shows_directory d (Folder m) e = tt
shows_directory d Absent e = let n : false ≡ true = e in cc
shows_directory d (Link m t) e = let n : false ≡ true = e in cc
shows_directory d (File k) e = let n : false ≡ true = e in cc

pub leaf_value : (d : Disk) (z : Value) → IsLeaf (seen d z) → is_leaf z ≡ true
leaf_value d (Link m t) leaf = refl
leaf_value d (File n) leaf = refl
leaf_value d Absent leaf = absurd leaf
leaf_value d (Folder m) leaf = absurd leaf

module _ (start : State) (v : View) (tree : IsTree v.now) (begins : IsOpening start v) where
  only : (p : Path) (s : Seen) → MayBe v p s → s ≡ shows v.now p
  only p s may = (begins.settled p).each s may

  -- the folders above a folder that is there
  pub leads_there : (f : Path) → is_folder (v.now.at f) ≡ true → Leads v f
  leads_there f folder p s may below =
      let w = below_split p f below in
      let here : is_folder (v.now.at p) ≡ true = above v.now tree p w.0 (subst (λ q. is_folder (v.now.at q) ≡ true) w.1 folder) in
      subst IsDirectory (sym (only p s may)) (shows_directory v.now (v.now.at p) here)

  parent_there : (f : Path) (x : List ℕ) → IsLeaf (shows v.now (under f x)) → is_folder (v.now.at f) ≡ true
  parent_there f x leaf = ⊎_elim (λ is. is)
      (λ no_. let none : v.now.at (under f x) ≡ Absent = tree.folders f x no_ in let bad : IsLeaf (seen v.now Absent) = subst (λ z. IsLeaf (seen v.now z)) none leaf in absurd bad)
      (folder_or_not (v.now.at f))

  named : IsNamed start
  named name commit is = (ref_of v.now begins.sane name (leaf_value v.now (v.now.at (ref_path name)) (says_leaf name commit _ (subst (λ y. Says (RefOf name) y (shows v.now (ref_path name))) is (begins.state (RefOf name)))))).0

  leads_value : (t : Topic) (f : Path) (x : List ℕ) → path_of t ≡ under f x → (said : Said) → start t ≡ said → (start t ≡ None) ⊎ Leads v f
  leads_value (RefOf name) f x e None is = inl is
  leads_value (RefOf name) f x e (Some commit) is =
      let leaf : IsLeaf (shows v.now (ref_path name)) = says_leaf name commit _ (subst (λ y. Says (RefOf name) y (shows v.now (ref_path name))) is (begins.state (RefOf name))) in
      inr (leads_there f (parent_there f x (subst (λ q. IsLeaf (shows v.now q)) e leaf)))

  no_stray : (p : Path) (s : Seen) → MayBe v p s → NoStray p s
  no_stray p s may below other leaf =
      let at : IsRefAt v.now p = (begins.sane RefFiles p below).leaf (leaf_value v.now (v.now.at p) (subst IsLeaf (only p s may) leaf)) in
      let bad : IsOther (Ref at.0) = subst IsOther (ap place (sym at.2) ∙ place-ref at.0) other in
      bad

  suited : (p : Path) (s : Seen) → MayBe v p s → IsSuited p s
  suited p s may rule is = subst (SuitsSeen rule) (sym (only p s may)) (to_seen rule v.now (v.now.at p) (begins.sane Kinds p rule is))

  within_bounds : (p : Path) (s : Seen) → MayBe v p s → IsBounded p s
  within_bounds p s may searched there = bounded v.now begins.sane p searched (λ none. there (only p s may ∙ ap (seen v.now) none))

  pub stands_begins : (ids : List DepId) → Stands (record { refs = start; deployments = ids }) [] None v
  stands_begins ids = record {
    named = named;
    run = tt;
    known = record {
      each = λ t s may. inl (subst (Says t (start t)) (sym (only (path_of t) s may)) (begins.state t));
      leads = λ t f x e. leads_value t f x e (start t) refl;
    };
    folders = λ f. leads_there (folder_path f) (begins.folders f);
    strays = no_stray;
    kinds = suited;
    reached = within_bounds;
  }

module _ {X : Type 0} where
  no_member : (xs : List X) → xs ≡ [] → (x : X) → Contains xs x → ⊥
  no_member [] none x (k, lt, e) = omega (arith, lt)
  no_member (y ∷ xs) none x has = let z : y ∷ xs ≡ [] = none in cc

pub sound_begins : {F : Type 0} (view : F → Option View) (clock spare : F → ℕ) (was : F → ℕ → View → Type 0) → ((fs : F) (v : View) → view fs ≡ Some v → IsTree v.now) → (base : Base F)
    → base.books.exclusive ≡ None → base.books.turn ≡ None → base.books.history.items ≡ [] → base.books.claims.items ≡ [] → base.books.gone ≡ 0 → base.books.pending ≡ None → base.books.owed ≡ 0 → base.books.opened ≤ clock base.fs
    → ((v : View) → view base.fs ≡ Some v → IsOpening (opening_state base.books.start).refs v)
    → ((v : View) → view base.fs ≡ Some v → HasSince (Left (was base.fs)) base.books.opened (opening_state base.books.start).refs) → SystemInvariant view clock spare was base
sound_begins view clock spare was trees base alone turn empty unclaimed uncounted none nothing opened begins since = record {
  ordered = record {
    agrees = record { turn = λ x y ex. absurd (let z : None ≡ Some x = sym alone ∙ ex in cc); shared = λ x ex. absurd (let z : None ≡ Some x = sym alone ∙ ex in cc); doomed = doomed_held base.books.exclusive base.books.pending };
    owner = λ p is. absurd (let z : None ≡ Some p = sym none ∙ is in cc);
    ascends = rw empty opened;
    idle = λ is. nothing;
    room = rw nothing (omega arith);
    entry = λ more. absurd (let z : 0 < 0 = subst (λ n. 0 < n) nothing more in omega (arith, z));
    counted = rw (uncounted, nothing) (omega arith);
  };
  stands = λ v told. rw (empty, none) (stands_begins (opening_state base.books.start).refs v (trees base.fs v told) (begins v told) base.books.start.deployments.items);
  crash = λ v told. rw (empty, none) (record {
    each = λ t d from left.
        let has = since v told t d from left in
        record { past = []; rest = []; split = refl; has_acked = omega arith; shows = has.1; sane = has.0 };
  });
  claims = λ v told c has. absurd (no_member base.books.claims.items unclaimed c has);
  relists = λ v told p is. absurd (let z : None ≡ Some p = sym none ∙ is in cc);
}

-- so it is of books that are new
pub sound_new : {F : Type 0} (view : F → Option View) (clock spare : F → ℕ) (was : F → ℕ → View → Type 0) → ((fs : F) (v : View) → view fs ≡ Some v → IsTree v.now) → (fs : F) (books : Books) (opened : ℕ) (start : List (List ℕ × List ℕ))
    → books.exclusive ≡ None → books.turn ≡ None → books.history.items ≡ [] → books.claims.items ≡ [] → books.gone ≡ 0 → books.pending ≡ None → books.owed ≡ 0 → books.opened ≡ opened → books.start.refs.items ≡ start
    → opened ≤ clock fs → ((v : View) → view fs ≡ Some v → IsOpening (first start) v) → ((v : View) → view fs ≡ Some v → HasSince (Left (was fs)) opened (first start))
    → SystemInvariant view clock spare was (record { fs = fs; books = books })
sound_new view clock spare was trees fs books opened start alone turn empty unclaimed uncounted none nothing at these past begins since =
    sound_begins view clock spare was trees (record { fs = fs; books = books }) alone turn empty unclaimed uncounted none nothing
    (subst (λ n. n ≤ clock fs) (sym at) past)
    (λ v told. subst (λ l. IsOpening (first l) v) (sym these) (begins v told))
    (λ v told. subst (λ n. HasSince (Left (was fs)) n (opening_state books.start).refs) (sym at) (subst (λ l. HasSince (Left (was fs)) opened (first l)) (sym these) (since v told)))
