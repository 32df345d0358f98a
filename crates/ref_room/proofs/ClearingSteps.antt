-- What each step of a clearing writes, tells and leaves.
use Rattle.std.proofs.Common.{◌≡◌, ◌≢◌, ◌⊎◌, inl, inr, ⊎_elim, ℕ, ◌<◌, ◌-◌, arith, true, false, refl, sym, ◌∙◌, ap, subst, List, [], ◌∷◌, ◌++◌, length, take, drop, append-nil, append_assoc, Option, Some, None, if◌then◌else◌}
use Rattle.std.specs.Prelude.{Contains, IfSome}
use Rattle.std.specs.Ordering.{nat_cmp, is_lt}
use Rattle.std.specs.Cmp.Lexicographic.{slice_cmp}
use Rattle.std.specs.declared.cmp.Ordering.{Ordering}
use Rattle.std.specs.declared.cmp.Ordering.TheVariants.{Less, Equal, Greater}
use Rattle.std.proofs.lemmas.Cmp.{nat_list_cmp_total}
use Rattle.std.proofs.lemmas.List.Elements.{Contains-append_left, Contains-append_right, Contains-append_cases}
use Rattle.ost_types.specs.Path.{Name, Path, IsPath, under}
use Rattle.fs_trait.specs.declared.types.Value.{Value}
use Rattle.fs_trait.specs.declared.types.Value.TheVariants.{Absent, Folder, Link, File}
use Rattle.fs_trait.specs.View.{Disk, View}
use Rattle.fs_trait.specs.Effect.{IsListing}
use Rattle.fs_trait.specs.Seen.{Seen, Vacant, seen, shows, IsDirectory}
use Rattle.repo_layout.specs.RefName.{IsRefName, parts_of}
use Rattle.repo_layout.specs.Paths.{ref_path}
use Rattle.repo_layout.specs.Refs.{is_leaf}
use Rattle.ref_room.specs.Clash.{IsAbove, IsNoRef}
use Rattle.ref_room.specs.Clearing.{Cleared, Looks, Says, Removes, Ends, act, act_of, top, passed, counted, lesser, IsOpened, IsLeaf, IsCounted, IsUnder, IsKnown, Needs}
use Rattle.ref_room.proofs.Lists.{one, Contains-one, last_apart}
use Rattle.ref_room.proofs.Names.{parts-one}
use Rattle.ref_room.proofs.Disks.{self_not_less}

leaf_seen : (d : Disk) (z : Value) → is_leaf z ≡ true → IsLeaf (seen d z)
leaf_seen d Absent e = let n : false ≡ true = e in cc
leaf_seen d (Folder m) e = let n : false ≡ true = e in cc
leaf_seen d (Link m l) e = tt
leaf_seen d (File n) e = tt

pub seen_leaf : (d : Disk) (z : Value) → IsLeaf (seen d z) → is_leaf z ≡ true
seen_leaf d Absent e = absurd e
seen_leaf d (Folder m) e = absurd e
seen_leaf d (Link m l) e = refl
seen_leaf d (File n) e = refl

vacant_no_leaf : (s : Seen) → s ≡ Vacant → IsLeaf s → ⊥
vacant_no_leaf s e leaf = subst IsLeaf e leaf

-- a ref below another has a path below its path
pub below_of : (name other : List ℕ) (rest : Path) → ref_path other ≡ ref_path name ++ rest → other ≢ name → IsAbove name other
unfolding ref_path
below_of name other [] e apart = absurd (apart (parts-one other name (ap (drop 4) e ∙ append-nil (parts_of name))))
below_of name other (x ∷ rest) e apart = (x, rest, ap (drop 4) e)

some_by : (pending folders : List Path) (least : Option (List ℕ)) → act_of pending folders least ≡ Looks → 0 < length pending
some_by (p ∷ pending) folders least e = omega arith
some_by [] folders (Some other) e = let n : Says other ≡ Looks = e in cc
some_by [] (f ∷ folders) None e = let n : Removes ≡ Looks = e in cc
some_by [] [] None e = let n : Ends ≡ Looks = e in cc

pub some_pending : (t : Cleared) → act t ≡ Looks → 0 < length t.pending
some_pending t looks = some_by t.pending t.folders t.least looks

module _ (t : Cleared) (looks : act t ≡ Looks) where
  apart_top : t.pending ≡ take (length t.pending - 1) t.pending ++ top t ∷ []
  apart_top = last_apart t.pending [] (some_pending t looks)

  pub top_in : Contains t.pending (top t)
  top_in = subst (λ l. Contains l (top t)) (sym apart_top) (Contains-append_right (take (length t.pending - 1) t.pending) (top t ∷ []) (top t) (one (top t)))

  pub still : (p : Path) → Contains t.pending p → Contains (take (length t.pending - 1) t.pending) p ⊎ (p ≡ top t)
  still p has = ⊎_elim (λ a. inl a) (λ b. inr (Contains-one p (top t) b)) (Contains-append_cases (take (length t.pending - 1) t.pending) (top t ∷ []) p (subst (λ l. Contains l p) apart_top has))

  pub was : (p : Path) → Contains (take (length t.pending - 1) t.pending) p → Contains t.pending p
  was p has = subst (λ l. Contains l p) (sym apart_top) (Contains-append_left (take (length t.pending - 1) t.pending) (top t ∷ []) p has)

less_trans : (third other least : List ℕ) → slice_cmp nat_cmp third least ≢ Less → slice_cmp nat_cmp other least ≡ Less → slice_cmp nat_cmp third other ≢ Less
less_trans third other least no_ less e = no_ (nat_list_cmp_total.trans third other least e less)

-- what counted before counts with a lesser clash
counted_by : (o : Ordering) (p : Path) (s : Seen) (least other : List ℕ) → slice_cmp nat_cmp other least ≡ o → IsCounted (Some least) p s → IsCounted (if is_lt o then Some other else Some least) p s
counted_by Less p s least other e c = (c.0, (c.1.0, c.1.1, less_trans c.1.0 other least c.1.2 e))
counted_by Equal p s least other e c = c
counted_by Greater p s least other e c = c

pub counted_on : (least found : Option (List ℕ)) (p : Path) (s : Seen) → IsCounted least p s → IsCounted (lesser least found) p s
counted_on least None p s c = c
counted_on None (Some other) p s c = absurd c
counted_on (Some least) (Some other) p s c = counted_by (slice_cmp nat_cmp other least) p s least other refl c

found_by : (o : Ordering) (p : Path) (s : Seen) (least other : List ℕ) → slice_cmp nat_cmp other least ≡ o → IsLeaf s → ref_path other ≡ p → IsCounted (if is_lt o then Some other else Some least) p s
found_by Less p s least other e leaf at = (leaf, (other, at, self_not_less other))
found_by Equal p s least other e leaf at = (leaf, (other, at, λ l. let n : Equal ≡ Less = sym e ∙ l in cc))
found_by Greater p s least other e leaf at = (leaf, (other, at, λ l. let n : Greater ≡ Less = sym e ∙ l in cc))

pub found_counts : (least : Option (List ℕ)) (other : List ℕ) (p : Path) (s : Seen) → IsLeaf s → ref_path other ≡ p → IsCounted (lesser least (Some other)) p s
found_counts None other p s leaf at = (leaf, (other, at, self_not_less other))
found_counts (Some least) other p s leaf at = found_by (slice_cmp nat_cmp other least) p s least other refl leaf at

-- the lesser is one of both
one_by : (o : Ordering) (other least x : List ℕ) → (if is_lt o then Some other else Some least) ≡ Some x → (Some least ≡ Some x) ⊎ (other ≡ x)
one_by Less other least x e = inr (let n : Some other ≡ Some x = e in cc)
one_by Equal other least x e = inl e
one_by Greater other least x e = inl e

pub one_of : (least : Option (List ℕ)) (other x : List ℕ) → lesser least (Some other) ≡ Some x → (least ≡ Some x) ⊎ (other ≡ x)
one_of None other x e = inr (let n : Some other ≡ Some x = e in cc)
one_of (Some least) other x e = one_by (slice_cmp nat_cmp other least) other least x e

module _ (t : Cleared) (v : View) (looks : act t ≡ Looks) (needs : Needs t v) where
  -- 1. nothing stands there
  pub looked_absent : v.now.at (top t) ≡ Absent → Needs (passed t) v
  looked_absent absent = record {
    named = needs.named;
    pending = λ p has. needs.pending p (was t looks p has);
    folders = needs.folders;
    least = needs.least;
    here = λ p. record {
      known = λ f x is has. ⊎_elim
          (λ a. ⊎_elim (λ b. inl b) (λ e. inr (inr (inl (vacant p e)))) (still t looks p a))
          (λ other. inr other)
          ((needs.here p).known f x is has);
      own = λ is. (
        ⊎_elim (λ a. ⊎_elim (λ b. inl b) (λ e. inr (inr (vacant p e))) (still t looks p a)) (λ other. inr other) ((needs.here p).own is).0,
        ((needs.here p).own is).1,
      );
      folder = (needs.here p).folder;
      least = (needs.here p).least;
    };
  }
    where
      vacant : (p : Path) → p ≡ top t → shows v.now p ≡ Vacant
      vacant p e = ap (shows v.now) e ∙ ap (seen v.now) absent

  -- 2. a leaf
  module _ (leaf : is_leaf (v.now.at (top t)) ≡ true) where
    leaf_there : (p : Path) → p ≡ top t → IsLeaf (shows v.now p)
    leaf_there p e = subst (λ q. IsLeaf (shows v.now q)) (sym e) (leaf_seen v.now (v.now.at (top t)) leaf)

    not_own : (p : Path) → p ≡ ref_path t.name → p ≡ top t → ⊥
    not_own p is e = ((needs.here p).own is).1 (leaf_there p e)

    own_still : (p : Path) → p ≡ ref_path t.name → (Contains (take (length t.pending - 1) t.pending) p ⊎ Contains t.folders p ⊎ (shows v.now p ≡ Vacant)) × (IsLeaf (shows v.now p) → ⊥)
    own_still p is = (
      ⊎_elim (λ a. ⊎_elim (λ b. inl b) (λ e. absurd (not_own p is e)) (still t looks p a)) (λ other. inr other) ((needs.here p).own is).0,
      ((needs.here p).own is).1,
    )

    pub looked_other : IsNoRef (top t) → Needs (counted None t) v
    looked_other none = record {
      named = needs.named;
      pending = λ p has. needs.pending p (was t looks p has);
      folders = needs.folders;
      least = needs.least;
      here = λ p. record {
        known = λ f x is has. ⊎_elim
            (λ a. ⊎_elim (λ b. inl b) (λ e. inr (inr (inr (inr (inl (leaf_there p e, subst IsNoRef (sym e) none)))))) (still t looks p a))
            (λ other. inr other)
            ((needs.here p).known f x is has);
        own = own_still p;
        folder = (needs.here p).folder;
        least = (needs.here p).least;
      };
    }

    pub looked_ref : (other : List ℕ) → IsRefName other → ref_path other ≡ top t → Needs (counted (Some other) t) v
    looked_ref other named_ at = record {
      named = needs.named;
      pending = λ p has. needs.pending p (was t looks p has);
      folders = needs.folders;
      least = λ x is. ⊎_elim (λ old. needs.least x old) (λ e. subst (λ y. IsRefName y × IsAbove t.name y) e (named_, above)) (one_of t.least other x is);
      here = λ p. record {
        known = λ f x is has. ⊎_elim
            (λ a. ⊎_elim (λ b. inl b) (λ e. inr (inr (inr (inl (found_counts t.least other p (shows v.now p) (leaf_there p e) (at ∙ sym e)))))) (still t looks p a))
            (λ rest. ⊎_elim (λ b. inr (inl b)) (λ rest. ⊎_elim (λ b. inr (inr (inl b))) (λ rest. ⊎_elim (λ c. inr (inr (inr (inl (counted_on t.least (Some other) p (shows v.now p) c))))) (λ b. inr (inr (inr (inr b)))) rest) rest) rest)
            ((needs.here p).known f x is has);
        own = own_still p;
        folder = (needs.here p).folder;
        least = λ x is place. ⊎_elim (λ old. (needs.here p).least x old place) (λ e. leaf_there p (place ∙ ap ref_path (sym e) ∙ at)) (one_of t.least other x is);
      };
    }
      where
        place : IsUnder t.name (top t)
        place = needs.pending (top t) (top_in t looks)

        above : IsAbove t.name other
        above = below_of t.name other place.0 (at ∙ place.1) (λ e. not_own (ref_path t.name) refl (ap ref_path (sym e) ∙ at))

  -- 3. a folder
  pub looked_opened : (names : List Name) (new : Cleared) → IsDirectory (shows v.now (top t)) → IsListing v.now (top t) names → IsOpened names t new → Needs new v
  looked_opened names new there listing opened = record {
    named = subst IsRefName (sym opened.name) needs.named;
    pending = λ p has. subst (λ n. IsUnder n p) (sym opened.name) (⊎_elim (λ a. needs.pending p a) (λ b. child p b.0 b.1) (opened.pending p has));
    folders = λ p has. subst (λ n. IsUnder n p) (sym opened.name) (⊎_elim (λ a. needs.folders p a) (λ e. subst (IsUnder t.name) (sym e) place) (opened.folders p has));
    least = λ x is. subst (λ n. IsRefName x × IsAbove n x) (sym opened.name) (needs.least x (sym opened.least ∙ is));
    here = λ p. record {
      known = λ f x is has. ⊎_elim (λ a. old p f x is a) (λ e. fresh p x (is ∙ ap (λ g. under g x) e)) (opened.folders f has);
      own = λ is. (
        ⊎_elim (λ a. moved p a) (λ rest. ⊎_elim (λ b. inr (inl (opened.folders_kept p b))) (λ c. inr (inr c)) rest) ((needs.here p).own (is ∙ ap ref_path opened.name)).0,
        ((needs.here p).own (is ∙ ap ref_path opened.name)).1,
      );
      folder = λ has. ⊎_elim (λ a. (needs.here p).folder a) (λ e. subst (λ q. IsDirectory (shows v.now q)) (sym e) there) (opened.folders p has);
      least = λ x is at. (needs.here p).least x (sym opened.least ∙ is) at;
    };
  }
    where
      place : IsUnder t.name (top t)
      place = needs.pending (top t) (top_in t looks)

      child : (p : Path) (x : Name) → p ≡ under (top t) x → IsUnder t.name p
      child p x is = (under place.0 x, is ∙ ap (λ q. under q x) place.1 ∙ append_assoc (ref_path t.name) place.0 (x ∷ []))

      moved : {P : Type 0} (p : Path) → Contains t.pending p → Contains new.pending p ⊎ (Contains new.folders p ⊎ P)
      moved p a = ⊎_elim (λ b. inl b) (λ e. inr (inl (subst (Contains new.folders) (sym e) opened.found))) (opened.pending_kept p a)

      old : (p f : Path) (x : Name) → p ≡ under f x → Contains t.folders f → IsKnown new p (shows v.now p)
      old p f x is has = ⊎_elim
          (λ a. moved p a)
          (λ rest. ⊎_elim (λ b. inr (inl (opened.folders_kept p b))) (λ rest. ⊎_elim (λ b. inr (inr (inl b))) (λ rest. ⊎_elim (λ c. inr (inr (inr (inl (subst (λ l. IsCounted l p (shows v.now p)) (sym opened.least) c))))) (λ b. inr (inr (inr (inr b)))) rest) rest) rest)
          ((needs.here p).known f x is has)

      listed : (p : Path) (x : Name) → p ≡ under (top t) x → Contains names x → IsKnown new p (shows v.now p)
      listed p x is has = ⊎_elim
          (λ a. old p (top t) x is a)
          (λ rest. ⊎_elim (λ b. inl (subst (Contains new.pending) (sym is) b)) (λ none. inr (inr (inr (inr (inr (λ path. none (subst IsPath is path))))))) rest)
          (opened.inside x has)

      by : (p : Path) (x : Name) → p ≡ under (top t) x → (z : Value) → v.now.at (under (top t) x) ≡ z → IsKnown new p (shows v.now p)
      by p x is Absent e = inr (inr (inl (ap (shows v.now) is ∙ ap (seen v.now) e)))
      by p x is (Folder m) e = listed p x is (listing.all x (λ a. let n : Folder m ≡ Absent = sym e ∙ a in cc))
      by p x is (Link m l) e = listed p x is (listing.all x (λ a. let n : Link m l ≡ Absent = sym e ∙ a in cc))
      by p x is (File n) e = listed p x is (listing.all x (λ a. let m : File n ≡ Absent = sym e ∙ a in cc))

      fresh : (p : Path) (x : Name) → p ≡ under (top t) x → IsKnown new p (shows v.now p)
      fresh p x is = by p x is (v.now.at (under (top t) x)) refl

pub looked_found : (t : Cleared) (v : View) → act t ≡ Looks → Needs t v → is_leaf (v.now.at (top t)) ≡ true → (found : Option (List ℕ)) → IfSome found (λ name. IsRefName name × (ref_path name ≡ top t)) → (found ≡ None → IsNoRef (top t)) → Needs (counted found t) v
looked_found t v looks needs leaf (Some other) some none = looked_ref t v looks needs leaf other some.0 some.1
looked_found t v looks needs leaf None some none = looked_other t v looks needs leaf (none refl)
