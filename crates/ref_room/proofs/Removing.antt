-- The folder that is removed is the last, and has none of the others below it.
use Rattle.std.proofs.Common.{◌≡◌, ◌≢◌, ◌⊎◌, inl, inr, ⊎_elim, ℕ, ◌<◌, ◌+◌, ◌-◌, arith, Bool, true, false, refl, sym, ◌∙◌, ap, subst, List, [], ◌∷◌, ◌++◌, length, take, get_or, append_assoc, length-append, Option, Some, None}
use Rattle.std.specs.Prelude.{Contains, All, IfSome, IsSome, slice_get}
use Rattle.std.specs.Ordering.{nat_cmp, is_lt, ordering_reverse, ordering_then}
use Rattle.std.specs.Cmp.Lexicographic.{slice_cmp}
use Rattle.std.specs.BTreeMap.Range.{IsLtBy}
use Rattle.std.specs.declared.cmp.Ordering.{Ordering}
use Rattle.std.specs.declared.cmp.Ordering.TheVariants.{Less, Equal, Greater}
use Rattle.std.proofs.lemmas.Cmp.{nat_list_cmp_total}
use Rattle.std.proofs.Math.Seq.{get_or-append_seam}
use Rattle.std.proofs.lemmas.Option.{get_or_from_slice_get}
use Rattle.std.proofs.lemmas.List.Elements.{Contains-append_left, Contains-append_right, Contains-append_cases, All-contains}
use Rattle.ost_types.specs.Path.{Name, Path, IsPath, path_cmp, under}
use Rattle.ost_types.proofs.Paths.{same_or_apart}
use Rattle.fs_trait.specs.declared.types.Value.TheVariants.{Absent}
use Rattle.fs_trait.specs.declared.types.FsErr.{FsErr}
use Rattle.fs_trait.specs.declared.types.FsErr.TheVariants.{Failed, Exists, Missing, NotFolder, NotEmpty, NoMemory}
use Rattle.fs_trait.specs.View.{Disk, View, named}
use Rattle.fs_trait.specs.Image.{IsTree, Told}
use Rattle.fs_trait.specs.Effect.{HasNames, no_folder, no_rmdir, if_names, or_else, Fails}
use Rattle.fs_trait.specs.Seen.{Seen, Vacant, shows, MayShow, IsDirectory}
use Rattle.fs_trait.specs.Change.{Writes, At}
use Rattle.fs_trait.proofs.Kept.{weaker, same_view}
use Rattle.fs_trait.proofs.Facts.{vacant_absent}
use Rattle.fs_trait.proofs.Refusals.{no_folder-there}
use Rattle.fs_trait.proofs.Effects.{named-writes, shows_named, shows_named_apart}
use Rattle.fs_trait.proofs.Claims.{folder_shows}
use Rattle.repo_layout.specs.Paths.{heads, ref_path}
use Rattle.ref_room.specs.Clearing.{Cleared, Looks, Says, Removes, Ends, act, act_of, IsAside, IsCounted, IsUnder, IsKnown, IsLeaf, IsEmpty, IsRemoved, WritesOf, HereOf, Needs, Refuses}
use Rattle.ref_room.proofs.Lists.{one, Contains-one, last_apart}

not_equal : (o : Ordering) → o ≡ ordering_reverse o → o ≡ Equal
not_equal Less e = let n : Less ≡ Greater = e in cc
not_equal Equal e = refl
not_equal Greater e = let n : Greater ≡ Less = e in cc

same_order : (a : List ℕ) → slice_cmp nat_cmp a a ≡ Equal
same_order a = not_equal (slice_cmp nat_cmp a a) (nat_list_cmp_total.antisymm a a)

-- a folder is before all that it has, and not before itself
cmp_under : (f : Path) (x : Name) → path_cmp f (under f x) ≡ Less
cmp_under [] x = refl
cmp_under (a ∷ f) x = ap (λ o. ordering_then o (path_cmp f (under f x))) (same_order a) ∙ cmp_under f x

cmp_self : (f : Path) → path_cmp f f ≡ Equal
cmp_self [] = refl
cmp_self (a ∷ f) = ap (λ o. ordering_then o (path_cmp f f)) (same_order a) ∙ cmp_self f

record Removing (pending folders : List Path) (least : Option (List ℕ)) : Type 0 where
  pub no_pending : pending ≡ []
  pub no_least : least ≡ None
  pub some : 0 < length folders

removing_by : (pending folders : List Path) (least : Option (List ℕ)) → act_of pending folders least ≡ Removes → Removing pending folders least
removing_by (p ∷ pending) folders least e = let n : Looks ≡ Removes = e in cc
removing_by [] folders (Some other) e = let n : Says other ≡ Removes = e in cc
removing_by [] (f ∷ folders) None e = record { no_pending = refl; no_least = refl; some = omega arith }
removing_by [] [] None e = let n : Ends ≡ Removes = e in cc

pub not_in : {P : Type 0} (p : Path) (xs : List Path) → xs ≡ [] → Contains xs p → P
not_in p xs e (k, less, is) = let n : length xs ≡ 0 = ap length e in absurd (omega (arith, less, n))

-- what is popped is the last
pop_some : (old new : List Path) (k f : Path) → old ≡ new ++ k ∷ [] → slice_get old (length old - 1) ≡ Some f → k ≡ f
pop_some old new k f are last =
    let n : length old ≡ length new + 1 = ap length are ∙ length-append new (k ∷ []) in
    let m : length old - 1 ≡ length new = omega (arith, n) in
    sym (get_or-append_seam new k [] k) ∙ ap (λ l. get_or l (length new) k) (sym are) ∙ ap (λ i. get_or old i k) (sym m) ∙ get_or_from_slice_get old (length old - 1) f k last

pub pop_rest : (old new : List Path) (r : Option Path) (f : Path) → IfSome r (λ k. old ≡ new ++ k ∷ []) → IfSome r (λ k. All (λ q. IsLtBy path_cmp q k) new) → IsSome r → slice_get old (length old - 1) ≡ Some f
    → (old ≡ new ++ f ∷ []) × All (λ q. IsLtBy path_cmp q f) new
pop_rest old new (Some k) f are below some last =
    let same = pop_some old new k f are last in
    (are ∙ ap (λ g. new ++ g ∷ []) same, subst (λ g. All (λ q. IsLtBy path_cmp q g) new) same below)
pop_rest old new None f are below some last = let n : false ≡ true = some in cc

pub some_folders : (t : Cleared) → act t ≡ Removes → 0 < length t.folders
some_folders t removes = (removing_by t.pending t.folders t.least removes).some

directory_not_vacant : (s : Seen) → IsDirectory s → s ≡ Vacant → ⊥
directory_not_vacant s is e = subst IsDirectory e is

vacant_not_leaf : (s : Seen) → s ≡ Vacant → IsLeaf s → ⊥
vacant_not_leaf s e leaf = subst IsLeaf e leaf

none_free : (o : Option FsErr) (b : Bool) → or_else o (if_names b) ≡ None → b ≡ false
none_free (Some e) b is = let n : Some e ≡ None = is in cc
none_free None true is = let n : Some NotEmpty ≡ None = is in cc
none_free None false is = refl

-- a folder that can be removed is empty
emptied : (d : Disk) (f : Path) (b : Bool) → HasNames b f d → no_rmdir b f d ≡ None → IsEmpty d f
unfolding no_rmdir
emptied d f b has free = (subst (λ c. HasNames c f d) (none_free (no_folder f d) b free) has).1

module _ (t : Cleared) (v : View) (tree : IsTree v.now) (needs : Needs t v) (removes : act t ≡ Removes) (f : Path) (last : slice_get t.folders (length t.folders - 1) ≡ Some f) where
  state : Removing t.pending t.folders t.least
  state = removing_by t.pending t.folders t.least removes

  apart : t.folders ≡ take (length t.folders - 1) t.folders ++ f ∷ []
  apart = last_apart t.folders [] state.some ∙ ap (λ g. take (length t.folders - 1) t.folders ++ g ∷ []) (get_or_from_slice_get t.folders (length t.folders - 1) f [] last)

  f_in : Contains t.folders f
  f_in = subst (λ l. Contains l f) (sym apart) (Contains-append_right (take (length t.folders - 1) t.folders) (f ∷ []) f (one f))

  there : IsDirectory (shows v.now f)
  there = (needs.here f).folder f_in

  removed_ : IsRemoved t f
  removed_ = (removes, (take (length t.folders - 1) t.folders, apart))

  writes : IsPath f → IsEmpty v.now f → Writes (WritesOf t v) v (named f Absent v)
  writes path empty = weaker (At f (MayShow v Absent)) (WritesOf t v) v (named f Absent v)
      (λ p s a. (subst (IsRemoved t) (sym a.0) removed_, a.1, subst (λ q. IsDirectory (shows v.now q)) (sym a.0) there, subst (IsEmpty v.now) (sym a.0) empty, subst IsPath (sym a.0) path)) (named-writes v f Absent)

  -- it is written only where it goes, and it goes only where it is empty
  pub ok_writes : IsPath f → (b : Bool) → HasNames b f v.now → (view : Option View) → (no_rmdir b f v.now ≡ None) × (view ≡ Some (named f Absent v)) → Told view (λ x. Writes (WritesOf t v) v x)
  ok_writes path b has view changed = (named f Absent v, changed.1, writes path (emptied v.now f b has changed.0))

  pub err_writes : IsPath f → (b : Bool) → HasNames b f v.now → (e : FsErr) (view : Option View) → Fails (no_rmdir b f v.now) v (named f Absent v) e view → Told view (λ x. Writes (WritesOf t v) v x)
  err_writes path b has Failed view (inl same) = (v, same, same_view (WritesOf t v) v)
  err_writes path b has Failed view (inr done) = ok_writes path b has view done
  err_writes path b has NoMemory view same = (v, same, same_view (WritesOf t v) v)
  err_writes path b has Exists view is = (v, is.1, same_view (WritesOf t v) v)
  err_writes path b has Missing view is = (v, is.1, same_view (WritesOf t v) v)
  err_writes path b has NotFolder view is = (v, is.1, same_view (WritesOf t v) v)
  err_writes path b has NotEmpty view is = (v, is.1, same_view (WritesOf t v) v)

  -- what is in it isn't among the folders
  module _ (greatest : All (λ q. is_lt (path_cmp f q) ≡ false) t.folders) where
    below_out : (x : Name) → Contains t.folders (under f x) → ⊥
    below_out x has =
        let a : is_lt (path_cmp f (under f x)) ≡ false = All-contains (λ q. is_lt (path_cmp f q) ≡ false) t.folders (under f x) greatest has in
        let n : true ≡ false = sym (ap is_lt (cmp_under f x)) ∙ a in
        cc

    -- so it isn't empty only where something is left aside
    left_aside : (x : Name) → v.now.at (under f x) ≢ Absent → (p : Path) × IsUnder t.name p × (shows v.now p ≢ Vacant) × IsAside p (shows v.now p)
    left_aside x there_ = (under f x, place, vacant, by ((needs.here (under f x)).known f x refl f_in))
      where
        base : IsUnder t.name f
        base = needs.folders f f_in

        place : IsUnder t.name (under f x)
        place = (under base.0 x, ap (λ q. under q x) base.1 ∙ append_assoc (ref_path t.name) base.0 (x ∷ []))

        vacant : shows v.now (under f x) ≢ Vacant
        vacant e = there_ (vacant_absent v.now (under f x) e)

        by : IsKnown t (under f x) (shows v.now (under f x)) → IsAside (under f x) (shows v.now (under f x))
        by (inl a) = not_in (under f x) t.pending state.no_pending a
        by (inr (inl a)) = absurd (below_out x a)
        by (inr (inr (inl e))) = absurd (vacant e)
        by (inr (inr (inr (inl c)))) = let n : IsCounted None (under f x) (shows v.now (under f x)) = subst (λ l. IsCounted l (under f x) (shows v.now (under f x))) state.no_least c in absurd n
        by (inr (inr (inr (inr a)))) = a

    not_root_ : f ≢ []
    unfolding ref_path
    not_root_ e = let base = needs.folders f f_in in let n : heads ++ _ ≡ [] = sym base.1 ∙ e in cc

    refused : (b : Bool) → HasNames b f v.now → (e : FsErr) → no_rmdir b f v.now ≡ Some e → Refuses t v e
    unfolding no_rmdir
    refused b has e is = by b has (ap (λ r. or_else r (if_names b)) (sym (no_folder-there v.now tree f (folder_shows v.now f there))) ∙ is)
      where
        by : (b : Bool) → HasNames b f v.now → if_names b ≡ Some e → Refuses t v e
        by true (inl root) is = absurd (not_root_ root)
        by true (inr w) is = let n : NotEmpty ≡ e = cc in subst (Refuses t v) n (removes, left_aside w.0 w.1)
        by false has is = let n : None ≡ Some e = is in cc

    pub fails : (b : Bool) → HasNames b f v.now → (w : View) (e : FsErr) (view : Option View) → Fails (no_rmdir b f v.now) v w e view → Refuses t v e
    fails b has w Failed view a = tt
    fails b has w NoMemory view a = tt
    fails b has w Exists view a = refused b has Exists a.0
    fails b has w Missing view a = refused b has Missing a.0
    fails b has w NotFolder view a = refused b has NotFolder a.0
    fails b has w NotEmpty view a = refused b has NotEmpty a.0

  -- the folders that are left
  module _ (rest : List Path) (are : t.folders ≡ rest ++ f ∷ []) (below : All (λ q. IsLtBy path_cmp q f) rest) where
    not_rest : Contains rest f → ⊥
    not_rest has = let a : path_cmp f f ≡ Less = All-contains (λ q. IsLtBy path_cmp q f) rest f below has in let n : Equal ≡ Less = sym (cmp_self f) ∙ a in cc

    was_in : (p : Path) → Contains rest p → Contains t.folders p
    was_in p has = subst (λ l. Contains l p) (sym are) (Contains-append_left rest (f ∷ []) p has)

    still_in : (p : Path) → f ≢ p → Contains t.folders p → Contains rest p
    still_in p apart_ has = ⊎_elim (λ a. a) (λ b. absurd (apart_ (sym (Contains-one p f b)))) (Contains-append_cases rest (f ∷ []) p (subst (λ l. Contains l p) are has))

    pub after : Needs (record t { folders = rest }) (named f Absent v)
    after = record {
      named = needs.named;
      pending = needs.pending;
      folders = λ p has. needs.folders p (was_in p has);
      least = needs.least;
      here = λ p. here p (same_or_apart f p);
    }
      where
        w : View
        w = named f Absent v

        gone : (p : Path) → f ≡ p → shows w.now p ≡ Vacant
        gone p e = subst (λ q. shows w.now q ≡ Vacant) e (shows_named v f Absent)

        here : (p : Path) → (f ≡ p) ⊎ (f ≢ p) → HereOf (record t { folders = rest }) p (shows w.now p)
        here p (inl e) = record {
          known = λ g x is has. inr (inr (inl (gone p e)));
          own = λ is. (inr (inr (gone p e)), vacant_not_leaf (shows w.now p) (gone p e));
          folder = λ has. absurd (not_rest (subst (Contains rest) (sym e) has));
          least = λ other is at. let n : None ≡ Some other = sym state.no_least ∙ is in cc;
        }
        here p (inr apart_) = let same = shows_named_apart v f Absent p apart_ in record {
          known = λ g x is has. subst (IsKnown (record t { folders = rest }) p) (sym same)
              (⊎_elim (λ a. inl a) (λ more. ⊎_elim (λ b. inr (inl (still_in p apart_ b))) (λ c. inr (inr c)) more) ((needs.here p).known g x is (was_in g has)));
          own = λ is. subst (λ s. (Contains t.pending p ⊎ Contains rest p ⊎ (s ≡ Vacant)) × (IsLeaf s → ⊥)) (sym same) (
            ⊎_elim (λ a. inl a) (λ more. ⊎_elim (λ b. inr (inl (still_in p apart_ b))) (λ c. inr (inr c)) more) ((needs.here p).own is).0,
            ((needs.here p).own is).1,
          );
          folder = λ has. subst IsDirectory (sym same) ((needs.here p).folder (was_in p has));
          least = λ other is at. let n : None ≡ Some other = sym state.no_least ∙ is in cc;
        }
