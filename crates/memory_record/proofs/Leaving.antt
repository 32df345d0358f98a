-- A crash, a path at a time.
use Rattle.std.proofs.Common.{◌≡◌, ◌≢◌, ◌⊎◌, inl, inr, ⊎_elim, ℕ, zero, suc, ◌+◌, ◌<◌, ◌≤◌, ◌↔◌, Bool, true, false, cond, if◌then◌else◌, List, [], ◌∷◌, ◌++◌, length, take, get_or, filter, Contains, refl, sym, ◌∙◌, ap, subst, arith, length-append}
use mathlib.Core.Path.{fun_ext}
use Rattle.std.specs.Ordering.{nat_cmp, ordering_reverse, ordering_then}
use Rattle.std.specs.declared.cmp.Ordering.{Ordering}
use Rattle.std.specs.declared.cmp.Ordering.TheVariants.{Less, Equal, Greater}
use Rattle.std.specs.Cmp.Lexicographic.{slice_cmp}
use Rattle.std.specs.List.{flat_map}
use Rattle.std.specs.List.Sorted.{IsStrictlySortedBy}
use Rattle.std.proofs.lemmas.List.{get_or_default}
use Rattle.std.proofs.lemmas.List.Elements.{filter_passes, Contains-get_or}
use Rattle.std.proofs.lemmas.List.Filters.{length-filter_more}
use Rattle.std.proofs.lemmas.List.Kept.{IsStrictlySortedBy-filter}
use Rattle.std.proofs.lemmas.Cmp.{nat_list_cmp_total, lists_total}
use Rattle.std.proofs.lemmas.Map.Views.{All-after_first}
use Rattle.std.proofs.lemmas.Map.Keys.{sorted_tail}
use Rattle.ost_types.specs.declared.meta.Meta.{Meta}
use Rattle.ost_types.specs.Path.{Path, path_cmp, under}
use Rattle.ost_types.proofs.Paths.{same_or_apart, under-not_folder, root_or_under}
use Rattle.fs_trait.specs.declared.types.Value.{Value}
use Rattle.fs_trait.specs.declared.types.Value.TheVariants.{Absent, File}
use Rattle.fs_trait.specs.View.{Disk, View, named, all_synced}
use Rattle.fs_trait.specs.Image.{is_folder, IsTree, Holds, Image, crashed}
use Rattle.fs_trait.proofs.Images.{named-here, named-apart}
use Rattle.fs_trait.proofs.Trees.{Holds-named_any}
use Rattle.fs_trait.proofs.Crashes.{crashed-under, Image-crashed}
use Rattle.memory_record.specs.declared.change.Change.{Change}
use Rattle.memory_record.specs.declared.change.Change.TheVariants.{Name, Crash}
use Rattle.memory_table.specs.Filled.{filled}
use Rattle.memory_record.specs.Changes.{apply, view_of, spoiled, IsSound}
use Rattle.memory_record.specs.Crash.{has_more, chosen, picked, left, IsCrashOf}
use Rattle.memory_record.specs.Traces.{named_by}
use Rattle.memory_record.proofs.Records.{view_of-push}
use Rattle.memory_record.proofs.Applied.{apply_name}
use Rattle.memory_record.proofs.Choices.{Contains-first, Contains-later, many, more_some, some_more, none_more, chosen-holds, picked-holds, picked-out, picked-apart, picked-chosen}
use Rattle.memory_record.proofs.Quiets.{IsQuiet, quiet, named-below, member}

sorted_pairs : (ps : List Path) (i j : ℕ) (d : Path) → IsStrictlySortedBy path_cmp ps → i < j → j < length ps → path_cmp (get_or ps i d) (get_or ps j d) ≡ Less
sorted_pairs [] i j d sorted low less = absurd (omega (arith, less))
sorted_pairs (p ∷ ps) i zero d sorted low less = absurd (omega (arith, low))
sorted_pairs (p ∷ ps) zero (suc j) d sorted low less = All-after_first path_cmp p ps sorted j d (omega (arith, less))
sorted_pairs (p ∷ ps) (suc i) (suc j) d sorted low less = sorted_pairs ps i j d (sorted_tail path_cmp p ps sorted) (omega (arith, low)) (omega (arith, less))

not_both_less : (p q : Path) → path_cmp p q ≡ Less → path_cmp q p ≡ Less → ⊥
not_both_less p q l m = let a = (lists_total nat_list_cmp_total).antisymm p q in let n : Less ≡ Greater = sym l ∙ a ∙ ap ordering_reverse m in cc

same_equal : (x : List ℕ) → slice_cmp nat_cmp x x ≡ Equal
same_equal x = go (slice_cmp nat_cmp x x) refl
  where
    go : (o : Ordering) → slice_cmp nat_cmp x x ≡ o → slice_cmp nat_cmp x x ≡ Equal
    go Equal e = e
    go Less e = let a = nat_list_cmp_total.antisymm x x in let n : Less ≡ Greater = sym e ∙ a ∙ ap ordering_reverse e in cc
    go Greater e = let a = nat_list_cmp_total.antisymm x x in let n : Greater ≡ Less = sym e ∙ a ∙ ap ordering_reverse e in cc

-- a folder comes before the names in it
folder_first : (f : Path) (x : List ℕ) → path_cmp f (under f x) ≡ Less
folder_first [] x = refl
folder_first (a ∷ f) x = ap (λ o. ordering_then o (path_cmp f (under f x))) (same_equal a) ∙ folder_first f x

before : (ps : List Path) (i j : ℕ) (d : Path) (f : Path) (x : List ℕ) → IsStrictlySortedBy path_cmp ps → i < length ps → j < length ps → get_or ps i d ≡ f → get_or ps j d ≡ under f x → i < j
before ps i j d f x sorted low high first second = go (order i j)
  where
    order : (i j : ℕ) → (i < j) ⊎ ((i ≡ j) ⊎ (j < i))
    order i j = grind arith

    go : (i < j) ⊎ ((i ≡ j) ⊎ (j < i)) → i < j
    go (inl less) = less
    go (inr (inl e)) = absurd (under-not_folder f x (sym second ∙ ap (λ k. get_or ps k d) (sym e) ∙ first))
    go (inr (inr more)) = absurd (not_both_less f (under f x) (folder_first f x) (subst (λ q. path_cmp (under f x) q ≡ Less) first (subst (λ q. path_cmp q (get_or ps i d) ≡ Less) second (sorted_pairs ps j i d sorted more low))))

apart_at : (ps : List Path) (i j : ℕ) (d : Path) → IsStrictlySortedBy path_cmp ps → i < j → j < length ps → get_or ps i d ≢ get_or ps j d
apart_at ps i j d sorted low less e = let l = sorted_pairs ps i j d sorted low less in not_both_less (get_or ps j d) (get_or ps j d) (subst (λ q. path_cmp q (get_or ps j d) ≡ Less) e l) (subst (λ q. path_cmp q (get_or ps j d) ≡ Less) e l)

Contains-filter : (test : Path → Bool) (qs : List Path) (p : Path) → test p ≡ true → Contains qs p → Contains (filter test qs) p
Contains-filter test [] p pass (k, less, is) = absurd (omega (arith, less))
Contains-filter test (q ∷ qs) p pass (zero, less, is) = go (test q) (ap test is ∙ pass)
  where
    go : (b : Bool) → b ≡ true → Contains (cond b (q ∷ filter test qs) (filter test qs)) p
    go true e = subst (Contains (q ∷ filter test qs)) is (Contains-first q (filter test qs))
    go false e = let n : false ≡ true = e in cc
Contains-filter test (q ∷ qs) p pass (suc k, less, is) = go (test q) (Contains-filter test qs p pass (k, (omega (arith, less)), is))
  where
    go : (b : Bool) → Contains (filter test qs) p → Contains (cond b (q ∷ filter test qs) (filter test qs)) p
    go true has = Contains-later q (filter test qs) p has
    go false has = has

taken : (b : Bool) (x y z : Value) → x ≡ y → (if b then x else z) ≡ (if b then y else z)
taken true x y z e = e
taken false x y z e = refl

-- what is recorded of a path
pub both_left : (copy path : Path) (value : Value) (folder f : Value) (own mine : Value) → copy ≡ path → value ≡ (if is_folder folder then own else Absent) → folder ≡ f → own ≡ mine → Name copy value ≡ Name path (if is_folder f then mine else Absent)
both_left copy path value folder f own mine first second third fourth = ap (λ p. Name p value) first ∙ ap (λ x. Name path x) (second ∙ ap (λ y. if is_folder y then own else Absent) third ∙ taken (is_folder f) own mine Absent fourth)

-- the disk that is left in the end
abbrev pub disk_left : List Change → List ℕ → ℕ → List Path → Disk
disk_left cs ks fill ps = crashed (picked ks (view_of cs) 0 (filter (many (view_of cs)) ps)) (λ n. filled fill ((view_of cs).now.bytes n)) (view_of cs)

-- what holds once the first j of the paths have the values that they are left with
pub record HasLeft (cs : List Change) (ks : List ℕ) (fill : ℕ) (ps : List Path) (j count : ℕ) (w : View) : Type 0 where
  pub counted : count ≡ length (filter (many (view_of cs)) (take j ps))
  pub few : count ≤ j
  pub done : (k : ℕ) (e : Path) → k < j → w.now.at (get_or ps k e) ≡ (disk_left cs ks fill ps).at (get_or ps k e)
  pub rest : (q : Path) → ((k : ℕ) (e : Path) → k < j → get_or ps k e ≢ q) → w.now.at q ≡ (view_of cs).now.at q
  pub meta : w.now.meta ≡ (view_of cs).now.meta
  pub bytes : w.now.bytes ≡ (view_of cs).now.bytes
  pub synced : w.synced ≡ (view_of cs).synced
  pub holds : (q : Path) (n : ℕ) → Holds w q (File n) → (r : Path) × Holds (view_of cs) r (File n)

module _ (cs : List Change) (ks : List ℕ) (fill : ℕ) (ps : List Path) (sound : IsSound cs) (sorted : IsStrictlySortedBy path_cmp ps) (each : (p : Path) → Contains ps p ↔ Contains (flat_map named_by cs) p) where
  v : View
  v = view_of cs

  pub image : Image (view_of cs) (disk_left cs ks fill ps)
  image = Image-crashed (picked ks (view_of cs) 0 (filter (many (view_of cs)) ps)) _ (view_of cs) (picked-out ks (view_of cs) 0 ps [] (none_more _ sound.root)) (picked-holds ks (view_of cs) 0 (filter (many (view_of cs)) ps))

  ps-below : (q : Path) → Contains ps q → q ≢ []
  ps-below q has = named-below cs q ((each q).0 has)

  ps-quiet : (q : Path) → q ≢ [] → (Contains ps q → ⊥) → IsQuiet (view_of cs) q
  ps-quiet q below none = quiet cs q below (λ has. none ((each q).1 has))

  -- a path that isn't listed is left absent
  left-quiet : (q : Path) → q ≢ [] → (Contains ps q → ⊥) → (disk_left cs ks fill ps).at q ≡ Absent
  left-quiet q below none = go (root_or_under q)
    where
      both : (b : Bool) (x : Value) → x ≡ Absent → (if b then x else Absent) ≡ Absent
      both true x e = e
      both false x e = refl

      go : (q ≡ []) ⊎ ((f : Path) × (x : List ℕ) × (q ≡ under f x)) → (disk_left cs ks fill ps).at q ≡ Absent
      go (inl e) = absurd (below e)
      go (inr (f, x, e)) =
          let silent = ps-quiet q below none in
          let own = picked-out ks (view_of cs) 0 ps q (none_more _ silent.1) ∙ silent.0 in
          ap (disk_left cs ks fill ps).at e ∙ crashed-under _ _ (view_of cs) f x ∙ both _ _ (ap (picked ks (view_of cs) 0 (filter (many (view_of cs)) ps)) (sym e) ∙ own)

  pub start : HasLeft cs ks fill ps 0 0 (view_of cs)
  start = record {
    counted = refl;
    few = omega arith;
    done = λ k e less. absurd (omega (arith, less));
    rest = λ q none. refl;
    meta = refl;
    bytes = refl;
    synced = refl;
    holds = λ q n h. (q, h);
  }

  module _ (j count : ℕ) (w : View) (was : HasLeft cs ks fill ps j count w) (less : j < length ps) where
    -- the folder of the next path is as it is left
    folder_left : (f : Path) (x : List ℕ) (d : Path) → get_or ps j d ≡ under f x → w.now.at f ≡ (disk_left cs ks fill ps).at f
    folder_left f x d is = go (same_or_apart f []) (member ps f)
      where
        at_root : (f ≡ []) → w.now.at f ≡ (disk_left cs ks fill ps).at f
        at_root e = was.rest f (λ k c low is_f. ps-below (get_or ps k c) (Contains-get_or ps k c (omega (arith, low, less))) (is_f ∙ e)) ∙ ap (view_of cs).now.at e ∙ sym image.root ∙ ap (disk_left cs ks fill ps).at (sym e)

        go : (f ≡ []) ⊎ (f ≢ []) → Contains ps f ⊎ (Contains ps f → ⊥) → w.now.at f ≡ (disk_left cs ks fill ps).at f
        go (inl e) any = at_root e
        go (inr below) (inl (k, low, is_f)) =
            let low_j : k < j = before ps k j f f x sorted low less is_f (get_or_default ps j f d less ∙ is) in
            subst (λ q. w.now.at q ≡ (disk_left cs ks fill ps).at q) is_f (was.done k f low_j)
        go (inr below) (inr none) =
            was.rest f (λ k c low is_f. none (subst (Contains ps) is_f (Contains-get_or ps k c (omega (arith, low, less))))) ∙ (ps-quiet f below none).0 ∙ sym (left-quiet f below none)

    module _ (p : Path) (here : p ≡ get_or ps j p) (f : Path) (x : List ℕ) (is : p ≡ under f x) where
      value : Value
      value = if is_folder (w.now.at f) then chosen ks (view_of cs) count p else Absent

      value-left : (if is_folder (w.now.at f) then chosen ks (view_of cs) count p else Absent) ≡ (disk_left cs ks fill ps).at p
      value-left =
          let folder = folder_left f x p (sym here ∙ is) in
          let own : picked ks (view_of cs) 0 (filter (many (view_of cs)) ps) p ≡ chosen ks (view_of cs) count p = ap (picked ks (view_of cs) 0 (filter (many (view_of cs)) ps)) here ∙ picked-chosen ks (view_of cs) j ps p sorted less ∙ ap (λ k. chosen ks (view_of cs) k (get_or ps j p)) (sym was.counted) ∙ ap (chosen ks (view_of cs) count) (sym here) in
          ap (λ y. if is_folder y then chosen ks (view_of cs) count p else Absent) folder
          ∙ taken (is_folder ((disk_left cs ks fill ps).at f)) _ _ Absent (sym own ∙ ap (picked ks (view_of cs) 0 (filter (many (view_of cs)) ps)) is)
          ∙ sym (crashed-under _ _ (view_of cs) f x) ∙ ap (disk_left cs ks fill ps).at (sym is)

      of_chosen : (b : Bool) (n : ℕ) → (if b then chosen ks (view_of cs) count p else Absent) ≡ File n → (r : Path) × Holds (view_of cs) r (File n)
      of_chosen true n e = (p, subst (Holds (view_of cs) p) e (chosen-holds ks (view_of cs) count p))
      of_chosen false n e = let no : Absent ≡ File n = e in cc

      pub next : HasLeft cs ks fill ps (j + 1) (count + cond (has_more ((view_of cs).older p)) 1 0) (named p (if is_folder (w.now.at f) then chosen ks (view_of cs) count p else Absent) w)
      unfolding named
      next = record {
        counted = ap (λ k. k + cond (many (view_of cs) p) 1 0) was.counted ∙ ap (λ q. length (filter (many (view_of cs)) (take j ps)) + cond (many (view_of cs) q) 1 0) here ∙ sym (length-filter_more (many (view_of cs)) ps j p less);
        few = let c = was.few in let o = at_most_one (has_more ((view_of cs).older p)) in omega (arith, c, o);
        done = λ k e low. at_next k e (lower k j low);
        rest = λ q none. named-apart w p _ q (λ e. none j p (omega arith) (sym here ∙ e)) ∙ was.rest q (λ k e low. none k e (omega (arith, low)));
        meta = was.meta;
        bytes = was.bytes;
        synced = was.synced;
        holds = λ q n h. ⊎_elim (λ e. of_chosen (is_folder (w.now.at f)) n (sym e)) (λ old. was.holds q n old) (Holds-named_any w p _ q (File n) h);
      }
        where
          at_most_one : (b : Bool) → cond b 1 0 ≤ 1
          at_most_one true = omega arith
          at_most_one false = omega arith

          lower : (k j : ℕ) → k < j + 1 → (k < j) ⊎ (k ≡ j)
          lower k j h = grind arith

          at_next : (k : ℕ) (e : Path) → (k < j) ⊎ (k ≡ j) → (named p (if is_folder (w.now.at f) then chosen ks (view_of cs) count p else Absent) w).now.at (get_or ps k e) ≡ (disk_left cs ks fill ps).at (get_or ps k e)
          at_next k e (inl low) = named-apart w p _ (get_or ps k e) (λ same. apart_at ps k j e sorted low less (sym same ∙ here ∙ get_or_default ps j p e less)) ∙ was.done k e low
          at_next k e (inr at) =
              let q : p ≡ get_or ps k e = here ∙ get_or_default ps j p e less ∙ ap (λ i. get_or ps i e) (sym at) in
              subst (λ r. (named p (if is_folder (w.now.at f) then chosen ks (view_of cs) count p else Absent) w).now.at r ≡ (disk_left cs ks fill ps).at r) q (named-here w p _ ∙ value-left)

  -- one path more
  pub go_on : (j count : ℕ) (old new : List Change) → HasLeft cs ks fill ps j count (view_of old) → j < length ps → (p : Path) → p ≡ get_or ps j p
      → ((f : Path) (x : List ℕ) → p ≡ under f x → new ≡ old ++ Name p (if is_folder ((view_of old).now.at f) then chosen ks (view_of cs) count p else Absent) ∷ [])
      → HasLeft cs ks fill ps (j + 1) (count + cond (has_more ((view_of cs).older p)) 1 0) (view_of new) × (length new ≡ length old + 1)
  go_on j count old new was less p here pushed = go (root_or_under p)
    where
      go : (p ≡ []) ⊎ ((f : Path) × (x : List ℕ) × (p ≡ under f x)) → HasLeft cs ks fill ps (j + 1) (count + cond (has_more ((view_of cs).older p)) 1 0) (view_of new) × (length new ≡ length old + 1)
      go (inl e) = absurd (ps-below p (subst (Contains ps) (sym here) (Contains-get_or ps j p less)) e)
      go (inr (f, x, is)) =
          let e = pushed f x is in (
            subst (HasLeft cs ks fill ps (j + 1) (count + cond (has_more ((view_of cs).older p)) 1 0)) (sym (ap view_of e ∙ view_of-push old _ ∙ apply_name (view_of old) p _)) (next j count (view_of old) was less p here f x is),
            ap length e ∙ length-append old _,
          )

  module _ (new : List Change) (count : ℕ) (was : HasLeft cs ks fill ps (length ps) count (view_of new)) where
    all_left : (q : Path) → (view_of new).now.at q ≡ (disk_left cs ks fill ps).at q
    all_left q = go (same_or_apart q []) (member ps q)
      where
        go : (q ≡ []) ⊎ (q ≢ []) → Contains ps q ⊎ (Contains ps q → ⊥) → (view_of new).now.at q ≡ (disk_left cs ks fill ps).at q
        go (inl e) any = was.rest q (λ k c low is_q. ps-below (get_or ps k c) (Contains-get_or ps k c low) (is_q ∙ e)) ∙ ap (view_of cs).now.at e ∙ sym image.root ∙ ap (disk_left cs ks fill ps).at (sym e)
        go (inr below) (inl (k, low, is_q)) = subst (λ r. (view_of new).now.at r ≡ (disk_left cs ks fill ps).at r) is_q (was.done k q low)
        go (inr below) (inr none) = was.rest q (λ k c low is_q. none (subst (Contains ps) is_q (Contains-get_or ps k c low))) ∙ (ps-quiet q below none).0 ∙ sym (left-quiet q below none)

    final : (Path → Value) → (ℕ → Meta) → (ℕ → List ℕ) → (ℕ → Bool) → View
    final at meta bytes synced = record { now = record { at = at; meta = meta; bytes = λ n. if synced n then bytes n else filled fill (bytes n) }; older = λ p. []; synced = λ n. true }

    spoiled-final : apply (Crash fill) (view_of new) ≡ final (view_of new).now.at (view_of new).now.meta (view_of new).now.bytes (view_of new).synced
    unfolding apply spoiled all_synced final
    spoiled-final = refl

    left-final : left ks fill (view_of cs) (filter (many (view_of cs)) ps) ≡ final (disk_left cs ks fill ps).at (view_of cs).now.meta (view_of cs).now.bytes (view_of cs).synced
    unfolding left crashed final
    left-final = refl

    pub is_left : view_of (new ++ Crash fill ∷ []) ≡ left ks fill (view_of cs) (filter (many (view_of cs)) ps)
    is_left =
        view_of-push new (Crash fill) ∙ spoiled-final ∙ ap (λ a. final a (view_of new).now.meta (view_of new).now.bytes (view_of new).synced) (fun_ext all_left)
        ∙ ap (λ m. final (disk_left cs ks fill ps).at m (view_of new).now.bytes (view_of new).synced) was.meta ∙ ap (λ b. final (disk_left cs ks fill ps).at (view_of cs).now.meta b (view_of new).synced) was.bytes
        ∙ ap (λ s. final (disk_left cs ks fill ps).at (view_of cs).now.meta (view_of cs).now.bytes s) was.synced ∙ sym left-final

    pub is_crash : IsCrashOf (view_of cs) ks fill (view_of (new ++ Crash fill ∷ []))
    is_crash = record {
      names = filter (many (view_of cs)) ps;
      ascending = IsStrictlySortedBy-filter path_cmp (many (view_of cs)) ps sorted;
      each = λ p. (λ has. more_some _ (passes ps p has), λ some. Contains-filter (many (view_of cs)) ps p (some_more _ some) (in_ps p some (member ps p)));
      is = is_left;
    }
      where
        passes : (qs : List Path) (p : Path) → Contains (filter (many (view_of cs)) qs) p → has_more ((view_of cs).older p) ≡ true
        passes qs p (k, low, is) = subst (λ q. many (view_of cs) q ≡ true) is (filter_passes (many (view_of cs)) qs k p low)

        in_ps : (p : Path) → (view_of cs).older p ≢ [] → Contains ps p ⊎ (Contains ps p → ⊥) → Contains ps p
        in_ps p some (inl has) = has
        in_ps p some (inr none) = go (same_or_apart p [])
          where
            go : (p ≡ []) ⊎ (p ≢ []) → Contains ps p
            go (inl e) = absurd (some (ap (view_of cs).older e ∙ sound.root))
            go (inr below) = absurd (some (ps-quiet p below none).1)

    pub is_sound : length cs ≤ length new → IsSound (new ++ Crash fill ∷ [])
    unfolding left apply spoiled all_synced
    is_sound long = record {
      tree = subst (λ (u : View). IsTree u.now) (sym is_left) (record {
        root = ap is_folder image.root ∙ sound.tree.root;
        folders = λ f x none. image.gone f x none;
      });
      numbered = λ q n holds. bound n (number q n (subst (λ u. Holds u q (File n)) (view_of-push new (Crash fill)) holds));
      root = ap (λ (u : View). u.older []) is_left;
    }
      where
        number : (q : Path) (n : ℕ) → Holds (apply (Crash fill) (view_of new)) q (File n) → (r : Path) × Holds (view_of cs) r (File n)
        number q n (inl e) = was.holds q n (inl e)
        number q n (inr none) = absurd none

        bound : (n : ℕ) → (r : Path) × Holds (view_of cs) r (File n) → n < length (new ++ Crash fill ∷ [])
        bound n (r, h) = let b = sound.numbered r n h in let l = length-append new (Crash fill ∷ []) in omega (arith, b, l, long)

-- where the loop over the paths ends
pub ended : (cs : List Change) (ks : List ℕ) (fill : ℕ) (ps : List Path) (j count : ℕ) (w : View) → j ≤ length ps → length ps ≤ j → HasLeft cs ks fill ps j count w → HasLeft cs ks fill ps (length ps) count w
ended cs ks fill ps j count w low high was = let e : j ≡ length ps = omega (arith, low, high) in subst (λ k. HasLeft cs ks fill ps k count w) e was

-- what a crash leaves is an image
pub crash_image : (v w : View) (ks : List ℕ) (fill : ℕ) → v.older [] ≡ [] → IsCrashOf v ks fill w → Image v w.now
unfolding left
crash_image v w ks fill root crash =
    subst (λ (u : View). Image v u.now) (sym crash.is)
    (Image-crashed (picked ks v 0 crash.names) (λ n. filled fill (v.now.bytes n)) v (picked-apart ks v 0 crash.names [] (λ has. (crash.each []).0 has root)) (picked-holds ks v 0 crash.names))
