-- Behind a sync of all the names are those of the objects that stand, and as many fewer as were removed.
use Rattle.std.proofs.Common.{◌≡◌, ◌⊎◌, inl, inr, ⊎_elim, ◌≤◌, ◌+◌, ℕ, Bool, List, [], ◌∷◌, ◌++◌, length, drop, take, take-append-drop, Contains, refl, sym, ◌∙◌, ap, subst, arith}
use Rattle.std.specs.List.{filter}
use Rattle.std.proofs.lemmas.List.Elements.{Contains-append_cases, Contains-append_left}
use Rattle.std.specs.List.Sorted.{IsStrictlySortedBy}
use Rattle.ost_types.specs.declared.limits.Limits.{Limits}
use Rattle.ost_types.specs.declared.object.ObjName.{ObjName}
use Rattle.fs_trait.specs.View.{View, all_synced}
use Rattle.fs_trait.specs.Seen.{Seen, Vacant, shows, seen}
use Rattle.fs_trait.proofs.Effects.{all_synced-firm, all_synced-writes, may_now}
use Rattle.fs_trait.proofs.Facts.{vacant_absent}
use Rattle.repo_model.specs.Objects.{Store, path_of}
use Rattle.obj_store.specs.Listing.{name_cmp}
use Rattle.obj_store.specs.Lookup.{is_there}
use Rattle.tree_build.proofs.Lists.{Among, among_contained, contained_among}
use Rattle.store_check.specs.Listing.{AreAll}
use Rattle.durable_store.specs.Removals.{AreDifferent}
use Rattle.durable_store.specs.Standing.{AreListed, StoreStands}
use Rattle.durable_store.proofs.Images.{there_true, true_there}
use Rattle.durable_store.proofs.Names.{contains_kept, few_among, kept_ascends, kept_contains, with_name}
use Rattle.durable_store.proofs.Removing.{nothing_goes}

-- the names of those that stand are among those that a crash may leave
pub all_now : (names : List ObjName) (v : View) → AreListed names v → (next : List ObjName) × AreAll v.now next
all_now names v listed = (
  filter stands_at names,
  record {
    ascending = kept_ascends stands_at names listed.ascending;
    here = λ o has. let k = contains_kept stands_at o names has in record { sum = listed.sums o k.0; there = true_there (v.now.at (path_of o)) k.1 };
    all = λ o is. kept_contains stands_at o names
        (listed.all o is.sum (shows v.now (path_of o)) (may_now v (path_of o)) (λ none. is.there (vacant_absent v.now (path_of o) none)))
        (there_true (v.now.at (path_of o)) is.there);
  },
)
  where
    stands_at : ObjName → Bool
    stands_at o = is_there (v.now.at (path_of o))

pub listed_now : (next : List ObjName) (v : View) → AreAll v.now next → AreListed next (all_synced v)
listed_now next v all = record {
  ascending = all.ascending;
  sums = λ o has. (all.here o has).sum;
  all = λ o sum s may some. all.all o (record { sum = sum; there = λ none. some ((all_synced-firm v (path_of o)).each s may ∙ ap (seen v.now) none) });
}

pub synced_stands : (limits : Limits) (brings : Store) (config : Seen → Type 0) (names : List ObjName) (v : View) → StoreStands limits brings config names v → StoreStands limits brings config names (all_synced v)
synced_stands limits brings config names v = nothing_goes v (all_synced v) _ (all_synced-writes v) (λ p s wrote. wrote) limits brings config names

pub cut_stands : (limits : Limits) (brings : Store) (config : Seen → Type 0) (names next : List ObjName) (v : View) → AreAll v.now next → StoreStands limits brings config names v → StoreStands limits brings config next (all_synced v)
cut_stands limits brings config names next v all stands =
    let is = synced_stands limits brings config names v stands in
    record { objects = is.objects; listed = listed_now next v all; commits = is.commits; founded = is.founded; settled = is.settled }

-- ---- different names

sorted_different : (xs : List ObjName) → IsStrictlySortedBy name_cmp xs → AreDifferent xs
unfolding IsStrictlySortedBy
sorted_different [] sorted = tt
sorted_different (x ∷ xs) sorted = (
  λ has.
      let shorter = few_among xs (x ∷ xs) sorted.1 sorted (λ a. ⊎_elim (λ e. subst (λ y. Among y xs) e (contained_among x xs has)) (λ rest. rest)) in
      omega (arith, shorter),
  sorted_different xs sorted.1,
)

both_different : (xs ys : List ObjName) → AreDifferent xs → AreDifferent ys → ((o : ObjName) → Contains xs o → ¬ (Contains ys o)) → AreDifferent (xs ++ ys)
both_different [] ys front back apart = back
both_different (x ∷ xs) ys front back apart = (
  λ has. ⊎_elim front.0 (apart x (among_contained x (x ∷ xs) (inl refl))) (Contains-append_cases xs ys x has),
  both_different xs ys front.1 back (λ o has. apart o (among_contained o (x ∷ xs) (inr (contained_among o xs has)))),
)

front_different : (xs ys : List ObjName) → AreDifferent (xs ++ ys) → AreDifferent xs
front_different [] ys all = tt
front_different (x ∷ xs) ys all = ((λ has. all.0 (Contains-append_left xs ys x has)), front_different xs ys all.1)

-- the first so many of two parts, each in order
pub first_different : (commits others : List ObjName) (n : ℕ) → IsStrictlySortedBy name_cmp commits → IsStrictlySortedBy name_cmp others → ((o : ObjName) → Contains commits o → ¬ (Contains others o)) → AreDifferent (take n (commits ++ others))
first_different commits others n ascends rises apart = front_different (take n (commits ++ others)) (drop n (commits ++ others))
    (subst AreDifferent (sym (take-append-drop n (commits ++ others))) (both_different commits others (sorted_different commits ascends) (sorted_different others rises) apart))

-- Different names that these haven't, all of them among some: together they are no more.
together : (gone names next : List ObjName) → AreDifferent gone → ((o : ObjName) → Contains gone o → Contains names o) → ((o : ObjName) → Contains gone o → ¬ (Among o next))
    → IsStrictlySortedBy name_cmp names → IsStrictlySortedBy name_cmp next → ((o : ObjName) → Among o next → Among o names) → length next + length gone ≤ length names
together [] names next different within apart ascends rises all = omega (arith, few_among names next ascends rises all)
together (x ∷ gone) names next different within apart ascends rises all = ⊎_elim
    (λ among. absurd (apart x itself among))
    (λ more.
    let rest = together gone names more.0 different.1 (λ o has. within o (further o has))
    (λ o has among. ⊎_elim (apart o (further o has)) (λ e. different.0 (subst (Contains gone) (sym e) has)) (more.1.only o among))
    ascends more.1.ascending
    (λ o among. ⊎_elim (all o) (λ e. subst (λ y. Among y names) e (contained_among x names (within x itself))) (more.1.only o among)) in
    omega (arith, rest, more.1.longer))
    (with_name x next rises)
  where
    further : (o : ObjName) → Contains gone o → Contains (x ∷ gone) o
    further o has = among_contained o (x ∷ gone) (inr (contained_among o gone has))

    itself : Contains (x ∷ gone) x
    itself = among_contained x (x ∷ gone) (inl refl)

pub fewer_names : (names next gone : List ObjName) (v : View) → AreListed names v → AreAll v.now next → AreDifferent gone → ((o : ObjName) → Contains gone o → Contains names o × (shows v.now (path_of o) ≡ Vacant)) → length next + length gone ≤ length names
fewer_names names next gone v listed all different taken = together gone names next different
    (λ o has. (taken o has).0)
    (λ o has among. (all.here o (among_contained o next among)).there (vacant_absent v.now (path_of o) (taken o has).1))
    listed.ascending all.ascending
    (λ o among.
    let is = all.here o (among_contained o next among) in
    contained_among o names (listed.all o is.sum (shows v.now (path_of o)) (may_now v (path_of o)) (λ none. is.there (vacant_absent v.now (path_of o) none))))
