-- The names in a folder, by the paths to which changes gave values.
use Rattle.std.proofs.Common.{◌≡◌, ◌≢◌, ◌⊎◌, inl, inr, ℕ, zero, suc, ◌+◌, ◌<◌, Bool, true, false, nat_eq, refl, sym, ◌∙◌, ap, subst, List, [], ◌∷◌, length, get_or, Contains, Option, Some, None, arith}
use Rattle.std.proofs.lemmas.List.{get_or_default}
use Rattle.ost_types.specs.Path.{Name, Path, under, is_in}
use Rattle.ost_types.proofs.Paths.{same_or_apart, under-not_root, under-is_in, is_in-under}
use Rattle.fs_trait.specs.declared.types.Value.{Value}
use Rattle.fs_trait.specs.declared.types.Value.TheVariants.{Absent, Folder, Link, File}
use Rattle.fs_trait.specs.View.{Disk}
use Rattle.fs_trait.specs.Effect.{HasNames}
use Rattle.fs_trait.specs.Effect.{IsListing}
use Rattle.std.specs.Cmp.Lexicographic.{pointwise, slice_cmp, texts_ties}
use Rattle.std.specs.Ordering.{nat_cmp}
use Rattle.std.specs.List.{dedup}
use Rattle.std.specs.List.Sorted.{IsPermutation, IsSorted}
use Rattle.std.specs.List.Retain.{IsFiltered, DiffersFromLast}
use Rattle.std.proofs.lemmas.Cmp.{nat_list_cmp_total, nat_list_eq_equiv}
use Rattle.std.proofs.lemmas.List.Filters.{dedup_is}
use Rattle.std.proofs.lemmas.List.Kept.{IsStrictlySortedBy-dedup, Contains-from_dedup, Contains-dedup}
use Rattle.std.proofs.lemmas.List.Sorted.{Contains-permutation, IsPermutation-sym}
use Rattle.ost_types.proofs.Paths.{same_name-Decides}
use Rattle.memory_record.specs.declared.change.Change.{Change}
use Rattle.memory_record.specs.declared.found.Found.{Found}
use Rattle.memory_record.specs.declared.found.Found.TheVariants as found
use Rattle.memory_record.specs.Changes.{view_of, root_meta}
use Rattle.memory_record.specs.Seen.{target_of, value_of}
use Rattle.memory_record.proofs.Untouched.{Untouched, untouched-absent}

-- P of each change before i, and of the next
pub below_next : (P : Change → Type 0) (cs : List Change) (i : ℕ) (c : Change) → i < length cs → c ≡ get_or cs i c → P c → ((k : ℕ) (d : Change) → k < i → P (get_or cs k d)) → (k : ℕ) (d : Change) → k < i + 1 → P (get_or cs k d)
below_next P cs i c h is now before k d less = go (lower k i less)
  where
    lower : (k i : ℕ) → k < i + 1 → (k < i) ⊎ (k ≡ i)
    lower k i h = grind arith

    go : (k < i) ⊎ (k ≡ i) → P (get_or cs k d)
    go (inl low) = before k d low
    go (inr e) = subst P (is ∙ get_or_default cs i c d h ∙ ap (λ j. get_or cs j d) (sym e)) now

same_target : (o : Option Path) (q : Path) → (o ≡ Some q) ⊎ (o ≢ Some q)
same_target None q = inr (λ e. cc)
same_target (Some p) q = go (same_or_apart p q)
  where
    go : (p ≡ q) ⊎ (p ≢ q) → (Some p ≡ Some q) ⊎ (Some p ≢ Some q)
    go (inl e) = inl (ap Some e)
    go (inr other) = inr (λ e. other cc)

-- what holds of each change that touches a path holds, or none touches it
touched : (cs : List Change) (q : Path) (A : Type 0) → ((k : ℕ) (d : Change) → k < length cs → target_of (get_or cs k d) ≡ Some q → A) → A ⊎ Untouched q cs
touched [] q A each = inr tt
touched (c ∷ cs) q A each = go (same_target (target_of c) q) (touched cs q A (λ k d less. each (suc k) d (omega (arith, less))))
  where
    go : (target_of c ≡ Some q) ⊎ (target_of c ≢ Some q) → A ⊎ Untouched q cs → A ⊎ Untouched q (c ∷ cs)
    go (inl e) later = inl (each zero c (omega arith) e)
    go (inr other) (inl a) = inl a
    go (inr other) (inr none) = inr (other, none)

-- where each name that a change gave a value is absent, all are
pub all_absent : (cs : List Change) (f : Path) → ((k : ℕ) (d : Change) → k < length cs → (x : Name) → target_of (get_or cs k d) ≡ Some (under f x) → (view_of cs).now.at (under f x) ≡ Absent) → (x : Name) → (view_of cs).now.at (under f x) ≡ Absent
all_absent cs f each x = go (touched cs (under f x) ((view_of cs).now.at (under f x) ≡ Absent) (λ k d less. each k d less x))
  where
    go : ((view_of cs).now.at (under f x) ≡ Absent) ⊎ Untouched (under f x) cs → (view_of cs).now.at (under f x) ≡ Absent
    go (inl is) = is
    go (inr none) = untouched-absent cs (under f x) (under-not_root f x) none

-- where each name that a change gave a value is listed or absent, each that isn't absent is listed
pub all_listed : (cs : List Change) (f : Path) (names : List Name) → ((k : ℕ) (d : Change) → k < length cs → (x : Name) → target_of (get_or cs k d) ≡ Some (under f x) → ((view_of cs).now.at (under f x) ≡ Absent) ⊎ Contains names x) → (x : Name) → (view_of cs).now.at (under f x) ≢ Absent → Contains names x
all_listed cs f names each x there = go (touched cs (under f x) (((view_of cs).now.at (under f x) ≡ Absent) ⊎ Contains names x) (λ k d less. each k d less x))
  where
    go : (((view_of cs).now.at (under f x) ≡ Absent) ⊎ Contains names x) ⊎ Untouched (under f x) cs → Contains names x
    go (inl (inl is)) = absurd (there is)
    go (inl (inr listed)) = listed
    go (inr none) = absurd (there (untouched-absent cs (under f x) (under-not_root f x) none))

pub absent_or : (x : Value) → (x ≡ Absent) ⊎ (x ≢ Absent)
absent_or Absent = inl refl
absent_or (Folder m) = inr (λ e. cc)
absent_or (Link m t) = inr (λ e. cc)
absent_or (File n) = inr (λ e. cc)

-- a name in the folder that isn't absent, or each to which a change gave a value is
named_or : (at : Path → Value) (f : Path) (cs : List Change) → ((x : Name) × (at (under f x) ≢ Absent)) ⊎ ((k : ℕ) (d : Change) → k < length cs → (x : Name) → target_of (get_or cs k d) ≡ Some (under f x) → at (under f x) ≡ Absent)
named_or at f [] = inr (λ k d less. absurd (omega (arith, less)))
named_or at f (c ∷ cs) = go (named_or at f cs) (here (target_of c))
  where
    child : (q : Path) → (b : Bool) → is_in f q ≡ b → ((x : Name) × (at (under f x) ≢ Absent)) ⊎ ((x : Name) → Some q ≡ Some (under f x) → at (under f x) ≡ Absent)
    child q true is = let u = under-is_in f q is in only u.0 u.1 (absent_or (at (under f u.0)))
      where
        only : (y : Name) → q ≡ under f y → (at (under f y) ≡ Absent) ⊎ (at (under f y) ≢ Absent) → ((x : Name) × (at (under f x) ≢ Absent)) ⊎ ((x : Name) → Some q ≡ Some (under f x) → at (under f x) ≡ Absent)
        only y e (inl none) = inr (λ x same. let p : q ≡ under f x = cc in subst (λ r. at r ≡ Absent) (sym e ∙ p) none)
        only y e (inr there) = inl (y, there)
    child q false is = inr (λ x same. let p : q ≡ under f x = cc in let n : false ≡ true = sym is ∙ ap (is_in f) p ∙ is_in-under f x in cc)

    here : (o : Option Path) → ((x : Name) × (at (under f x) ≢ Absent)) ⊎ ((x : Name) → o ≡ Some (under f x) → at (under f x) ≡ Absent)
    here None = inr (λ x same. let n : None ≡ Some (under f x) = same in cc)
    here (Some q) = child q (is_in f q) refl

    both : ((k : ℕ) (d : Change) → k < length cs → (x : Name) → target_of (get_or cs k d) ≡ Some (under f x) → at (under f x) ≡ Absent) → ((x : Name) → target_of c ≡ Some (under f x) → at (under f x) ≡ Absent) → (k : ℕ) (d : Change) → k < length (c ∷ cs) → (x : Name) → target_of (get_or (c ∷ cs) k d) ≡ Some (under f x) → at (under f x) ≡ Absent
    both later now zero d less x is = now x is
    both later now (suc k) d less x is = later k d (omega (arith, less)) x is

    go : ((x : Name) × (at (under f x) ≢ Absent)) ⊎ ((k : ℕ) (d : Change) → k < length cs → (x : Name) → target_of (get_or cs k d) ≡ Some (under f x) → at (under f x) ≡ Absent) → ((x : Name) × (at (under f x) ≢ Absent)) ⊎ ((x : Name) → target_of c ≡ Some (under f x) → at (under f x) ≡ Absent) → ((x : Name) × (at (under f x) ≢ Absent)) ⊎ ((k : ℕ) (d : Change) → k < length (c ∷ cs) → (x : Name) → target_of (get_or (c ∷ cs) k d) ≡ Some (under f x) → at (under f x) ≡ Absent)
    go (inl there) any = inl there
    go (inr later) (inl there) = inl there
    go (inr later) (inr now) = inr (both later now)

-- a folder has names or not
pub decide_names : (cs : List Change) (f : Path) → (b : Bool) × HasNames b f (view_of cs).now
decide_names cs [] = (true, inl refl)
decide_names cs (a ∷ f) = go (named_or (view_of cs).now.at (a ∷ f) cs)
  where
    go : ((x : Name) × ((view_of cs).now.at (under (a ∷ f) x) ≢ Absent)) ⊎ ((k : ℕ) (d : Change) → k < length cs → (x : Name) → target_of (get_or cs k d) ≡ Some (under (a ∷ f) x) → (view_of cs).now.at (under (a ∷ f) x) ≡ Absent) → (b : Bool) × HasNames b (a ∷ f) (view_of cs).now
    go (inl there) = (true, inr there)
    go (inr none) = (false, ((λ e. cc), all_absent cs (a ∷ f) none))

-- and not both
pub names_one : (a b : Bool) (f : Path) (d : Disk) → HasNames a f d → HasNames b f d → a ≡ b
names_one true true f d h g = refl
names_one false false f d h g = refl
names_one true false f d (inl root) g = absurd (g.0 root)
names_one true false f d (inr there) g = absurd (there.1 (g.1 there.0))
names_one false true f d h (inl root) = absurd (h.0 root)
names_one false true f d h (inr there) = absurd (there.1 (h.1 there.0))

-- the names, sorted and each once
pub sorted_listing : (cs : List Change) (f : Path) (names sorted listed : List Name)
    → ((x : Name) → Contains names x → (view_of cs).now.at (under f x) ≢ Absent) → ((x : Name) → (view_of cs).now.at (under f x) ≢ Absent → Contains names x)
    → IsPermutation names sorted → IsSorted (slice_cmp nat_cmp) sorted → IsFiltered (DiffersFromLast (pointwise nat_eq)) [] sorted listed → IsListing (view_of cs).now f listed
sorted_listing cs f names sorted listed there all permuted in_order kept =
    let is : listed ≡ dedup (pointwise nat_eq) sorted = dedup_is (pointwise nat_eq) sorted listed kept in
    subst (IsListing (view_of cs).now f) (sym is) (record {
      ascending = IsStrictlySortedBy-dedup nat_list_cmp_total texts_ties sorted in_order;
      there = λ x has. there x (Contains-permutation sorted names x (IsPermutation-sym names sorted permuted) (Contains-from_dedup (pointwise nat_eq) sorted x has));
      all = λ x is_there. Contains-dedup nat_list_eq_equiv (λ a b same. (same_name-Decides a b).0 same) sorted x (Contains-permutation names sorted x permuted (all x is_there));
    })

pub absent_found : (x : Found) → value_of x ≡ Absent → x ≡ found.Absent
absent_found found.Absent e = refl
absent_found found.Root e = let n : Folder root_meta ≡ Absent = e in cc
absent_found (found.Folder m) e = let n : Folder m.now ≡ Absent = e in cc
absent_found (found.Link m t) e = let n : Link m.now t.now ≡ Absent = e in cc
absent_found (found.File k) e = let n : File k ≡ Absent = e in cc
