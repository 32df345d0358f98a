-- The refs at a path and below it.
use Rattle.std.proofs.Common.{◌≡◌, ◌≢◌, ◌⊎◌, inl, inr, ⊎_elim, ◌<◌, ◌≤◌, ◌+◌, ℕ, Bool, true, false, refl, sym, ◌∙◌, ap, subst, arith, List, [], length, get_or, Some, None, Result, Ok, Err}
use Rattle.std.specs.Prelude.{OnOk, IsSome}
use Rattle.std.specs.Bool.{Decides}
use Rattle.std.specs.BTreeMap.{get, Updates}
use Rattle.std.specs.Cmp.Lexicographic.{slice_cmp, texts_ties}
use Rattle.std.specs.Ordering.{nat_cmp, is_eq}
use Rattle.std.specs.declared.cmp.Ordering.{Ordering}
use Rattle.ost_types.specs.Path.{Name, Path, same_name}
use Rattle.ost_types.proofs.Paths.{same_name-Decides, is_below-self}
use Rattle.fs_trait.specs.declared.types.Value.{Value}
use Rattle.fs_trait.specs.declared.types.Value.TheVariants.{Absent, Folder, Link, File}
use Rattle.fs_trait.specs.View.{Disk}
use Rattle.fs_trait.specs.Image.{is_folder, IsTree, reads, bytes_of}
use Rattle.fs_trait.specs.Effect.{IsListing}
use Rattle.repo_layout.specs.Paths.{ref_path}
use Rattle.repo_layout.specs.Refs.{Names, ShowsCommit, ShowsNoCommit, is_leaf}
use Rattle.std.proofs.lemmas.List.{get_or_default}
use Rattle.sys_open.specs.declared.fault.OpenFault.{OpenFault}
use Rattle.sys_open.specs.declared.fault.OpenFault.TheVariants as fault
use Rattle.sys_open.specs.declared.fault.Why.{Why}
use Rattle.sys_open.specs.declared.fault.Why.TheVariants.{BadRef}
use Rattle.layout_rules.specs.Checks.{HoldsRefs, IsRefAt, IsReached}
use Rattle.sys_open.specs.Walk.{IsSoBelow, IsFirstBelow, Looked, Walked, paths_in}
use Rattle.sys_open.specs.Gathered.{Refs, Has, HasAt, HasLeafAt, AreOf, HasAllBelow, Grows}
use Rattle.sys_open.proofs.Walks.{leaf_walk, first_here}
use Rattle.sys_open.proofs.ReachedPlaces.{leaf_no_folder, reached_vacant, walked_all}

abbrev order : List ℕ → List ℕ → Ordering
order = slice_cmp nat_cmp

module _ (d : Disk) (tree : IsTree d) where
  pub holds_vacant : (q : Path) → d.at q ≡ Absent → HoldsRefs d q
  holds_vacant q none = record {
    leaf = λ leaf. let n : false ≡ true = sym (ap is_leaf none) ∙ leaf in cc;
    reached = reached_vacant d tree q none;
  }

  leaf_reached : (at : Path) → is_leaf (d.at at) ≡ true → IsReached d at
  leaf_reached at leaf x there = absurd (there (tree.folders at x (leaf_no_folder (d.at at) leaf)))

  pub holds_leaf : (at : Path) → is_leaf (d.at at) ≡ true → IsRefAt d at → IsSoBelow (HoldsRefs d) at
  holds_leaf at leaf here = leaf_walk d tree (HoldsRefs d) holds_vacant at (leaf_no_folder (d.at at) leaf) (record { leaf = λ is. here; reached = leaf_reached at leaf })

  pub holds_nothing : (at : Path) → d.at at ≡ Absent → IsSoBelow (HoldsRefs d) at
  holds_nothing at none = leaf_walk d tree (HoldsRefs d) holds_vacant at (ap is_folder none) (holds_vacant at none)

  pub holds_folder : (at : Path) → is_folder (d.at at) ≡ true → IsReached d at → HoldsRefs d at
  holds_folder at folder reached = record { leaf = λ leaf. let n : false ≡ true = sym (leaf_no_folder (d.at at) leaf) ∙ folder in cc; reached = reached }

  leaf_none : (refs : Refs) (q : Path) → d.at q ≡ Absent → HasLeafAt d refs q
  leaf_none refs q none leaf = let n : false ≡ true = sym (ap is_leaf none) ∙ leaf in cc

  pub none_below : (at : Path) (refs : Refs) → d.at at ≡ Absent → HasAllBelow d at refs
  none_below at refs none = leaf_walk d tree (HasLeafAt d refs) (leaf_none refs) at (ap is_folder none) (leaf_none refs at none)

  pub one_below : (at : Path) (refs : Refs) → is_leaf (d.at at) ≡ true → HasAt at refs → HasAllBelow d at refs
  one_below at refs here has = leaf_walk d tree (HasLeafAt d refs) (leaf_none refs) at (leaf_no_folder (d.at at) here) (λ leaf. has)

  pub folder_below : (at : Path) (refs : Refs) (paths : List Path) (names : List Name) → paths ≡ paths_in at names → IsListing d at names → is_folder (d.at at) ≡ true → (i : ℕ) → length paths ≤ i → ((k : ℕ) → k < i → HasAllBelow d (get_or paths k []) refs) → HasAllBelow d at refs
  folder_below at refs paths names are listing folder i le each =
      walked_all d tree (HasLeafAt d refs) (leaf_none refs) BadRef at paths names are listing (λ leaf. let n : false ≡ true = sym (leaf_no_folder (d.at at) leaf) ∙ folder in cc) i each le

pub more_below : (d : Disk) (m n : Refs) (paths : List Path) (i : ℕ) (x : Path) → i < length paths → x ≡ get_or paths i x → Grows m n → HasAllBelow d x n
    → ((k : ℕ) → k < i → HasAllBelow d (get_or paths k []) m) → (k : ℕ) → k < i + 1 → HasAllBelow d (get_or paths k []) n
more_below d m n paths i x less is grows here before k within = by (order k i within)
  where
    order : (k i : ℕ) → k < i + 1 → (k < i) ⊎ (k ≡ i)
    order k i within = grind (arith, within)

    by : (k < i) ⊎ (k ≡ i) → HasAllBelow d (get_or paths k []) n
    by (inl earlier) = λ q below leaf name e. grows name (before k earlier q below leaf name e)
    by (inr same) = subst (λ p. HasAllBelow d p n) (is ∙ get_or_default paths i x [] less ∙ ap (λ j. get_or paths j []) (sym same)) here

pub more_so : (So : Path → Type 0) (paths : List Path) (i : ℕ) (x : Path) → i < length paths → x ≡ get_or paths i x → IsSoBelow So x → ((k : ℕ) → k < i → IsSoBelow So (get_or paths k [])) → (k : ℕ) → k < i + 1 → IsSoBelow So (get_or paths k [])
more_so So paths i x less is here before k within = by (order k i within)
  where
    order : (k i : ℕ) → k < i + 1 → (k < i) ⊎ (k ≡ i)
    order k i within = grind (arith, within)

    by : (k < i) ⊎ (k ≡ i) → IsSoBelow So (get_or paths k [])
    by (inl earlier) = before k earlier
    by (inr same) = subst (IsSoBelow So) (is ∙ get_or_default paths i x [] less ∙ ap (λ j. get_or paths j []) (sym same)) here

pub wrong_leaf : (d : Disk) (p : Path) → ShowsNoCommit d p → HoldsRefs d p → ⊥
wrong_leaf d p wrong holds = let at = holds.leaf wrong.leaf in wrong.none at.3.0 at.3.1

-- a path of a ref and its commit, taken in
module _ (m n : Refs) (name commit : List ℕ) (updates : Updates order m n name (Some commit)) where
  at_name : get order n name ≡ Some commit
  at_name = updates.1

  apart : (other : List ℕ) → name ≢ other → get order n other ≡ get order m other
  apart other differs = updates.2 other (no_ (is_eq (order name other)) refl)
    where
      no_ : (b : Bool) → is_eq (order name other) ≡ b → is_eq (order name other) ≡ false
      no_ false e = e
      no_ true e = absurd (differs ((same_name-Decides name other).0 (texts_ties name other ∙ e)))

  same_or_not : (other : List ℕ) → (name ≡ other) ⊎ (name ≢ other)
  same_or_not other = by (same_name name other) (same_name-Decides name other)
    where
      by : (b : Bool) → Decides b (name ≡ other) → (name ≡ other) ⊎ (name ≢ other)
      by true d = inl (d.0 refl)
      by false d = inr (λ e. let f : false ≡ true = d.1 e in cc)

  pub entered_grows : Grows m n
  entered_grows other has = ⊎_elim
      (λ e. subst (Has n) e (subst IsSome (sym at_name) refl))
      (λ differs. subst IsSome (sym (apart other differs)) has)
      (same_or_not other)

  pub entered_has : (at : Path) → ref_path name ≡ at → ((a b : List ℕ) → ref_path a ≡ ref_path b → a ≡ b) → HasAt at n
  entered_has at is one other e = subst (Has n) (one name other (is ∙ sym e)) (subst IsSome (sym at_name) refl)

  pub entered_of : (d : Disk) → Names d name commit → AreOf d m → AreOf d n
  entered_of d names of other c is = ⊎_elim
      (λ e. let s : Some commit ≡ Some c = sym at_name ∙ ap (get order n) e ∙ is in let t : commit ≡ c = cc in subst (λ x. Names d x c) e (subst (Names d name) t names))
      (λ differs. of other c (sym (apart other differs) ∙ is))
      (same_or_not other)

pub grows_refl : (m : Refs) → Grows m m
grows_refl m name has = has

pub grows_trans : (a b c : Refs) → Grows a b → Grows b c → Grows a c
grows_trans a b c p q name has = q name (p name has)

leaf_of : (d : Disk) (z : Value) (b : List ℕ) → bytes_of d z ≡ Some b → is_leaf z ≡ true
leaf_of d (File n) b e = refl
leaf_of d Absent b e = let n : None ≡ Some b = e in cc
leaf_of d (Folder m) b e = let n : None ≡ Some b = e in cc
leaf_of d (Link m t) b e = let n : None ≡ Some b = e in cc

pub commit_leaf : (d : Disk) (p : Path) (commit : List ℕ) → ShowsCommit d p commit → is_leaf (d.at p) ≡ true
unfolding reads
commit_leaf d p commit shown = leaf_of d (d.at p) _ shown.file

-- damage told where a leaf is no ref file
pub damaged_walk : (T : Type 0) (d : Disk) (at : Path) (f : OpenFault) → (f ≡ fault.Damaged at BadRef) ⊎ (f ≡ fault.NoMemory) → (HoldsRefs d at → ⊥) → Walked {T = T} (HoldsRefs d) BadRef at (Err f)
damaged_walk T d at f (inl e) wrong = rw e (refl, first_here (HoldsRefs d) at wrong (is_below-self at))
damaged_walk T d at f (inr e) wrong = rw e tt

pub damaged_look : (T So : Type 0) (at : Path) (f : OpenFault) → (f ≡ fault.Damaged at BadRef) ⊎ (f ≡ fault.NoMemory) → (So → ⊥) → Looked {T = T} So BadRef at (Err f)
damaged_look T So at f (inl e) wrong = rw e (refl, refl, wrong)
damaged_look T So at f (inr e) wrong = rw e tt

-- damage that was told of a file with a commit
pub entered_walk : (T U : Type 0) (d : Disk) (at : Path) (commit : List ℕ) (f : OpenFault) → ShowsCommit d at commit → Looked {T = U} (IsRefAt d at) BadRef at (Err f) → Walked {T = T} (HoldsRefs d) BadRef at (Err f)
entered_walk T U d at commit fault.Disk shown looked = tt
entered_walk T U d at commit fault.NoMemory shown looked = tt
entered_walk T U d at commit (fault.Damaged p y) shown looked = (looked.0, subst (λ q. IsFirstBelow (HoldsRefs d) at q) (sym looked.1) (first_here (HoldsRefs d) at (λ holds. looked.2 (holds.leaf (commit_leaf d at commit shown))) (is_below-self at)))
entered_walk T U d at commit (fault.Outside p) shown looked = looked

pub on_ok_has : (T : Type 0) (d : Disk) → IsTree d → (at : Path) (refs : Refs) (r : Result T OpenFault) → is_leaf (d.at at) ≡ true → OnOk r (HasAt at refs) → OnOk r (HasAllBelow d at refs)
on_ok_has T d tree at refs (Ok x) leaf has = one_below d tree at refs leaf has
on_ok_has T d tree at refs (Err e) leaf has = tt

pub on_ok_then : (T A B C : Type 0) (r : Result T OpenFault) → (A → B) → OnOk r (B → C) → OnOk r (A → C)
on_ok_then T A B C (Ok x) f g = λ a. g (f a)
on_ok_then T A B C (Err e) f g = tt

pub on_ok_grows : (T : Type 0) (a b c : Refs) (r : Result T OpenFault) → Grows a b → OnOk r (Grows b c) → OnOk r (Grows a c)
on_ok_grows T a b c (Ok x) p q = grows_trans a b c p q
on_ok_grows T a b c (Err e) p q = tt

pub still_walked : (T U : Type 0) (So : Path → Type 0) (why : Why) (at : Path) (f : OpenFault) → Walked {T = T} So why at (Err f) → Walked {T = U} So why at (Err f)
still_walked T U So why at fault.Disk walked = tt
still_walked T U So why at fault.NoMemory walked = tt
still_walked T U So why at (fault.Damaged p y) walked = walked
still_walked T U So why at (fault.Outside p) walked = walked
