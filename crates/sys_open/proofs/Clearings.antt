-- What is left where a folder is cleared.
use Rattle.std.proofs.Common.{◌≡◌, ◌≢◌, ◌⊎◌, inl, inr, ⊎_elim, ◌<◌, ◌≤◌, ◌+◌, ℕ, Bool, true, false, refl, sym, ◌∙◌, ap, subst, arith, List, [], length, get_or, Option, Some, None, Result, Err}
use Rattle.std.specs.Prelude.{Contains}
use Rattle.std.proofs.lemmas.List.{get_or-map, get_or_default, length-map}
use Rattle.ost_types.specs.Path.{Name, Path, is_below, under}
use Rattle.ost_types.proofs.Paths.{is_below-self}
use Rattle.fs_trait.specs.declared.types.Value.{Value}
use Rattle.fs_trait.specs.declared.types.Value.TheVariants.{Absent, Folder, Link, File}
use Rattle.fs_trait.specs.declared.types.FsErr.{FsErr}
use Rattle.fs_trait.specs.View.{Disk, View, named}
use Rattle.fs_trait.specs.Image.{is_folder, IsTree, Told}
use Rattle.fs_trait.specs.Effect.{no_leaf, no_rmdir, unless_leaf, HasNames, IsListing, Removed}
use Rattle.fs_trait.specs.Seen.{Seen, Vacant, seen, shows, IsDirectory}
use Rattle.fs_trait.specs.Change.{Writes}
use Rattle.fs_trait.proofs.Ways.{way-there}
use Rattle.fs_trait.proofs.Refusals.{no_folder-there}
use Rattle.fs_trait.proofs.Kept.{weaker}
use Rattle.fs_trait.proofs.Effects.{named-writes, shows_named}
use Rattle.fs_trait.proofs.Facts.{vacant_absent, under-not_below}
use Rattle.fs_trait.proofs.Claims.{folder_shows}
use Rattle.repo_layout.specs.Refs.{is_leaf}
use Rattle.sys_open.specs.declared.fault.OpenFault.{OpenFault}
use Rattle.sys_open.specs.declared.fault.OpenFault.TheVariants as fault
use Rattle.sys_open.specs.declared.fault.Why.{Why}
use Rattle.sys_open.specs.Faults.{IsInterruption}
use Rattle.layout_rules.specs.Checks.{IsReached}
use Rattle.sys_open.specs.Walk.{IsSoBelow, Looked, paths_in}
use Rattle.sys_open.specs.Changes.{Clears, ClearsInside, IsEmptied}
use Rattle.sys_open.proofs.Walks.{absent_or_not, below_under}
use Rattle.sys_open.proofs.Working.{changed_left}

-- a name that goes
pub clears_name : (v : View) (p : Path) → Writes (Clears p) v (named p Absent v)
clears_name v p = weaker _ (Clears p) v (named p Absent v) (λ q s h. (subst (λ r. is_below p r ≡ true) (sym h.0) (is_below-self p), h.1)) (named-writes v p Absent)

pub cleared_name : (v : View) (p : Path) (view : Option View) → view ≡ Some (named p Absent v) → Told view (λ w. shows w.now p ≡ Vacant)
cleared_name v p view told = (named p Absent v, told, shows_named v p Absent)

leaf_goes : (z : Value) → is_leaf z ≡ true → unless_leaf z ≡ None
leaf_goes Absent e = let n : false ≡ true = e in cc
leaf_goes (Folder m) e = let n : false ≡ true = e in cc
leaf_goes (Link m t) e = refl
leaf_goes (File n) e = refl

pub no_leaf-free : (d : Disk) → IsTree d → (p : Path) → is_leaf (d.at p) ≡ true → no_leaf p d ≡ None
unfolding no_leaf
no_leaf-free d tree p leaf = rw (way-there d tree p (λ none. let e : false ≡ true = sym (ap is_leaf none) ∙ leaf in cc)) (leaf_goes (d.at p) leaf)

pub removed_left : {T : Type 0} (p : Path) (v : View) (r : Result T FsErr) (view : Option View) → Removed p v r view → Told view (λ w. Writes (Clears p) v w)
removed_left p v r view removed = changed_left (Clears p) (no_rmdir removed.0 p v.now) v (named p Absent v) r view (clears_name v p) removed.2

pub no_rmdir-free : (d : Disk) → IsTree d → (p : Path) → IsEmptied d p → (b : Bool) → HasNames b p d → no_rmdir b p d ≡ None
unfolding no_rmdir
no_rmdir-free d tree p emptied true (inl root) = absurd (emptied.below_root root)
no_rmdir-free d tree p emptied true (inr there) = absurd (there.1 (emptied.empty there.0))
no_rmdir-free d tree p emptied false names = rw (no_folder-there d tree p emptied.folder) refl

-- a look at what can be removed fails for another reason
pub looked_fails : (T So : Type 0) (why : Why) (at : Path) (f : OpenFault) → Looked {T = T} So why at (Err f) → So → IsInterruption f
looked_fails T So why at fault.Disk looked so = tt
looked_fails T So why at fault.NoMemory looked so = tt
looked_fails T So why at (fault.Damaged p y) looked so = absurd (looked.2 so)
looked_fails T So why at (fault.Outside p) looked so = absurd looked

pub clears_below : (at : Path) (x : Name) (p : Path) (s : Seen) → Clears (under at x) p s → Clears at p s
clears_below at x p s clears = ((below_under at x p clears.0).2, clears.1)

pub inside_below : (at p : Path) (s : Seen) → ClearsInside at p s → Clears at p s
inside_below at p s inside = clears_below at inside.0 p s inside.1

directory : (d : Disk) (z : Value) → is_folder z ≡ true → IsDirectory (seen d z)
directory d (Folder m) e = tt
directory d Absent e = let n : false ≡ true = e in cc
directory d (Link m t) e = let n : false ≡ true = e in cc
directory d (File k) e = let n : false ≡ true = e in cc

pub folder_still : (d e : Disk) (p : Path) → shows e p ≡ shows d p → is_folder (d.at p) ≡ true → is_folder (e.at p) ≡ true
folder_still d e p same folder = folder_shows e p (subst IsDirectory (sym same) (directory d (d.at p) folder))

module _ (at : Path) (paths : List Path) (names : List Name) (are : paths ≡ paths_in at names) where
  pub inside_at : (i : ℕ) (x : Path) → i < length paths → x ≡ get_or paths i x → (y : Name) × (x ≡ under at y)
  inside_at i x less is =
      let count : length paths ≡ length names = ap length are ∙ length-map names (under at) in
      (get_or names i [], is ∙ get_or_default paths i x [] less ∙ ap (λ l. get_or l i []) are ∙ get_or-map (under at) names i [] [] (omega (arith, less, count)))

  pub clears_path : (i : ℕ) (x : Path) → i < length paths → x ≡ get_or paths i x → (p : Path) (s : Seen) → Clears x p s → ClearsInside at p s
  clears_path i x less is p s clears = let y = inside_at i x less is in (y.0, subst (λ q. Clears q p s) y.1 clears)

  module _ (v u : View) (writes : Writes (ClearsInside at) v u) where
    absent_still : (p : Path) → v.now.at p ≡ Absent → u.now.at p ≡ Absent
    absent_still p none = vacant_absent u.now p (⊎_elim (λ same. same ∙ ap (seen v.now) none) (λ wrote. wrote.1.1) (writes.now p))

    -- what can be removed still can
    pub reached_still : IsSoBelow (IsReached v.now) at → (i : ℕ) (x : Path) → i < length paths → x ≡ get_or paths i x → IsSoBelow (IsReached u.now) x
    reached_still reached i x less is q below n there =
        let y = inside_at i x less is in
        reached q (below_under at y.0 q (subst (λ r. is_below r q ≡ true) y.1 below)).2 n (λ none. there (absent_still (under q n) none))

    pub emptied : IsListing v.now at names → is_folder (v.now.at at) ≡ true → at ≢ [] → (i : ℕ) → length paths ≤ i → ((k : ℕ) → k < i → shows u.now (get_or paths k []) ≡ Vacant) → IsEmptied u.now at
    emptied listing folder below_root i le gone = record {
      folder = folder_still v.now u.now at (⊎_elim (λ same. same) (λ wrote. absurd (let n : false ≡ true = sym (under-not_below at wrote.0) ∙ wrote.1.0 in cc)) (writes.now at)) folder;
      below_root = below_root;
      empty = λ x. ⊎_elim (λ none. absent_still (under at x) none) (λ there. listed x (listing.all x there)) (absent_or_not (v.now.at (under at x)));
    }
      where
        listed : (x : Name) → Contains names x → u.now.at (under at x) ≡ Absent
        listed x (k, less, is) =
            let count : length paths ≡ length names = ap length are ∙ length-map names (under at) in
            let path : get_or paths k [] ≡ under at x = ap (λ l. get_or l k []) are ∙ get_or-map (under at) names k x [] less ∙ ap (under at) is in
            vacant_absent u.now (under at x) (subst (λ q. shows u.now q ≡ Vacant) path (gone k (omega (arith, less, le, count))))

-- a path that was cleared stays so, and one more is
pub more_cleared : (paths : List Path) (i : ℕ) (x : Path) (u w : View) → i < length paths → x ≡ get_or paths i x → Writes (Clears x) u w → shows w.now x ≡ Vacant
    → ((k : ℕ) → k < i → shows u.now (get_or paths k []) ≡ Vacant) → (k : ℕ) → k < i + 1 → shows w.now (get_or paths k []) ≡ Vacant
more_cleared paths i x u w less is writes here before k within = by (order k i within)
  where
    order : (k i : ℕ) → k < i + 1 → (k < i) ⊎ (k ≡ i)
    order k i within = grind (arith, within)

    by : (k < i) ⊎ (k ≡ i) → shows w.now (get_or paths k []) ≡ Vacant
    by (inl earlier) = ⊎_elim (λ same. same ∙ before k earlier) (λ wrote. wrote.1) (writes.now (get_or paths k []))
    by (inr same) = ap (λ j. shows w.now (get_or paths j [])) same ∙ ap (shows w.now) (sym (is ∙ get_or_default paths i x [] less)) ∙ here
