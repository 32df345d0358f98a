-- What the answers of the file system say of a file and of a folder, where something else may stand in their place.
use Rattle.std.proofs.Common.{◌≡◌, ◌≢◌, ◌⊎◌, inl, inr, ⊎_elim, ℕ, true, false, refl, sym, ◌∙◌, ap, subst, List, [], ◌∷◌, ◌++◌, reverse, length, ◌<◌, arith, Option, Some, None}
use Rattle.std.specs.Prelude.{Contains}
use Rattle.std.specs.Cmp.Lexicographic.{slice_cmp}
use Rattle.std.specs.Ordering.{nat_cmp}
use Rattle.std.specs.declared.cmp.Ordering.TheVariants.{Less, Equal}
use Rattle.std.specs.List.{AllByRecursion}
use Rattle.std.specs.List.Sorted.{IsStrictlySortedBy}
use Rattle.std.proofs.lemmas.Cmp.{nat_list_cmp_total, tied_itself}
use Rattle.std.proofs.lemmas.List.Elements.{All-from_recursion, Contains-append_cases}
use Rattle.ost_types.specs.Path.{Name, Path, under}
use Rattle.fs_trait.specs.declared.types.Value.{Value}
use Rattle.fs_trait.specs.declared.types.Value.TheVariants.{Absent, Folder, Link, File}
use Rattle.fs_trait.specs.declared.types.FsErr.{FsErr}
use Rattle.fs_trait.specs.View.{Disk}
use Rattle.fs_trait.specs.Image.{IsTree, is_folder, reads}
use Rattle.fs_trait.specs.Effect.{IsListing, inode_of, no_file, no_folder, or_else, unless_file, way}
use Rattle.fs_trait.proofs.Images.{folder_or_not}
use Rattle.fs_trait.proofs.Refusals.{no_file-there, no_folder-there}
use Rattle.checkout.proofs.RemoveLists.{reverse-contains, reverse-first}
use Rattle.boot_compare.specs.Comparing.{AreApart, IsListed}
use Rattle.boot_compare.proofs.Matching.{cases, first, later, nothing}

-- ---- a file

later_none : (a b : Option FsErr) → or_else a b ≡ None → b ≡ None
later_none None b e = e
later_none (Some x) b e = let n : Some x ≡ None = e in cc

pub read_some : (d : Disk) (p : Path) (b : List ℕ) → no_file p d ≡ None → b ≡ d.bytes (inode_of (d.at p)) → Some b ≡ reads d p
unfolding no_file reads
read_some d p b free is = by (d.at p) refl (later_none (way d p) (unless_file (d.at p)) free)
  where
    by : (z : Value) → d.at p ≡ z → unless_file (d.at p) ≡ None → Some b ≡ reads d p
    by (File n) at none = rw at (ap Some (is ∙ ap (λ x. d.bytes (inode_of x)) at))
    by Absent at none = let n : unless_file Absent ≡ None = subst (λ x. unless_file x ≡ None) at none in cc
    by (Folder m) at none = let n : unless_file (Folder m) ≡ None = subst (λ x. unless_file x ≡ None) at none in cc
    by (Link m t) at none = let n : unless_file (Link m t) ≡ None = subst (λ x. unless_file x ≡ None) at none in cc

pub read_none : (d : Disk) (p : Path) (e : FsErr) → IsTree d → no_file p d ≡ Some e → None ≡ reads d p
unfolding reads
read_none d p e tree refused = by (d.at p) refl
  where
    by : (z : Value) → d.at p ≡ z → None ≡ reads d p
    by (File n) at = let no_ : None ≡ Some e = sym (no_file-there d tree p n at) ∙ refused in cc
    by Absent at = rw at refl
    by (Folder m) at = rw at refl
    by (Link m t) at = rw at refl

-- what has bytes isn't absent
pub read_there : (d : Disk) (p : Path) (b : List ℕ) → reads d p ≡ Some b → d.at p ≢ Absent
unfolding reads
read_there d p b held absent = let n : None ≡ Some b = sym (read_absent absent) ∙ held in cc
  where
    read_absent : d.at p ≡ Absent → reads d p ≡ None
    read_absent at = rw at refl

-- ---- a folder

none_below : (x : Name) (xs : List Name) → AllByRecursion (λ y. slice_cmp nat_cmp x y ≡ Less) xs → Contains xs x → ⊥
none_below x xs each has =
    let less : slice_cmp nat_cmp x x ≡ Less = subst (λ y. slice_cmp nat_cmp x y ≡ Less) has.2 (All-from_recursion (λ y. slice_cmp nat_cmp x y ≡ Less) xs each has.0 x has.1) in
    let n : Equal ≡ Less = sym (tied_itself nat_list_cmp_total x) ∙ less in
    cc

only_one : (x y : Name) → Contains (x ∷ []) y → y ≡ x
only_one x y c = ⊎_elim (λ e. sym e) (λ none. absurd (nothing y none)) (cases x y [] c)

apart_last : (xs : List Name) (x : Name) → AreApart xs → (Contains xs x → ⊥) → AreApart (xs ++ x ∷ [])
apart_last [] x apart none = ((λ c. omega (arith, c.1)), tt)
apart_last (y ∷ xs) x apart none = (
  (λ c. ⊎_elim apart.0 (λ e. none (subst (Contains (y ∷ xs)) (only_one x y e) (first y xs))) (Contains-append_cases xs (x ∷ []) y c)),
  apart_last xs x apart.1 (λ c. none (later y x xs c)),
)

sorted_apart : (names : List Name) → IsStrictlySortedBy (slice_cmp nat_cmp) names → AreApart (reverse names)
unfolding IsStrictlySortedBy
sorted_apart [] sorted = tt
sorted_apart (x ∷ names) sorted =
    subst AreApart (sym (reverse-first x names)) (apart_last (reverse names) x (sorted_apart names sorted.1) (λ c. none_below x names sorted.0 (reverse-contains names x c)))

pub listing_listed : (d : Disk) (at : Path) (names : List Name) → IsListing d at names → IsListed d at names
listing_listed d at names listing = record { apart = sorted_apart names listing.ascending; all = listing.all }
