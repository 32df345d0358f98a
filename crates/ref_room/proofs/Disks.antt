-- What leaves and folders on a disk say of the paths above and below them.
use Rattle.std.proofs.Common.{◌≡◌, ◌≢◌, ℕ, true, false, refl, sym, ◌∙◌, ap, subst, List, [], ◌∷◌, ◌++◌, append_assoc}
use Rattle.std.specs.declared.cmp.Ordering.{Ordering}
use Rattle.std.specs.declared.cmp.Ordering.TheVariants.{Less, Equal, Greater}
use Rattle.std.specs.Ordering.{nat_cmp, ordering_reverse}
use Rattle.std.specs.Cmp.Lexicographic.{slice_cmp}
use Rattle.std.proofs.lemmas.Cmp.{nat_list_cmp_total}
use Rattle.ost_types.specs.Path.{Name, Path, under}
use Rattle.fs_trait.specs.declared.types.Value.{Value}
use Rattle.fs_trait.specs.declared.types.Value.TheVariants.{Absent, Folder, Link, File}
use Rattle.fs_trait.specs.View.{Disk, View}
use Rattle.fs_trait.specs.Image.{is_folder, IsTree}
use Rattle.fs_trait.specs.Seen.{Seen, seen, MayShow, IsDirectory}
use Rattle.repo_layout.specs.Refs.{is_leaf}
use Rattle.ref_room.specs.declared.stands.Stands.TheVariants as Stands
use Rattle.ref_room.specs.Stands.{stands}
use Rattle.ref_room.specs.Clearing.{IsEmpty}

pub leaf_no_folder : (z : Value) → is_leaf z ≡ true → is_folder z ≡ false
leaf_no_folder Absent e = let n : false ≡ true = e in cc
leaf_no_folder (Folder m) e = let n : false ≡ true = e in cc
leaf_no_folder (Link m l) e = refl
leaf_no_folder (File n) e = refl

pub leaf_there : (z : Value) → is_leaf z ≡ true → z ≢ Absent
leaf_there z e absent = let n : false ≡ true = sym (ap is_leaf absent) ∙ e in cc

-- a folder is no leaf
pub directory_no_leaf : (d : Disk) (z : Value) → IsDirectory (seen d z) → is_leaf z ≡ true → ⊥
directory_no_leaf d Absent is e = is
directory_no_leaf d (Folder m) is e = let n : false ≡ true = e in cc
directory_no_leaf d (Link m l) is e = is
directory_no_leaf d (File n) is e = is

-- what is shown after a sync of a folder's names is what was there
pub may_directory : (v : View) (z : Value) (s : Seen) → IsDirectory (seen v.now z) → MayShow v z s → IsDirectory s
may_directory v Absent s is shown = absurd is
may_directory v (Folder m) s is shown = subst IsDirectory (sym shown) tt
may_directory v (Link m l) s is shown = absurd is
may_directory v (File n) s is shown = absurd is

module _ (d : Disk) (tree : IsTree d) where
  -- below what is no folder there is nothing
  pub below_absent : (p : Path) (x : Name) (rest : Path) → is_folder (d.at p) ≡ false → d.at (p ++ x ∷ rest) ≡ Absent
  below_absent p x [] none = tree.folders p x none
  below_absent p x (y ∷ rest) none = subst (λ q. d.at q ≡ Absent) (append_assoc p (x ∷ []) (y ∷ rest)) (below_absent (under p x) y rest (ap is_folder (tree.folders p x none)))

  -- and below an empty folder neither
  pub below_empty : (p : Path) (x : Name) (rest : Path) → IsEmpty d p → d.at (p ++ x ∷ rest) ≡ Absent
  below_empty p x [] empty = empty x
  below_empty p x (y ∷ rest) empty = subst (λ q. d.at q ≡ Absent) (append_assoc p (x ∷ []) (y ∷ rest)) (below_absent (under p x) y rest (ap is_folder (empty x)))

not_less : (r : Ordering) → r ≡ ordering_reverse r → r ≢ Less
not_less Less e is = let n : Less ≡ Greater = e in cc
not_less Equal e is = let n : Equal ≡ Less = is in cc
not_less Greater e is = let n : Greater ≡ Less = is in cc

pub self_not_less : (a : List ℕ) → slice_cmp nat_cmp a a ≢ Less
self_not_less a = not_less (slice_cmp nat_cmp a a) (nat_list_cmp_total.antisymm a a)

-- what a look tells
pub looked_nothing : (z : Value) → Stands.Nothing ≡ stands z → z ≡ Absent
looked_nothing Absent e = refl
looked_nothing (Folder m) e = let n : Stands.Nothing ≡ Stands.Folder = e in cc
looked_nothing (Link m l) e = let n : Stands.Nothing ≡ Stands.Leaf = e in cc
looked_nothing (File n) e = let n : Stands.Nothing ≡ Stands.Leaf = e in cc

pub looked_folder : (d : Disk) (z : Value) → Stands.Folder ≡ stands z → IsDirectory (seen d z)
looked_folder d Absent e = let n : Stands.Folder ≡ Stands.Nothing = e in cc
looked_folder d (Folder m) e = tt
looked_folder d (Link m l) e = let n : Stands.Folder ≡ Stands.Leaf = e in cc
looked_folder d (File n) e = let n : Stands.Folder ≡ Stands.Leaf = e in cc

pub looked_leaf : (z : Value) → Stands.Leaf ≡ stands z → is_leaf z ≡ true
looked_leaf Absent e = let n : Stands.Leaf ≡ Stands.Nothing = e in cc
looked_leaf (Folder m) e = let n : Stands.Leaf ≡ Stands.Folder = e in cc
looked_leaf (Link m l) e = refl
looked_leaf (File n) e = refl
