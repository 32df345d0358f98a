-- What stands below what, on a disk that is a tree.
use Rattle.std.proofs.Common.{◌≡◌, ◌≢◌, true, false, sym, ◌∙◌, ap, subst, [], ◌∷◌, ◌++◌, append-nil, append_assoc}
use Rattle.ost_types.specs.declared.meta.Meta.{Meta}
use Rattle.ost_types.specs.Path.{Name, Path, under}
use Rattle.fs_trait.specs.declared.types.Value.{Value}
use Rattle.fs_trait.specs.declared.types.Value.TheVariants.{Absent, Folder, Link, File}
use Rattle.fs_trait.specs.View.{Disk}
use Rattle.fs_trait.specs.Image.{IsTree, is_folder}
use Rattle.fs_trait.specs.Seen.{Seen, Vacant, Directory, Symlink, Leaf, seen, shows, IsDirectory, NotDirectory}
use Rattle.fs_trait.proofs.Facts.{no_folder_shown}
use Rattle.fs_trait.proofs.Ways.{folder_of}
use Rattle.checkout.specs.CheckoutFolder.{IsLeaf}
use Rattle.checkout.proofs.RemoveBelow.{absent_below}

-- ---- by what is shown

pub leaf_no_folder : (s : Seen) → IsLeaf s → NotDirectory s
leaf_no_folder Vacant leaf = absurd leaf
leaf_no_folder (Directory m) leaf = absurd leaf
leaf_no_folder (Symlink m t) leaf = tt
leaf_no_folder (Leaf n m b) leaf = tt

pub vacant_no_folder : (s : Seen) → s ≡ Vacant → NotDirectory s
vacant_no_folder s is = subst NotDirectory (sym is) tt

pub not_both : (s : Seen) → NotDirectory s → IsDirectory s → ⊥
not_both Vacant no_ is = is
not_both (Directory m) no_ is = no_
not_both (Symlink m t) no_ is = is
not_both (Leaf n m b) no_ is = is

pub leaf_shown : (s : Seen) → IsLeaf s → s ≢ Vacant
leaf_shown s leaf is = subst IsLeaf is leaf

pub directory_shown : (s : Seen) → IsDirectory s → s ≢ Vacant
directory_shown s folder is = subst IsDirectory is folder

pub is_directory : (s : Seen) (m : Meta) → s ≡ Directory m → IsDirectory s
is_directory s m is = subst IsDirectory (sym is) tt

folder_value : (d : Disk) (z : Value) → is_folder z ≡ true → IsDirectory (seen d z)
folder_value d (Folder m) is = tt
folder_value d Absent is = let n : false ≡ true = is in cc
folder_value d (Link m t) is = let n : false ≡ true = is in cc
folder_value d (File k) is = let n : false ≡ true = is in cc

-- ---- by where it stands

module _ (d : Disk) (tree : IsTree d) where
  pub below_absent : (q rest : Path) → d.at q ≡ Absent → shows d (q ++ rest) ≡ Vacant
  below_absent q rest none = ap (seen d) (absent_below d tree q rest none)

  -- nothing stands below what is no folder
  pub below_leaf : (q : Path) (x : Name) (rest : Path) → NotDirectory (shows d q) → shows d (q ++ x ∷ rest) ≡ Vacant
  below_leaf q x rest leaf = ap (shows d) (sym (append_assoc q (x ∷ []) rest)) ∙ below_absent (under q x) rest (tree.folders q x (no_folder_shown d q leaf))

  -- what stands in a folder stands there
  pub directory_of : (f : Path) (x : Name) → d.at (under f x) ≢ Absent → IsDirectory (shows d f)
  directory_of f x there = folder_value d (d.at f) (folder_of d tree f x there)

-- the paths of a folder on the disk
pub at_root : (at : Path) → at ++ [] ≡ at
at_root at = append-nil at

pub at_below : (at p rest : Path) → at ++ (p ++ rest) ≡ (at ++ p) ++ rest
at_below at p rest = sym (append_assoc at p rest)
