-- What stands at paths of a disk: as `stat` tells it, and above and below one another.
use Rattle.std.proofs.Common.{◌≡◌, ◌≢◌, ◌↔◌, inl, inr, ⊎_elim, ℕ, Bool, true, false, refl, sym, ◌∙◌, ap, subst, arith, List, [], ◌∷◌, ◌++◌, Some, None, Result, Ok, Err, length}
use Rattle.std.proofs.lemmas.Bool.Decides.{Decides-eqb}
use Rattle.std.specs.Prelude.{IfOk, IsTrue}
use Rattle.ost_types.specs.declared.meta.Meta.{Meta}
use Rattle.ost_types.specs.declared.node.NodeName.{NodeName}
use Rattle.ost_types.specs.declared.node.NodeName.TheVariants as tree
use Rattle.ost_types.specs.Path.{Name, Path, under}
use Rattle.fs_trait.specs.declared.types.Value.{Value}
use Rattle.fs_trait.specs.declared.types.Value.TheVariants.{Absent, Folder, Link, File}
use Rattle.fs_trait.specs.declared.types.FsErr.{FsErr}
use Rattle.fs_trait.specs.declared.types.Node.TheVariants as node
use Rattle.fs_trait.specs.View.{Disk}
use Rattle.fs_trait.specs.Image.{IsTree, is_folder}
use Rattle.fs_trait.specs.Effect.{Answered, IsNode, OfNone, no_folder, one_inode}
use Rattle.fs_trait.specs.Seen.{Seen, Vacant, Directory, Symlink, Leaf, seen, shows, IsDirectory, NotDirectory}
use Rattle.fs_trait.proofs.Answering.{read_fails}
use Rattle.fs_trait.proofs.Claims.{folder_shows}
use Rattle.fs_trait.proofs.Facts.{no_folder_shown, vacant_absent}
use Rattle.fs_trait.proofs.Refusals.{no_folder-there}
use Rattle.fs_trait.proofs.Ways.{folder_of}
use Rattle.checkout.specs.CheckoutFolder.{IsLeaf, leaf_path}
use Rattle.checkout.proofs.RemoveBelow.{absent_below}
use Rattle.checkout_compare.specs.Compare.{IsEmptyFile, StandsAs}
use Rattle.checkout_compare.specs.Looking.{IsAs, IsLeafOf}

-- ---- by what is shown

pub directory_there : (s : Seen) → IsDirectory s → s ≢ Vacant
directory_there s folder is = subst IsDirectory is folder

pub leaf_there : (s : Seen) → IsLeaf s → s ≢ Vacant
leaf_there s leaf is = subst IsLeaf is leaf

pub is_directory : (s : Seen) (m : Meta) → s ≡ Directory m → IsDirectory s
is_directory s m is = subst IsDirectory (sym is) tt

pub leaf_no_folder : (s : Seen) → IsLeaf s → NotDirectory s
leaf_no_folder Vacant leaf = absurd leaf
leaf_no_folder (Directory m) leaf = absurd leaf
leaf_no_folder (Symlink m t) leaf = tt
leaf_no_folder (Leaf n m b) leaf = tt

pub leaf_or_folder : (s : Seen) → IsLeaf s → IsDirectory s → ⊥
leaf_or_folder Vacant leaf folder = folder
leaf_or_folder (Directory m) leaf folder = leaf
leaf_or_folder (Symlink m t) leaf folder = folder
leaf_or_folder (Leaf n m b) leaf folder = folder

pub empty_leaf : (m : Meta) (s : Seen) → IsEmptyFile m s → IsLeaf s
empty_leaf m Vacant empty = empty
empty_leaf m (Directory n) empty = empty
empty_leaf m (Symlink n t) empty = tt
empty_leaf m (Leaf k n b) empty = tt

pub leaf_of : (object s : Seen) → IsLeafOf object s → IsLeaf s
leaf_of object s (inl same) = same.0
leaf_of object s (inr both) = empty_leaf both.meta s both.first

-- ---- the node of a tree

pub as_stands : (d : Disk) (into p : Path) (n : NodeName) → IsAs d (into ++ p) n → StandsAs d into p (Some n)
as_stands d into p (tree.Folder m) is = is
as_stands d into p (tree.Leaf sum) is = is

pub stands_as : (d : Disk) (into p : Path) (n : NodeName) → StandsAs d into p (Some n) → IsAs d (into ++ p) n
stands_as d into p (tree.Folder m) is = is
stands_as d into p (tree.Leaf sum) is = is

pub leaf_as : (d : Disk) (at : Path) (n : NodeName) (sum : List ℕ) → n ≡ tree.Leaf sum → IsAs d at n → IsLeaf (shows d at)
leaf_as d at n sum is here = leaf_of (shows d (leaf_path sum)) (shows d at) (subst (IsAs d at) is here)

pub as_there : (d : Disk) (at : Path) (n : NodeName) → IsAs d at n → shows d at ≢ Vacant
as_there d at (tree.Folder m) is = directory_there (shows d at) (is_directory (shows d at) m is)
as_there d at (tree.Leaf sum) is = leaf_there (shows d at) (leaf_of (shows d (leaf_path sum)) (shows d at) is)

-- ---- above and below

module _ (d : Disk) (is_tree : IsTree d) where
  -- what stands below a path has something above it there
  pub there_above : (p rest : Path) → shows d (p ++ rest) ≢ Vacant → shows d p ≢ Vacant
  there_above p rest there none = there (ap (seen d) (absent_below d is_tree p rest (vacant_absent d p none)))

  -- nothing is in what is no folder
  pub nothing_in : (f : Path) (x : Name) → NotDirectory (shows d f) → shows d (under f x) ≡ Vacant
  nothing_in f x leaf = ap (seen d) (is_tree.folders f x (no_folder_shown d f leaf))

  folder_value : (z : Value) → is_folder z ≡ true → IsDirectory (seen d z)
  folder_value (Folder m) is = tt
  folder_value Absent is = let n : false ≡ true = is in cc
  folder_value (Link m t) is = let n : false ≡ true = is in cc
  folder_value (File k) is = let n : false ≡ true = is in cc

  pub folder_above : (f : Path) (x : Name) → shows d (under f x) ≢ Vacant → IsDirectory (shows d f)
  folder_above f x there = folder_value (d.at f) (folder_of d is_tree f x (λ none. there (ap (seen d) none)))

-- ---- as the file system tells it

-- a link is its object where that is one with these attributes and this target
link_object : (d : Disk) (z y : Value) (m : Meta) (t : List ℕ) → IsNode d z (Some (node.Link m t)) → (b : Bool) → IsTrue b ↔ (seen d y ≡ Symlink m t) → IsTrue b ↔ IsLeafOf (seen d y) (seen d z)
link_object d z y m t is b same =
    let here = by z is in (
      λ yes. inl (subst IsLeaf (sym here) tt, here ∙ sym (same.0 yes)),
      λ leaf. ⊎_elim (λ object. same.1 (sym object.1 ∙ here)) (λ both. absurd (subst (IsEmptyFile both.meta) here both.first)) leaf,
    )
  where
    by : (z : Value) → IsNode d z (Some (node.Link m t)) → seen d z ≡ Symlink m t
    by Absent is = let n : Some (node.Link m t) ≡ None = is in cc
    by (Folder k) is = let n : Some (node.Link m t) ≡ Some (node.Folder k) = is in cc
    by (Link k u) is = let n : Some (node.Link m t) ≡ Some (node.Link k u) = is in let same : k ≡ m = cc in let leads : u ≡ t = cc in ap (λ x. Symlink x u) same ∙ ap (Symlink m) leads
    by (File k) is = let n : Some (node.Link m t) ≡ Some (node.File (d.meta k) (length (d.bytes k))) = is in cc

pub link_objects : (d : Disk) (z y : Value) (m : Meta) (t : List ℕ) → IsNode d z (Some (node.Link m t)) → (r : Result Bool FsErr) → IfOk r (λ b. IsTrue b ↔ (seen d y ≡ Symlink m t))
    → IfOk r (λ b. IsTrue b ↔ IsLeafOf (seen d y) (seen d z))
link_objects d z y m t is (Ok b) same = link_object d z y m t is b same
link_objects d z y m t is (Err e) same = tt

not_shown : (d : Disk) (k : ℕ) (y : Value) → one_inode (File k) y ≡ false → seen d (File k) ≡ seen d y → ⊥
not_shown d k Absent apart same = let n : Leaf k (d.meta k) (d.bytes k) ≡ Vacant = same in cc
not_shown d k (Folder m) apart same = let n : Leaf k (d.meta k) (d.bytes k) ≡ Directory m = same in cc
not_shown d k (Link m t) apart same = let n : Leaf k (d.meta k) (d.bytes k) ≡ Symlink m t = same in cc
not_shown d k (File j) apart same =
    let e : Leaf k (d.meta k) (d.bytes k) ≡ Leaf j (d.meta j) (d.bytes j) = same in
    let number : k ≡ j = cc in
    let n : false ≡ true = sym apart ∙ (Decides-eqb k j).1 number in
    cc

no_bytes : (b : List ℕ) → length b ≡ 0 → b ≡ []
no_bytes [] none = refl
no_bytes (x ∷ b) none = absurd (omega (arith, none))

-- a file of another inode without bytes is an object where that is such a file
empty_object : (d : Disk) (z y : Value) (m : Meta) → IsNode d z (Some (node.File m 0)) → one_inode z y ≡ false → (b : Bool) → IsTrue b ↔ IsEmptyFile m (seen d y) → IsTrue b ↔ IsLeafOf (seen d y) (seen d z)
empty_object d (File k) y m is apart b same =
    let e : Some (node.File m 0) ≡ Some (node.File (d.meta k) (length (d.bytes k))) = is in
    let meta : d.meta k ≡ m = cc in
    let none : length (d.bytes k) ≡ 0 = cc in (
      λ yes. inr (record { meta = m; first = (meta, no_bytes (d.bytes k) none); second = same.0 yes }),
      λ leaf. ⊎_elim (λ object. absurd (not_shown d k y apart object.1)) (λ both. same.1 (subst (λ a. IsEmptyFile a (seen d y)) (sym both.first.0 ∙ meta) both.second)) leaf,
    )
empty_object d Absent y m is apart b same = let n : Some (node.File m 0) ≡ None = is in cc
empty_object d (Folder k) y m is apart b same = let n : Some (node.File m 0) ≡ Some (node.Folder k) = is in cc
empty_object d (Link k t) y m is apart b same = let n : Some (node.File m 0) ≡ Some (node.Link k t) = is in cc

pub empty_objects : (d : Disk) (z y : Value) (m : Meta) → IsNode d z (Some (node.File m 0)) → one_inode z y ≡ false → (r : Result Bool FsErr) → IfOk r (λ b. IsTrue b ↔ IsEmptyFile m (seen d y))
    → IfOk r (λ b. IsTrue b ↔ IsLeafOf (seen d y) (seen d z))
empty_objects d z y m is apart (Ok b) same = empty_object d z y m is apart b same
empty_objects d z y m is apart (Err e) same = tt

-- a folder is listed where no call fails
pub list_fails : (d : Disk) → IsTree d → (p : Path) → IsDirectory (shows d p) → (P : List Name → Type 0) (e : FsErr) → Answered (no_folder p d) P (Err e) → OfNone e
list_fails d is_tree p folder P e answer = read_fails (no_folder p d) P OfNone (no_folder-there d is_tree p (folder_shows d p folder)) tt tt e answer
