-- What a path shows where a leaf stands there, and where none does.
use Rattle.std.proofs.Common.{◌≡◌, ℕ, true, false, refl, subst, List, Some, None}
use Rattle.fs_trait.specs.declared.types.Value.{Value}
use Rattle.fs_trait.specs.declared.types.Value.TheVariants.{Absent, Folder, Link, File}
use Rattle.fs_trait.specs.View.{Disk}
use Rattle.fs_trait.specs.Seen.{Seen, Vacant, Directory, Symlink, Leaf, seen, IsDirectory, bytes_in}
use Rattle.repo_layout.specs.Refs.{is_leaf}
use Rattle.ref_room.specs.Clearing.{IsLeaf}

pub is_a_leaf : (d : Disk) (z : Value) → IsLeaf (seen d z) → is_leaf z ≡ true
is_a_leaf d Absent leaf = absurd leaf
is_a_leaf d (Folder m) leaf = absurd leaf
is_a_leaf d (Link m l) leaf = refl
is_a_leaf d (File n) leaf = refl

pub no_leaf : (d : Disk) (z : Value) → ¬ (IsLeaf (seen d z)) → is_leaf z ≡ false
no_leaf d Absent none = refl
no_leaf d (Folder m) none = refl
no_leaf d (Link m l) none = absurd (none tt)
no_leaf d (File n) none = absurd (none tt)

pub directory_leaf : (s : Seen) → IsDirectory s → ¬ (IsLeaf s)
directory_leaf (Directory m) is leaf = leaf
directory_leaf Vacant is leaf = leaf
directory_leaf (Symlink m l) is leaf = is
directory_leaf (Leaf n m b) is leaf = is

pub vacant_leaf : (s : Seen) → s ≡ Vacant → ¬ (IsLeaf s)
vacant_leaf s e leaf = subst IsLeaf e leaf

pub file_leaf : (s : Seen) (b : List ℕ) → bytes_in s ≡ Some b → IsLeaf s
file_leaf (Leaf n m c) b e = tt
file_leaf Vacant b e = let n : None ≡ Some b = e in cc
file_leaf (Directory m) b e = let n : None ≡ Some b = e in cc
file_leaf (Symlink m l) b e = let n : None ≡ Some b = e in cc
