-- What the answers of the file system say of a regular file.
use Rattle.std.proofs.Common.{◌≡◌, ℕ, ◌≤◌, ◌<◌, ◌-◌, arith, refl, ◌∙◌, ap, List, length, take, drop, Option, Some, None, length-drop}
use Rattle.std.proofs.lemmas.List.{length-take, length-take-le, take_all}
use Rattle.ost_types.specs.Path.{Path}
use Rattle.fs_trait.specs.declared.types.Node.{Node}
use Rattle.fs_trait.specs.declared.types.Value.{Value}
use Rattle.fs_trait.specs.declared.types.Value.TheVariants.{Absent, Folder, Link, File}
use Rattle.fs_trait.specs.View.{Disk}
use Rattle.fs_trait.specs.Image.{IsTree, bytes_of, reads}
use Rattle.fs_trait.specs.Effect.{IsNode, inode_of, no_file, part}
use Rattle.fs_trait.proofs.Refusals.{no_file-there}
use Rattle.file_copy.specs.Pieces.{size_of, size_told}

-- ---- its size

told_by : (d : Disk) (z : Value) (x : Option Node) → IsNode d z x → size_told x ≡ size_of (bytes_of d z)
told_by d Absent x is = ap size_told is
told_by d (Folder m) x is = ap size_told is
told_by d (Link m t) x is = ap size_told is
told_by d (File n) x is = ap size_told is

pub told_size : (d : Disk) (p : Path) (x : Option Node) → IsNode d (d.at p) x → size_told x ≡ size_of (reads d p)
unfolding reads
told_size d p x is = told_by d (d.at p) x is

-- ---- its bytes

file_there : (d : Disk) (z : Value) (b : List ℕ) → bytes_of d z ≡ Some b → (z ≡ File (inode_of z)) × (d.bytes (inode_of z) ≡ b)
file_there d Absent b is = let n : None ≡ Some b = is in cc
file_there d (Folder m) b is = let n : None ≡ Some b = is in cc
file_there d (Link m t) b is = let n : None ≡ Some b = is in cc
file_there d (File n) b is = (refl, let e : Some (d.bytes n) ≡ Some b = is in cc)

module _ (d : Disk) (p : Path) (b : List ℕ) (is : reads d p ≡ Some b) where
  pub read_file : (d.at p ≡ File (inode_of (d.at p))) × (d.bytes (inode_of (d.at p)) ≡ b)
  unfolding reads
  read_file = file_there d (d.at p) b is

  pub read_bytes : d.bytes (inode_of (d.at p)) ≡ b
  read_bytes = read_file.1

  -- it is read, where no call fails and memory is there
  pub read_free : IsTree d → no_file p d ≡ None
  read_free tree = no_file-there d tree p (inode_of (d.at p)) read_file.0

-- ---- a piece

pub length_part : (from end : ℕ) (b : List ℕ) → from ≤ end → end ≤ length b → length (part from (end - from) b) ≡ end - from
length_part from end b le within = length-take-le (end - from) (drop from b) (let e = length-drop from b in omega (arith, e, le, within))

-- no more than was asked for
pub whole_part : (from most : ℕ) (b : List ℕ) → take most (part from most b) ≡ part from most b
whole_part from most b = take_all most (part from most b) (short (drop from b))
  where
    short : (xs : List ℕ) → length (take most xs) ≤ most
    short xs = let e = length-take most xs in omega (arith, e)

-- what was asked for, of what was read
pub asked_part : (d : Disk) (p : Path) (b : List ℕ) → reads d p ≡ Some b → (from most : ℕ) (got : List ℕ) → got ≡ part from most (d.bytes (inode_of (d.at p))) → take most got ≡ part from most b
asked_part d p b is from most got read = ap (take most) (read ∙ ap (part from most) (read_bytes d p b is)) ∙ whole_part from most b

pub less_le : (a b : ℕ) → a < b → a ≤ b
less_le a b less = omega (arith, less)
