-- The refs that a walk found so far.
use Rattle.std.specs.Prelude.{◌≡◌, ℕ, true, List, Some, IsSome}
use Rattle.std.specs.BTreeMap.{BTreeMap, get}
use Rattle.std.specs.Cmp.Lexicographic.{slice_cmp}
use Rattle.std.specs.Ordering.{nat_cmp}
use Rattle.ost_types.specs.Path.{Path}
use Rattle.fs_trait.specs.View.{Disk}
use Rattle.repo_layout.specs.Paths.{ref_path}
use Rattle.repo_layout.specs.Refs.{Names, is_leaf}
use Rattle.sys_open.specs.Walk.{IsSoBelow}

-- refs by the bytes of their names
abbrev pub Refs : Type 0
Refs = BTreeMap (List ℕ) (List ℕ)

abbrev pub Has : Refs → List ℕ → Type 0
Has refs name = IsSome (get (slice_cmp nat_cmp) refs name)

-- each of them is one of the disk
abbrev pub AreOf : Disk → Refs → Type 0
AreOf d refs = (name commit : List ℕ) → get (slice_cmp nat_cmp) refs name ≡ Some commit → Names d name commit

-- the ref with this path is among them
abbrev pub HasAt : Path → Refs → Type 0
HasAt at refs = (name : List ℕ) → ref_path name ≡ at → Has refs name

-- where a leaf stands there
abbrev pub HasLeafAt : Disk → Refs → Path → Type 0
HasLeafAt d refs q = is_leaf (d.at q) ≡ true → HasAt q refs

-- all that the disk has at a path and below it are among them
abbrev pub HasAllBelow : Disk → Path → Refs → Type 0
HasAllBelow d at refs = IsSoBelow (HasLeafAt d refs) at

-- none was lost
abbrev pub Grows : Refs → Refs → Type 0
Grows old new = (name : List ℕ) → Has old name → Has new name
