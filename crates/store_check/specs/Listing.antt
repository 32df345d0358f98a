-- The objects that a disk has, by what stands at their paths.
use Rattle.std.specs.Prelude.{◌≢◌, ◌≤◌, ◌<◌, ℕ, List, length, slice_index, Contains}
use Rattle.std.specs.List.Sorted.{IsStrictlySortedBy}
use Rattle.ost_types.specs.declared.object.ObjName.{ObjName}
use Rattle.fs_trait.specs.declared.types.Value.TheVariants.{Absent}
use Rattle.fs_trait.specs.View.{Disk}
use Rattle.repo_layout.specs.RefFile.{IsSum}
use Rattle.repo_model.specs.Objects.{path_of}
use Rattle.obj_store.specs.Listing.{name_cmp}

-- something stands at the path of the object of this name
pub record IsThere (d : Disk) (name : ObjName) : Type 0 where
  pub sum : IsSum name.csum
  pub there : d.at (path_of name) ≢ Absent

-- The names of all these objects, each once, ascending.
pub record AreAll (d : Disk) (names : List ObjName) : Type 0 where
  pub ascending : IsStrictlySortedBy name_cmp names
  pub here : (name : ObjName) → Contains names name → IsThere d name
  pub all : (name : ObjName) → IsThere d name → Contains names name

-- the first byte of a sum
abbrev pub head_of : List ℕ → ℕ
head_of sum = slice_index sum 0

-- The names of all objects whose sums begin with a lesser byte than this, each once, ascending.
pub record AreBelow (d : Disk) (n : ℕ) (names : List ObjName) : Type 0 where
  pub ascending : IsStrictlySortedBy name_cmp names
  pub here : (o : ObjName) → Contains names o → IsThere d o × (head_of o.csum < n)
  pub all : (o : ObjName) → IsThere d o → head_of o.csum < n → Contains names o

-- there are at most so many
pub record HasFew (d : Disk) (most : ℕ) : Type 0 where
  pub names : List ObjName
  pub are : AreAll d names
  pub few : length names ≤ most

-- there are more: a list of different ones is longer
pub record HasMore (d : Disk) (most : ℕ) : Type 0 where
  pub names : List ObjName
  pub ascending : IsStrictlySortedBy name_cmp names
  pub here : (name : ObjName) → Contains names name → IsThere d name
  pub more : most < length names
