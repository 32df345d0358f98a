-- What is told of the objects whose sums begin with one byte.
use Rattle.std.specs.Prelude.{◌≡◌, ◌≢◌, ◌++◌, ℕ, List, [], ◌∷◌, Contains, take, drop}
use Rattle.std.specs.Cmp.Lexicographic.{slice_cmp}
use Rattle.std.specs.Ordering.{nat_cmp}
use Rattle.std.specs.declared.cmp.Ordering.{Ordering}
use Rattle.std.specs.declared.cmp.Ordering.TheVariants.{Equal}
use Rattle.std.specs.List.Sorted.{IsStrictlySortedBy}
use Rattle.ost_types.specs.Csum.{hex_of}
use Rattle.ost_types.specs.Path.{Name}
use Rattle.ost_types.specs.declared.object.Kind.{Kind}
use Rattle.ost_types.specs.declared.object.Kind.TheVariants.{Commit, DirTree, DirMeta, File}
use Rattle.ost_types.specs.declared.object.ObjName.{ObjName}
use Rattle.fs_trait.specs.declared.types.FsErr.{FsErr}
use Rattle.fs_trait.specs.declared.types.FsErr.TheVariants.{Missing, NotFolder}
use Rattle.fs_trait.specs.declared.types.Value.TheVariants.{Absent}
use Rattle.fs_trait.specs.View.{Disk}
use Rattle.repo_layout.specs.Paths.{ending}
use Rattle.repo_layout.specs.RefFile.{IsSum}
use Rattle.repo_model.specs.Objects.{path_of}

abbrev pub kind_rank : Kind → ℕ
kind_rank Commit = 0
kind_rank DirTree = 1
kind_rank DirMeta = 2
kind_rank File = 3

abbrev pub then_by : Ordering → Ordering → Ordering
then_by Equal later = later
then_by first later = first

-- names in order: by the sum, then by the kind
abbrev pub name_cmp : ObjName → ObjName → Ordering
name_cmp a b = then_by (slice_cmp nat_cmp a.csum b.csum) (nat_cmp (kind_rank a.kind) (kind_rank b.kind))

-- something stands at the path of an object whose sum begins so
pub record IsHere (d : Disk) (first : ℕ) (name : ObjName) : Type 0 where
  pub sum : IsSum name.csum
  pub begins : take 1 name.csum ≡ first ∷ []
  pub there : d.at (path_of name) ≢ Absent

-- The names of those objects, each once, ascending. What else stands in the folder has no such name.
pub record IsList (d : Disk) (first : ℕ) (names : List ObjName) : Type 0 where
  pub ascending : IsStrictlySortedBy name_cmp names
  pub here : (name : ObjName) → Contains names name → IsHere d first name
  pub all : (name : ObjName) → IsHere d first name → Contains names name

-- the name of an object's file in its folder
abbrev pub file_name : ObjName → Name
file_name o = drop 2 (hex_of o.csum) ++ ending o.kind

-- the file's name is one of these, and the sum begins so
pub record IsNamedBy (first : ℕ) (names : List Name) (o : ObjName) : Type 0 where
  pub sum : IsSum o.csum
  pub begins : take 1 o.csum ≡ first ∷ []
  pub among : Contains names (file_name o)

-- The objects whose files have these names.
pub record AreObjects (first : ℕ) (names : List Name) (found : List ObjName) : Type 0 where
  pub ascending : IsStrictlySortedBy name_cmp found
  pub each : (o : ObjName) → Contains found o → IsNamedBy first names o
  pub all : (o : ObjName) → IsNamedBy first names o → Contains found o

-- no folder is there
abbrev pub IsGone : FsErr → Type 0
IsGone Missing = Unit {0}
IsGone NotFolder = Unit {0}
IsGone e = ⊥
