-- Bounds on the paths below a folder.
use Rattle.std.specs.Prelude.{◌≡◌, ◌⊎◌, ◌≤◌, ◌<◌, ◌+◌, ℕ, List, [], ◌∷◌, length, Contains, slice_index_or}
use Rattle.ost_types.specs.Path.{Name, Path, joined}
use Rattle.ost_types.specs.declared.node.NodeName.{NodeName}
use Rattle.ost_types.specs.declared.object.Kind.TheVariants as kind
use Rattle.ost_types.specs.declared.object.ObjName.{ObjName}
use Rattle.ost_forms.specs.declared.entry.FileItem.{FileItem}
use Rattle.ost_forms.specs.declared.entry.FolderItem.{FolderItem}
use Rattle.repo_model.specs.Objects.{Store, Has}
use Rattle.repo_model.specs.Trees.{Shows, Names, name_of}
use Rattle.store_check.specs.declared.extent.Extent.{Extent}

-- bounds that hold beside these with an entry of a name, below which others hold
pub record IsWith (e : Extent) (name : Name) (below with : Extent) : Type 0 where
  pub paths : e.paths + (1 + below.paths) ≤ with.paths
  pub names : e.names ≤ with.names
  pub deeper : 1 + below.names ≤ with.names
  pub bytes : e.bytes ≤ with.bytes
  pub longer : 1 + (length name + below.bytes) ≤ with.bytes

-- at most so many paths have this, each of at most so many names and bytes
pub record Covers (P : Path → Type 0) (e : Extent) : Type 0 where
  pub paths : List Path
  pub few : length paths ≤ e.paths
  pub all : (p : Path) → P p → Contains paths p
  pub deep : (p : Path) → P p → length p ≤ e.names
  pub long : (p : Path) → P p → length (joined p) ≤ e.bytes

-- what the entries of a folder show below it, and which objects they name there
abbrev pub ShowsBelow : Store → List ℕ → Path → Type 0
ShowsBelow S tree [] = ⊥
ShowsBelow S tree (x ∷ rest) = (meta : List ℕ) × (n : NodeName) × Shows S tree meta (x ∷ rest) n

abbrev pub NamesBelow : Store → List ℕ → Path → ObjName → Type 0
NamesBelow S tree [] o = ⊥
NamesBelow S tree (x ∷ rest) o = (meta : List ℕ) × Names S tree meta (x ∷ rest) o

-- The folder's entries are there and read as such, and so is all that they name below; their paths keep the bounds.
pub record IsKnown (S : Store) (content : ℕ) (tree : List ℕ) (e : Extent) : Type 0 where
  pub here : Has S content (name_of kind.DirTree tree)
  pub objects : (p : Path) (o : ObjName) → NamesBelow S tree p o → Has S content o
  pub covers : Covers (ShowsBelow S tree) e

-- the path of an entry of a folder, and those below it
abbrev pub At : Name → (Path → Type 0) → Path → Type 0
At name P p = (rest : Path) × (p ≡ name ∷ rest) × ((rest ≡ []) ⊎ P rest)

-- the paths of the first so many files
abbrev pub FilePaths : List FileItem → ℕ → Path → Type 0
FilePaths files i p = (k : ℕ) × (item : FileItem) × (k < i) × (slice_index_or files k item ≡ item) × (p ≡ item.name ∷ [])

-- and of the first so many folders, with those below
abbrev pub FolderPaths : Store → List FolderItem → ℕ → Path → Type 0
FolderPaths S folders i p = (k : ℕ) × (item : FolderItem) × (k < i) × (slice_index_or folders k item ≡ item) × At item.name (ShowsBelow S item.tree) p

-- all files, and the first so many folders
abbrev pub EntryPaths : Store → List FileItem → List FolderItem → ℕ → Path → Type 0
EntryPaths S files folders i p = FilePaths files (length files) p ⊎ FolderPaths S folders i p
