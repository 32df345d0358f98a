-- Folders of which all that they name is there.
use Rattle.std.specs.Prelude.{◌≡◌, ℕ, List, length, Contains, Some}
use Rattle.std.specs.BTreeMap.{BTreeMap, get}
use Rattle.std.specs.Cmp.Lexicographic.{slice_cmp}
use Rattle.std.specs.Ordering.{nat_cmp}
use Rattle.ost_types.specs.declared.object.Kind.TheVariants as kind
use Rattle.ost_types.specs.declared.object.ObjName.{ObjName}
use Rattle.ost_forms.specs.declared.entry.FileItem.{FileItem}
use Rattle.ost_forms.specs.declared.entry.FolderItem.{FolderItem}
use Rattle.fs_trait.specs.View.{Disk}
use Rattle.repo_model.specs.Objects.{Stores}
use Rattle.repo_model.specs.Trees.{name_of}
use Rattle.store_check.specs.declared.extent.Extent.{Extent}
use Rattle.store_check.specs.Extents.{Covers, EntryPaths, FilePaths, IsKnown, IsWith}

-- each folder of the map is whole, and its paths keep the bounds there
pub record AreKnown (d : Disk) (content : ℕ) (folders : BTreeMap (List ℕ) Extent) : Type 0 where
  pub each : (tree : List ℕ) (e : Extent) → get (slice_cmp nat_cmp) folders tree ≡ Some e → IsKnown (Stores d) content tree e

-- a file whose object is listed, and bounds with its path
pub record WithFile (names : List ObjName) (i : FileItem) (e with : Extent) : Type 0 where
  pub listed : Contains names (name_of kind.File i.file)
  pub below : Extent
  pub made : IsWith e i.name below with

-- files whose objects are listed, and bounds on their paths
pub record CoversFiles (names : List ObjName) (files : List FileItem) (e : Extent) : Type 0 where
  pub listed : (i : FileItem) → Contains files i → Contains names (name_of kind.File i.file)
  pub covers : Covers (FilePaths files (length files)) e

-- a folder that is whole and whose attributes are listed, and bounds with its paths
pub record WithFolder (d : Disk) (content : ℕ) (names : List ObjName) (i : FolderItem) (e with : Extent) : Type 0 where
  pub listed : Contains names (name_of kind.DirMeta i.meta)
  pub below : Extent
  pub known : IsKnown (Stores d) content i.tree below
  pub made : IsWith e i.name below with

-- such folders, and bounds on their paths and on those of the files beside them
pub record CoversFolders (d : Disk) (content : ℕ) (names : List ObjName) (folders : List FolderItem) (e with : Extent) : Type 0 where
  pub listed : (i : FolderItem) → Contains folders i → Contains names (name_of kind.DirMeta i.meta)
  pub known : (i : FolderItem) → Contains folders i → (below : Extent) × IsKnown (Stores d) content i.tree below
  pub covers : (files : List FileItem) → Covers (EntryPaths (Stores d) files folders 0) e → Covers (EntryPaths (Stores d) files folders (length folders)) with
