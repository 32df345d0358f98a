-- The objects of a tree. In ascending order what lies in a folder stands behind it, so each object is said by its item and
-- by what those behind it are named by.
use Rattle.std.specs.Prelude.{ℕ, List, [], ◌∷◌, ◌++◌, Option, Some, None, option_and_then, unwrap_or, if◌then◌else◌}
use Rattle.std.specs.List.{filter_map}
use Rattle.sha2.specs.Sha256.{sha256}
use Rattle.ost_types.specs.declared.meta.Meta.{Meta}
use Rattle.ost_types.specs.declared.node.NodeName.{NodeName}
use Rattle.ost_types.specs.declared.node.NodeName.TheVariants as node
use Rattle.ost_types.specs.declared.object.Kind.TheVariants as kinds
use Rattle.ost_types.specs.declared.object.ObjName.{ObjName}
use Rattle.ost_types.specs.Path.{Name, Path, same_name}
use Rattle.ost_forms.specs.declared.entry.FileItem.{FileItem}
use Rattle.ost_forms.specs.declared.entry.FolderItem.{FolderItem}
use Rattle.ost_forms.specs.declared.tree_item.BodySpec.{BodySpec}
use Rattle.ost_forms.specs.declared.tree_item.TreeItem.{TreeItem}
use Rattle.ost_forms.specs.DirMeta.{dirmeta_form}
use Rattle.ost_forms.specs.DirTree.{Entries, tree_form}
use Rattle.ost_forms.specs.Stream.{content_form}
use Rattle.tree_build.specs.declared.sums.Sums.{Sums}
use Rattle.tree_build.specs.declared.sums.Sums.TheVariants.{File, Folder}
use Rattle.tree_build.specs.Items.{body_of}

pub record Object : Type 0 where
  pub name : ObjName
  pub bytes : List ℕ

-- The bytes of the form. A value without a form is none that a tree within its bounds has.
abbrev pub bytes_of : Option (List ℕ) → List ℕ
bytes_of form = unwrap_or form []

abbrev pub file_bytes : Meta → BodySpec → List ℕ
file_bytes meta body = bytes_of (content_form meta (body_of body))

abbrev pub meta_bytes : Meta → List ℕ
meta_bytes meta = bytes_of (dirmeta_form meta)

-- a path, and the sums by which its folder names what stands there
pub record Made : Type 0 where
  pub path : Path
  pub sums : Sums

-- the same by its name in the folder
pub record Child : Type 0 where
  pub name : Name
  pub sums : Sums

-- the name, where the path is that of a name directly in the folder
unfoldable pub name_in : Path → Path → Option Name
name_in [] [] = None
name_in [] (x ∷ []) = Some x
name_in [] (x ∷ y ∷ p) = None
name_in (a ∷ f) [] = None
name_in (a ∷ f) (x ∷ p) = if same_name a x then name_in f p else None

abbrev pub child_by : Made → Option Name → Option Child
child_by m None = None
child_by m (Some x) = Some (record { name = x; sums = m.sums })

abbrev pub child_in : Path → Made → Option Child
child_in f m = child_by m (name_in f m.path)

-- what lies directly in the folder
abbrev pub children : Path → List Made → List Child
children f = filter_map (child_in f)

abbrev pub file_by : Name → Sums → Option FileItem
file_by x (File sum) = Some (record { name = x; file = sum })
file_by x (Folder tree meta) = None

abbrev pub folder_by : Name → Sums → Option FolderItem
folder_by x (File sum) = None
folder_by x (Folder tree meta) = Some (record { name = x; tree = tree; meta = meta })

abbrev pub files_of : List Child → List FileItem
files_of = filter_map (λ c. file_by c.name c.sums)

abbrev pub folders_of : List Child → List FolderItem
folders_of = filter_map (λ c. folder_by c.name c.sums)

-- what a path is in the folder, as a file and as a folder
abbrev pub file_at : Path → Path → Sums → Option FileItem
file_at f p sums = option_and_then (λ x. file_by x sums) (name_in f p)

abbrev pub folder_at : Path → Path → Sums → Option FolderItem
folder_at f p sums = option_and_then (λ x. folder_by x sums) (name_in f p)

abbrev pub entries_of : List Child → Entries
entries_of cs = record { files = files_of cs; folders = folders_of cs }

-- the entries of the folder, where these are made
abbrev pub tree_bytes : List Made → Path → List ℕ
tree_bytes ms f = bytes_of (tree_form (entries_of (children f ms)))

-- what an item is named by, where those behind it are named so: a file by its object, a folder by its entries and its attributes
abbrev pub sums_by : List Made → Path → Meta → Option BodySpec → Sums
sums_by ms p meta None = Folder (sha256 (tree_bytes ms p)) (sha256 (meta_bytes meta))
sums_by ms p meta (Some body) = File (sha256 (file_bytes meta body))

abbrev pub made_of : List Made → TreeItem → Made
made_of ms i = record { path = i.path; sums = sums_by ms i.path i.meta i.body }

unfoldable pub made : List TreeItem → List Made
made [] = []
made (i ∷ items) = made_of (made items) i ∷ made items

abbrev pub file_object : List ℕ → Object
file_object bytes = record { name = record { csum = sha256 bytes; kind = kinds.File }; bytes = bytes }

abbrev pub tree_object : List ℕ → Object
tree_object bytes = record { name = record { csum = sha256 bytes; kind = kinds.DirTree }; bytes = bytes }

abbrev pub meta_object : List ℕ → Object
meta_object bytes = record { name = record { csum = sha256 bytes; kind = kinds.DirMeta }; bytes = bytes }

-- the object of a file; of a folder its entries, then its attributes
abbrev pub objects_by : List Made → Path → Meta → Option BodySpec → List Object
objects_by ms p meta None = tree_object (tree_bytes ms p) ∷ meta_object (meta_bytes meta) ∷ []
objects_by ms p meta (Some body) = file_object (file_bytes meta body) ∷ []

abbrev pub objects_of : List Made → TreeItem → List Object
objects_of ms i = objects_by ms i.path i.meta i.body

-- All objects, those of the last item first, so that a folder's come behind those of what lies in it.
unfoldable pub work : List TreeItem → List Object
work [] = []
work (i ∷ items) = work items ++ objects_of (made items) i

-- the names of the objects of the first item, where it is a folder, as `/` is
abbrev pub root_of : List TreeItem → List ℕ × List ℕ
root_of [] = ([], [])
root_of (i ∷ items) = (sha256 (tree_bytes (made items) i.path), sha256 (meta_bytes i.meta))

-- what the tree shows at an item's path
abbrev pub node_by : Meta → Option BodySpec → NodeName
node_by meta None = node.Folder meta
node_by meta (Some body) = node.Leaf (sha256 (file_bytes meta body))
