-- A folder as an object: its files, and its folders, each with its name and the names of its objects.
use Rattle.std.specs.Prelude.{◌≡◌, ◌≤◌, ◌<◌, ℕ, List, [], ◌∷◌, length, map, All, Contains, Option, Some, Result, Ok, Err}
use Rattle.std.specs.Ordering.{nat_cmp}
use Rattle.std.specs.Cmp.Lexicographic.{slice_cmp}
use Rattle.std.specs.List.Sorted.{IsStrictlySortedBy}
use Rattle.gv_core.specs.Container.{container_form}
use Rattle.gv_core.specs.Layout.{text_bytes}
use Rattle.ost_types.specs.Text.{IsName}
use Rattle.ost_forms.specs.declared.entry.FileItem.{FileItem}
use Rattle.ost_forms.specs.declared.entry.FolderItem.{FolderItem}
use Rattle.ost_forms.specs.declared.object_type.ObjectType.TheVariants as types
use Rattle.ost_forms.specs.declared.fault.ObjFault.{ObjFault}
use Rattle.ost_forms.specs.declared.fault.ObjFault.TheVariants.{NotNormal, BadSumLength, BadName, NotSorted, BadMode, TooLarge, NoMemory}
use Rattle.ost_forms.specs.TypeText.{type_text}
use Rattle.ost_forms.specs.Rows.{◌>>=◌, array_form}
use Rattle.ost_forms.specs.DirMeta.{object_limit}

abbrev pub file_form : FileItem → Option (List ℕ)
file_form i = text_bytes i.name >>= λ n. container_form (type_text types.File) (n ∷ i.file ∷ [])

abbrev pub folder_form : FolderItem → Option (List ℕ)
folder_form i = text_bytes i.name >>= λ n. container_form (type_text types.Folder) (n ∷ i.tree ∷ i.meta ∷ [])

abbrev pub files_form : List FileItem → Option (List ℕ)
files_form = array_form (type_text types.Files) file_form

abbrev pub folders_form : List FolderItem → Option (List ℕ)
folders_form = array_form (type_text types.Folders) folder_form

pub record Entries : Type 0 where
  pub files : List FileItem
  pub folders : List FolderItem

abbrev pub tree_form : Entries → Option (List ℕ)
tree_form t = files_form t.files >>= λ f. folders_form t.folders >>= λ d. container_form (type_text types.DirTree) (f ∷ d ∷ [])

abbrev pub file_names : List FileItem → List (List ℕ)
file_names = map (λ i. i.name)

abbrev pub folder_names : List FolderItem → List (List ℕ)
folder_names = map (λ i. i.name)

-- each name comes before those after it, byte by byte
abbrev pub IsAscending : List (List ℕ) → Type 0
IsAscending = IsStrictlySortedBy (slice_cmp nat_cmp)

-- no name is in both
abbrev pub AreApart : List (List ℕ) → List (List ℕ) → Type 0
AreApart xs ys = (n : List ℕ) → Contains xs n → Contains ys n → ⊥

-- what a list of files keeps, and one of folders
pub record AreFiles (items : List FileItem) : Type 0 where
  pub sums : All (λ i. length i.file ≡ 32) items
  pub names : All IsName (file_names items)
  pub ascending : IsAscending (file_names items)

pub record AreFolders (items : List FolderItem) : Type 0 where
  pub trees : All (λ i. length i.tree ≡ 32) items
  pub metas : All (λ i. length i.meta ≡ 32) items
  pub names : All IsName (folder_names items)
  pub ascending : IsAscending (folder_names items)

-- each sum has 32 bytes
pub record HasSums (t : Entries) : Type 0 where
  pub files : All (λ i. length i.file ≡ 32) t.files
  pub trees : All (λ i. length i.tree ≡ 32) t.folders
  pub metas : All (λ i. length i.meta ≡ 32) t.folders

pub record HasNames (t : Entries) : Type 0 where
  pub files : All IsName (file_names t.files)
  pub folders : All IsName (folder_names t.folders)

pub record IsSorted (t : Entries) : Type 0 where
  pub files : IsAscending (file_names t.files)
  pub folders : IsAscending (folder_names t.folders)
  pub apart : AreApart (file_names t.files) (folder_names t.folders)

-- some entries have these bytes as their form
pub record IsNormalTree (bytes : List ℕ) (t : Entries) : Type 0 where
  pub short : length bytes ≤ object_limit
  pub form : tree_form t ≡ Some bytes

-- Each answer of the reader of such bytes. No two of the first six hold of one run of bytes.
abbrev pub ReadsDirTree : {X : Type 0} → (X → Entries) → List ℕ → Result X ObjFault → Type 0
ReadsDirTree see bytes (Ok x) = IsNormalTree bytes (see x) × HasSums (see x) × HasNames (see x) × IsSorted (see x)
ReadsDirTree see bytes (Err (TooLarge n)) = (n ≡ length bytes) × (object_limit < n)
ReadsDirTree see bytes (Err NotNormal) = (length bytes ≤ object_limit) × ((t : Entries) → tree_form t ≡ Some bytes → ⊥)
ReadsDirTree see bytes (Err BadSumLength) = (t : Entries) × IsNormalTree bytes t × (HasSums t → ⊥)
ReadsDirTree see bytes (Err BadName) = (t : Entries) × IsNormalTree bytes t × HasSums t × (HasNames t → ⊥)
ReadsDirTree see bytes (Err NotSorted) = (t : Entries) × IsNormalTree bytes t × HasSums t × HasNames t × (IsSorted t → ⊥)
ReadsDirTree see bytes (Err BadMode) = ⊥
ReadsDirTree see bytes (Err NoMemory) = Unit {0}
