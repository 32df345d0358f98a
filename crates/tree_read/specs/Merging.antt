-- Files and folders from the last name to the first, one taken after the other.
use Rattle.std.specs.Prelude.{◌≡◌, ◌⊎◌, List, [], ◌∷◌, ◌++◌}
use Rattle.std.specs.List.{AllByRecursion}
use Rattle.ost_types.specs.Path.{Name}
use Rattle.ost_forms.specs.declared.entry.FileItem.{FileItem}
use Rattle.ost_forms.specs.declared.entry.FolderItem.{FolderItem}
use Rattle.tree_read.specs.Children.{Child, IsBefore, file_child, folder_child}

-- all of these come before the name
pub record AreBefore (name : Name) (files : List FileItem) (folders : List FolderItem) : Type 0 where
  pub files_are : AllByRecursion (λ i. IsBefore i.name name) files
  pub folders_are : AllByRecursion (λ i. IsBefore i.name name) folders

-- this one comes last, and these are the others
abbrev pub IsLast : List FileItem → List FolderItem → Child → List FileItem → List FolderItem → Type 0
IsLast files folders c files' folders' =
    AreBefore c.name files' folders'
    × (((i : FileItem) × (files ≡ files' ++ i ∷ []) × (folders ≡ folders') × (c ≡ file_child i))
    ⊎ ((i : FolderItem) × (folders ≡ folders' ++ i ∷ []) × (files ≡ files') × (c ≡ folder_child i)))

abbrev pub Merges : List FileItem → List FolderItem → List Child → Type 0
Merges files folders [] = (files ≡ []) × (folders ≡ [])
Merges files folders (c ∷ cs) = (files' : List FileItem) × (folders' : List FolderItem) × IsLast files folders c files' folders' × Merges files' folders' cs
