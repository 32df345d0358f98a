-- What the entries of a folder have under a name.
use Rattle.std.specs.Prelude.{◌≡◌, List, ℕ, Contains}
use Rattle.ost_types.specs.Path.{Name}
use Rattle.ost_forms.specs.declared.entry.FolderItem.{FolderItem}
use Rattle.ost_forms.specs.DirTree.{Entries}
use Rattle.repo_model.specs.Trees.{HasFile, HasFolder}
use Rattle.read_command.specs.declared.entry.Entry.{Entry}
use Rattle.read_command.specs.declared.entry.Entry.TheVariants.{Nothing, File, Folder}

-- no file and no folder has the name
pub record HasNone (e : Entries) (x : Name) : Type 0 where
  pub file : (sum : List ℕ) → HasFile e x sum → ⊥
  pub folder : (tree meta : List ℕ) → HasFolder e x tree meta → ⊥

abbrev pub IsEntry : Entries → Name → Entry → Type 0
IsEntry e x Nothing = HasNone e x
IsEntry e x (File sum) = HasFile e x sum
IsEntry e x (Folder tree meta) = HasFolder e x tree meta

-- the same of folders alone
abbrev pub IsFolderEntry : List FolderItem → Name → Entry → Type 0
IsFolderEntry folders x Nothing = (i : FolderItem) → Contains folders i → i.name ≡ x → ⊥
IsFolderEntry folders x (File sum) = ⊥
IsFolderEntry folders x (Folder tree meta) = (i : FolderItem) × Contains folders i × (i.name ≡ x) × (i.tree ≡ tree) × (i.meta ≡ meta)
