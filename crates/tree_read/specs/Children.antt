-- The entries of a folder as what is to be read below it.
use Rattle.std.specs.Prelude.{◌≡◌, ◌⊎◌, ℕ, List, [], ◌∷◌, Contains}
use Rattle.std.specs.List.{AllByRecursion}
use Rattle.std.specs.Cmp.Lexicographic.{slice_cmp}
use Rattle.std.specs.Ordering.{nat_cmp}
use Rattle.std.specs.declared.cmp.Ordering.TheVariants.{Less}
use Rattle.ost_types.specs.Path.{Name, Path, under}
use Rattle.ost_forms.specs.declared.entry.FileItem.{FileItem}
use Rattle.ost_forms.specs.declared.entry.FolderItem.{FolderItem}
use Rattle.ost_forms.specs.DirTree.{Entries}
use Rattle.tree_read.specs.declared.item.Named.{Named}
use Rattle.tree_read.specs.declared.item.Named.TheVariants.{Folder, File}
use Rattle.tree_read.specs.declared.item.Item.{Item}

abbrev pub IsBefore : Name → Name → Type 0
IsBefore x y = slice_cmp nat_cmp x y ≡ Less

-- an entry with its name
pub record Child : Type 0 where
  pub name : Name
  pub named : Named

abbrev pub file_child : FileItem → Child
file_child i = record { name = i.name; named = File i.file }

abbrev pub folder_child : FolderItem → Child
folder_child i = record { name = i.name; named = Folder i.tree i.meta }

abbrev pub IsChild : Entries → Child → Type 0
IsChild e c = ((i : FileItem) × Contains e.files i × (c ≡ file_child i)) ⊎ ((i : FolderItem) × Contains e.folders i × (c ≡ folder_child i))

-- each name comes after those of the later children
abbrev pub AreDescending : List Child → Type 0
AreDescending [] = Unit {0}
AreDescending (c ∷ cs) = AllByRecursion (λ d. IsBefore d.name c.name) cs × AreDescending cs

-- all entries, from the last name to the first
pub record AreChildren (e : Entries) (cs : List Child) : Type 0 where
  pub descending : AreDescending cs
  pub among : (c : Child) → Contains cs c → IsChild e c
  pub all : (c : Child) → IsChild e c → Contains cs c

-- the child of the folder at this path, whose entries have this name
abbrev pub item_of : Path → List ℕ → Child → Item
item_of at owner c = record { path = under at c.name; named = c.named; owner = owner }
