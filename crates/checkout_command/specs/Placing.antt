-- How it is found that a map is a tree.
use Rattle.std.specs.Prelude.{◌≡◌, ◌++◌, Some}
use Rattle.ost_types.specs.declared.meta.Meta.{Meta}
use Rattle.ost_types.specs.declared.node.NodeName.TheVariants.{Folder}
use Rattle.ost_types.specs.Path.{Name, Path, IsPath, under}
use Rattle.ost_types.specs.PathMap.{Nodes, node_at}

abbrev pub HasFolderAt : Nodes → Path → Type 0
HasFolderAt tree p = (m : Meta) × (node_at tree p ≡ Some (Folder m))

-- where it is a name in a folder, the map has that folder
abbrev pub IsInFolder : Nodes → Path → Type 0
IsInFolder tree p = (f : Path) (x : Name) → p ≡ under f x → HasFolderAt tree f

-- so it lies in a folder of the map, and fits below the path
pub record Fits (into : Path) (tree : Nodes) (p : Path) : Type 0 where
  pub path : IsPath (into ++ p)
  pub inside : IsInFolder tree p
