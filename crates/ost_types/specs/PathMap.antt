-- A map from paths to the names of nodes, as the list of its pairs.
use Rattle.std.specs.Prelude.{if◌then◌else◌, List, [], ◌∷◌, map, All, Option, Some, None}
use Rattle.std.specs.List.Sorted.{IsStrictlySortedBy}
use Rattle.ost_types.specs.Path.{Path, path_cmp, same_path}
use Rattle.ost_types.specs.Mode.{IsFolderMode}
use Rattle.ost_types.specs.declared.node.NodeName.{NodeName}
use Rattle.ost_types.specs.declared.node.NodeName.TheVariants.{Folder, Leaf}

abbrev pub Nodes : Type 0
Nodes = List (Path × NodeName)

abbrev pub paths_of : Nodes → List Path
paths_of = map (λ e. e.0)

-- each path comes before those after it
abbrev pub IsAscending : List Path → Type 0
IsAscending = IsStrictlySortedBy path_cmp

-- a folder's mode is that of a folder
abbrev pub IsNode : NodeName → Type 0
IsNode (Folder meta) = IsFolderMode meta.mode
IsNode (Leaf csum) = Unit {0}

pub record IsPathMap (m : Nodes) : Type 0 where
  pub ascending : IsAscending (paths_of m)
  pub nodes : All (λ e. IsNode e.1) m

-- the node of the first pair with the path
abbrev pub node_at : Nodes → Path → Option NodeName
node_at [] p = None
node_at (e ∷ m) p = if same_path e.0 p then Some e.1 else node_at m p
