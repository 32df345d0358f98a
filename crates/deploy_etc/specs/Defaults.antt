-- The defaults of a deployment's `etc`: what its tree has at `/usr/etc` and below.
use Rattle.std.specs.Prelude.{◌≡◌, [], ◌∷◌, ◌++◌, codes, Some}
use Rattle.ost_types.specs.declared.meta.Meta.{Meta}
use Rattle.ost_types.specs.declared.node.NodeName.TheVariants.{Folder}
use Rattle.ost_types.specs.Path.{Path, under}
use Rattle.ost_types.specs.PathMap.{Nodes, node_at}

-- `/usr/etc`
abbrev pub defaults_path : Path
defaults_path = codes "usr" ∷ codes "etc" ∷ []

-- The map has at each path exactly what the tree has at the other one followed by it.
abbrev pub IsPartAt : Path → Nodes → Nodes → Type 0
IsPartAt at tree part = (p : Path) → node_at part p ≡ node_at tree (at ++ p)

abbrev pub AreDefaults : Nodes → Nodes → Type 0
AreDefaults = IsPartAt defaults_path

-- the tree has a folder at `/usr/etc`
abbrev pub HasDefaults : Nodes → Type 0
HasDefaults tree = (m : Meta) × (node_at tree defaults_path ≡ Some (Folder m))

-- the changeable `etc` of the deployment that stands in a folder
abbrev pub etc_in : Path → Path
etc_in folder = under folder (codes "etc")
