-- A tree that is made pair by pair, to be checked out.
use Rattle.std.specs.Prelude.{◌≡◌, ◌++◌, ◌∷◌, [], Option, Some, None}
use Rattle.ost_types.specs.declared.meta.Meta.{Meta}
use Rattle.ost_types.specs.declared.node.NodeName.{NodeName}
use Rattle.ost_types.specs.declared.node.NodeName.TheVariants.{Folder, Leaf}
use Rattle.ost_types.specs.Path.{Name, Path, IsPath, under}
use Rattle.ost_types.specs.PathMap.{Nodes, IsAscending, paths_of, node_at}
use Rattle.fs_trait.specs.View.{Disk}
use Rattle.fs_trait.specs.Seen.{shows}
use Rattle.checkout.specs.CheckoutFolder.{IsLeaf, leaf_path}
use Rattle.checkout.specs.CheckoutWork.{Checkout, beginning}
use Rattle.checkout.specs.CheckoutSteps.{Needs}

-- the folder in which it is checked out, under which name, and the pairs so far
pub record Sketched : Type 0 where
  pub home : Path
  pub name : Name
  pub tree : Nodes

abbrev pub into_of : Sketched → Path
into_of s = under s.home s.name

-- with one pair more
abbrev pub with_pair : Path → NodeName → Sketched → Sketched
with_pair path node s = record s { tree = s.tree ++ (path, node) ∷ [] }

-- the path comes next, lies in a folder of the map, and fits below the folder
pub record Takes (s : Sketched) (folder path : Path) : Type 0 where
  pub fits : IsPath (into_of s ++ path)
  pub next : IsAscending (paths_of s.tree ++ path ∷ [])
  pub inside : (m : Meta) × (node_at s.tree folder ≡ Some (Folder m))

-- a folder, or a leaf whose object is there
abbrev pub IsThere : Disk → NodeName → Type 0
IsThere d (Folder m) = Unit {0}
IsThere d (Leaf sum) = IsLeaf (shows d (leaf_path sum))

-- reads show all that a checkout of it begins with
abbrev pub CanBegin : Sketched → Disk → Type 0
CanBegin s d = Needs (beginning (into_of s) s.tree) d

-- the task that checks it out, with what its first step needs; or it can't begin
abbrev pub Begins : Sketched → Disk → Option Checkout → Type 0
Begins s d None = CanBegin s d → ⊥
Begins s d (Some t) = (t ≡ beginning (into_of s) s.tree) × Needs t d
