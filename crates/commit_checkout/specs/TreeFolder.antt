-- A folder that is what a commit shows.
use Rattle.std.specs.Prelude.{◌↔◌, ◌≤◌, ℕ, List, length, Some, None, Contains}
use Rattle.ost_types.specs.declared.node.NodeName.{NodeName}
use Rattle.ost_types.specs.Path.{Path, IsPath, text_of}
use Rattle.ost_types.specs.PathMap.{Nodes}
use Rattle.fs_trait.specs.View.{Disk}
use Rattle.repo_model.specs.Objects.{Store}
use Rattle.repo_model.specs.Trees.{TreeShows}
use Rattle.checkout.specs.CheckoutFolder.{Stands}

-- the pairs of the map are what the commit shows
abbrev pub IsTreeOf : Store → List ℕ → Nodes → Type 0
IsTreeOf S commit tree = (p : Path) (n : NodeName) → Contains tree (p, n) ↔ TreeShows S commit p n

-- At each path of the folder stands the node that is shown there, and nothing where none is.
pub record IsTreeFolder (d : Disk) (into : Path) (shown : Path → NodeName → Type 0) : Type 0 where
  pub each : (p : Path) (n : NodeName) → shown p n → Stands d into p (Some n)
  pub none : (p : Path) → ((n : NodeName) → shown p n → ⊥) → Stands d into p None

-- Each path of 64 names and 1,024 bytes may stand below it.
pub record HasRoomBelow (into : Path) : Type 0 where
  pub path : IsPath into
  pub few : length into ≤ 16
  pub short : length (text_of into) ≤ 1024
