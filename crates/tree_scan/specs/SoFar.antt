-- What is known of a disk while a folder of it is read.
use Rattle.std.specs.Prelude.{◌≡◌, ◌≢◌, ◌⊎◌, ◌≤◌, ◌++◌, List, length, [], ◌∷◌, Contains, Some}
use Rattle.std.specs.List.{AllByRecursion}
use Rattle.std.specs.declared.cmp.Ordering.TheVariants.{Less}
use Rattle.ost_types.specs.declared.node.NodeName.{NodeName}
use Rattle.ost_types.specs.Path.{Path, path_cmp}
use Rattle.ost_types.specs.PathMap.{Nodes, paths_of}
use Rattle.fs_trait.specs.View.{Disk}
use Rattle.fs_trait.specs.Seen.{Vacant, shows, IsDirectory}
use Rattle.tree_scan.specs.Scan.{Reads}
use Rattle.tree_scan.specs.Faults.{IsKept}
use Rattle.tree_scan.specs.Scanning.{Scanning}

-- whatever lies at the one path or below it comes before the other
abbrev pub ComesBefore : Path → Path → Type 0
ComesBefore p q = (rest : Path) → path_cmp (p ++ rest) q ≡ Less

abbrev pub AreInLine : List Path → Type 0
AreInLine [] = Unit {0}
AreInLine (p ∷ todo) = AllByRecursion (ComesBefore p) todo × AreInLine todo

-- all that was read comes before the path
abbrev pub ComesAfter : Nodes → Path → Type 0
ComesAfter found p = AllByRecursion (λ q. path_cmp q p ≡ Less) (paths_of found)

-- the path is that of one that waits, or lies below it
pub record Waits (todo : List Path) (p : Path) : Type 0 where
  pub item : Path
  pub among : Contains todo item
  pub rest : Path
  pub is : p ≡ item ++ rest

-- What stands at the folder's path and below was read, or waits; what was read stands there, with nothing wrong; and what waits
-- comes in the order of paths, after all that was read.
pub record IsSoFar (d : Disk) (t : Scanning) : Type 0 where
  pub root : (t.todo ≡ [] ∷ []) ⊎ IsDirectory (shows d t.at)
  pub all : (p : Path) → shows d (t.at ++ p) ≢ Vacant → Contains (paths_of t.found) p ⊎ Waits t.todo p
  pub sound : (p : Path) (n : NodeName) → Contains t.found (p, n) → Reads (shows d (t.at ++ p)) (Some n)
  pub kept : (p : Path) (n : NodeName) → Contains t.found (p, n) → IsKept t.limits.content d (t.at ++ p)
  pub few : length t.found ≤ t.limits.paths
  pub line : AreInLine t.todo
  pub after : AllByRecursion (ComesAfter t.found) t.todo
