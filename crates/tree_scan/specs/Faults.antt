-- Why what stands at a path isn't read as a map.
use Rattle.std.specs.Prelude.{◌≡◌, ◌≢◌, ◌⊎◌, ◌≤◌, ◌<◌, ◌++◌, ℕ, length, Contains, Some}
use Rattle.std.specs.declared.cmp.Ordering.TheVariants.{Less}
use Rattle.ost_types.specs.declared.limits.Limits.{Limits}
use Rattle.ost_types.specs.declared.node.NodeName.{NodeName}
use Rattle.ost_types.specs.Mode.{IsFolderMode}
use Rattle.ost_types.specs.Path.{Name, Path, IsPath, path_cmp, under}
use Rattle.ost_types.specs.PathMap.{Nodes, paths_of}
use Rattle.ost_forms.specs.declared.body.Body.TheVariants.{Regular, Symlink as Link}
use Rattle.ost_forms.specs.Stream.{FitsMode}
use Rattle.fs_trait.specs.View.{Disk}
use Rattle.fs_trait.specs.Seen.{Seen, Vacant, Directory, Symlink, Leaf, shows, IsDirectory, NotDirectory}
use Rattle.tree_scan.specs.Scan.{Reads}
use Rattle.tree_scan.specs.declared.fault.ScanFault.{ScanFault}
use Rattle.tree_scan.specs.declared.fault.ScanFault.TheVariants.{NotFolder, Unreadable, TooMany, TooLong}

-- no node of a tree: its mode isn't that of what it is, a link leads nowhere, or a file's content is above the limit
abbrev pub IsUnreadable : ℕ → Seen → Type 0
IsUnreadable limit Vacant = ⊥
IsUnreadable limit (Directory m) = IsFolderMode m.mode → ⊥
IsUnreadable limit (Symlink m target) = FitsMode m.mode (Link target) → ⊥
IsUnreadable limit (Leaf n m bytes) = (limit < length bytes) ⊎ (FitsMode m.mode (Regular bytes) → ⊥)

-- A folder has a name whose path is past the bounds of paths.
pub record HasFar (d : Disk) (folder : Path) : Type 0 where
  pub is_folder : IsDirectory (shows d folder)
  pub name : Name
  pub there : shows d (under folder name) ≢ Vacant
  pub far : IsPath (under folder name) → ⊥

-- a node of a tree, at a path within the bounds
pub record IsKept (limit : ℕ) (d : Disk) (p : Path) : Type 0 where
  pub readable : IsUnreadable limit (shows d p) → ⊥
  pub path : IsPath p

-- So is each that stands in the folder, and there are no more than the limit.
pub record HasNoFault (d : Disk) (at : Path) (limits : Limits) (map : Nodes) : Type 0 where
  pub each : (p : Path) → shows d (at ++ p) ≢ Vacant → IsKept limits.content d (at ++ p)
  pub few : length map ≤ limits.paths

-- The map is what stands at the paths before this one; nothing is wrong with it, and it has no more paths than the limit.
pub record IsBefore (d : Disk) (at : Path) (limits : Limits) (map : Nodes) (p : Path) : Type 0 where
  pub sound : (q : Path) (n : NodeName) → Contains map (q, n) → Reads (shows d (at ++ q)) (Some n)
  pub earlier : (q : Path) → Contains (paths_of map) q → path_cmp q p ≡ Less
  pub all : (q : Path) → shows d (at ++ q) ≢ Vacant → path_cmp q p ≡ Less → Contains (paths_of map) q
  pub kept : (q : Path) (n : NodeName) → Contains map (q, n) → IsKept limits.content d (at ++ q)
  pub few : length map ≤ limits.paths

-- As many paths as the limit come before one at which something stands.
pub record HasMore (d : Disk) (at : Path) (limits : Limits) (map : Nodes) : Type 0 where
  pub path : Path
  pub there : shows d (at ++ path) ≢ Vacant
  pub before : IsBefore d at limits map path
  pub full : length map ≡ limits.paths

-- What each fault says. Of two that hold, the one at the path that comes first is told; at one path the first of: no folder,
-- unreadable, too many paths, too long a path.
abbrev pub IsFault : Disk → Path → Limits → Nodes → ScanFault → Type 0
IsFault d at limits map NotFolder = NotDirectory (shows d at)
IsFault d at limits map (Unreadable p) = IsUnreadable limits.content (shows d (at ++ p)) × IsBefore d at limits map p
IsFault d at limits map TooMany = HasMore d at limits map
IsFault d at limits map (TooLong p) = HasFar d (at ++ p) × IsBefore d at limits map p
