-- The merge of three trees, as maps from paths to nodes. Two leaves are the same where their objects have the same name, two folders where
-- their attributes are the same: so nodes are the same where they are equal.
use Rattle.std.specs.Prelude.{◌≡◌, ◌≢◌, ◌⊎◌, ◌<◌, [], ℕ, true, length, slice_index_or, Option, Some, None}
use Rattle.ost_types.specs.declared.meta.Meta.{Meta}
use Rattle.ost_types.specs.declared.node.NodeName.{NodeName}
use Rattle.ost_types.specs.declared.node.NodeName.TheVariants.{Folder, Leaf}
use Rattle.ost_types.specs.Path.{Name, Path, is_below, path_cmp, under}
use Rattle.ost_types.specs.PathMap.{Nodes, node_at}
use Rattle.std.specs.declared.cmp.Ordering.TheVariants.{Less}
use Rattle.etc_merge.specs.declared.fault.MergeFault.{MergeFault}
use Rattle.etc_merge.specs.declared.fault.MergeFault.TheVariants.{EtcConflict, NoMemory}

-- The map is a tree: a folder at the root, and at the folder of each path that it has.
pub record IsTreeMap (tree : Nodes) : Type 0 where
  pub root : (m : Meta) × (node_at tree [] ≡ Some (Folder m))
  pub inner : (f : Path) (x : Name) (n : NodeName) → node_at tree (under f x) ≡ Some n → (m : Meta) × (node_at tree f ≡ Some (Folder m))

pub record AreTrees (base current new : Nodes) : Type 0 where
  pub before : IsTreeMap base
  pub now : IsTreeMap current
  pub coming : IsTreeMap new

-- what stands there now isn't what stood there at first
abbrev pub IsKept : Nodes → Nodes → Path → Type 0
IsKept base current p = (node_at current p ≢ None) × (node_at base p ≢ node_at current p)

-- it, or a folder above it, stood there at first and doesn't now
abbrev pub IsRemoved : Nodes → Nodes → Path → Type 0
IsRemoved base current p = (q : Path) × (is_below q p ≡ true) × (node_at base q ≢ None) × (node_at current q ≡ None)

-- something below it is kept
abbrev pub HasKeptBelow : Nodes → Nodes → Path → Type 0
HasKeptBelow base current p = (q : Path) × (is_below p q ≡ true) × (q ≢ p) × IsKept base current q

abbrev pub IsLeaf : NodeName → Type 0
IsLeaf (Leaf sum) = Unit {0}
IsLeaf (Folder m) = ⊥

-- just one is a folder
abbrev pub AreUnlike : NodeName → NodeName → Type 0
AreUnlike (Folder m) (Leaf sum) = Unit {0}
AreUnlike (Leaf sum) (Folder m) = Unit {0}
AreUnlike one other = ⊥

-- What is kept and what is to come can't both be; or something below is kept, and what is to come is no folder.
abbrev pub IsConflict : Nodes → Nodes → Nodes → Path → Type 0
IsConflict base current new p =
    (IsKept base current p × (one : NodeName) × (other : NodeName) × (node_at current p ≡ Some one) × (node_at new p ≡ Some other) × AreUnlike one other)
    ⊎ ((IsKept base current p → ⊥) × HasKeptBelow base current p × (other : NodeName) × (node_at new p ≡ Some other) × IsLeaf other)

-- What the merge has at a path: what is kept; else nothing where it was removed; else what stands there now, where nothing is to come and
-- something below is kept; else what is to come.
pub record IsMergedAt (base current new : Nodes) (p : Path) (node : Option NodeName) : Type 0 where
  pub kept : IsKept base current p → node ≡ node_at current p
  pub removed : (IsKept base current p → ⊥) → IsRemoved base current p → node ≡ None
  pub holds : (IsKept base current p → ⊥) → (IsRemoved base current p → ⊥) → node_at new p ≡ None → HasKeptBelow base current p → node ≡ node_at current p
  pub comes : (IsKept base current p → ⊥) → (IsRemoved base current p → ⊥) → (node_at new p ≡ None → HasKeptBelow base current p → ⊥) → node ≡ node_at new p

-- so at each path
abbrev pub IsMerge : Nodes → Nodes → Nodes → Nodes → Type 0
IsMerge base current new merged = (p : Path) → IsMergedAt base current new p (node_at merged p)

-- no path before it conflicts
abbrev pub IsLeast : Nodes → Nodes → Nodes → Path → Type 0
IsLeast base current new p = IsConflict base current new p × ((q : Path) → path_cmp q p ≡ Less → IsConflict base current new q → ⊥)

-- the place of the least conflict in the current tree, or there is none
abbrev pub IsLeastConflict : Nodes → Nodes → Nodes → Option ℕ → Type 0
IsLeastConflict base current new None = (p : Path) → IsConflict base current new p → ⊥
IsLeastConflict base current new (Some at) = (at < length current) × ((e : Path × NodeName) → IsLeast base current new (slice_index_or current at e).0)

abbrev pub IsRefused : Nodes → Nodes → Nodes → MergeFault → Type 0
IsRefused base current new (EtcConflict p) = IsLeast base current new p
IsRefused base current new NoMemory = Unit {0}
