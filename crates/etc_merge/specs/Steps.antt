-- What the merge has at one path, case by case, by the entries that are left.
use Rattle.std.specs.Prelude.{◌≡◌, ◌≢◌, true, Option, Some, None}
use Rattle.ost_types.specs.declared.node.NodeName.{NodeName}
use Rattle.ost_types.specs.Path.{Path, is_below}
use Rattle.ost_types.specs.PathMap.{Nodes, node_at}
use Rattle.etc_merge.specs.Merging.{AreUnlike, HasKeptBelow, IsKept, IsLeaf, IsRemoved}

-- the path lies below one that is gone
abbrev pub IsUnder : Option Path → Path → Type 0
IsUnder None p = ⊥
IsUnder (Some gone) p = is_below gone p ≡ true

-- At a path of the current tree, which has this node there and the rest behind it.
pub data OfCurrent (base rest : Nodes) (p : Path) (node : NodeName) (coming result : Option NodeName) : Type 0 where
  keeps : node_at base p ≢ Some node → result ≡ Some node → OfCurrent base rest p node coming result
  takes : node_at base p ≡ Some node → coming ≢ None → result ≡ coming → OfCurrent base rest p node coming result
  holds : node_at base p ≡ Some node → coming ≡ None → HasKeptBelow base rest p → result ≡ Some node → OfCurrent base rest p node coming result
  goes : node_at base p ≡ Some node → coming ≡ None → (HasKeptBelow base rest p → ⊥) → result ≡ None → OfCurrent base rest p node coming result

-- At a path that the new tree alone has.
pub data OfNew (base : Nodes) (gone : Option Path) (p : Path) (coming result : Option NodeName) (next : Option Path) : Type 0 where
  under : IsUnder gone p → result ≡ None → next ≡ gone → OfNew base gone p coming result next
  removed : (IsUnder gone p → ⊥) → node_at base p ≢ None → result ≡ None → next ≡ Some p → OfNew base gone p coming result next
  comes : (IsUnder gone p → ⊥) → node_at base p ≡ None → result ≡ coming → next ≡ gone → OfNew base gone p coming result next

abbrev pub IsStep : Nodes → Nodes → Option Path → Path → Option NodeName → Option NodeName → Option NodeName → Option Path → Type 0
IsStep base rest gone p (Some node) coming result next = OfCurrent base rest p node coming result × (next ≡ gone)
IsStep base rest gone p None coming result next = OfNew base gone p coming result next

-- The merge is refused at the path of this node, behind which the current tree has the rest.
pub data ConflictHere (base rest new : Nodes) (p : Path) (node : NodeName) : Type 0 where
  unlike : (other : NodeName) → node_at base p ≢ Some node → node_at new p ≡ Some other → AreUnlike node other → ConflictHere base rest new p node
  holds : (other : NodeName) → node_at base p ≡ Some node → node_at new p ≡ Some other → IsLeaf other → HasKeptBelow base rest p → ConflictHere base rest new p node

-- It isn't.
pub data AgreesHere (base rest new : Nodes) (p : Path) (node : NodeName) : Type 0 where
  nothing : node_at new p ≡ None → AgreesHere base rest new p node
  alike : (other : NodeName) → node_at base p ≢ Some node → node_at new p ≡ Some other → (AreUnlike node other → ⊥) → AgreesHere base rest new p node
  same : (other : NodeName) → node_at base p ≡ Some node → node_at new p ≡ Some other → (IsLeaf other → HasKeptBelow base rest p → ⊥) → AgreesHere base rest new p node

-- Why the merge has this at a path.
pub data MergedBy (base current new : Nodes) (p : Path) (node : Option NodeName) : Type 0 where
  nowhere : node_at current p ≡ None → node_at new p ≡ None → node ≡ None → MergedBy base current new p node
  kept : IsKept base current p → node ≡ node_at current p → MergedBy base current new p node
  removed : node_at current p ≡ None → IsRemoved base current p → node ≡ None → MergedBy base current new p node
  held : (IsKept base current p → ⊥) → (IsRemoved base current p → ⊥) → node_at new p ≡ None → HasKeptBelow base current p → node ≡ node_at current p → MergedBy base current new p node
  coming : (IsKept base current p → ⊥) → (IsRemoved base current p → ⊥) → (node_at new p ≡ None → HasKeptBelow base current p → ⊥) → node ≡ node_at new p → MergedBy base current new p node

abbrev pub IsMergedBy : Nodes → Nodes → Nodes → Nodes → Type 0
IsMergedBy base current new merged = (p : Path) → MergedBy base current new p (node_at merged p)
