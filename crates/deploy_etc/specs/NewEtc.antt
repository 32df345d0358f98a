-- What the `etc` of a new deployment is to be.
use Rattle.std.specs.Prelude.{◌≡◌, ◌++◌, All, Option, Some, None, Result, Ok, Err}
use Rattle.ost_types.specs.declared.node.NodeName.{NodeName}
use Rattle.ost_types.specs.Path.{Path, IsPath}
use Rattle.ost_types.specs.PathMap.{Nodes, node_at}
use Rattle.checkout.specs.CheckoutFolder.{IsTreeMap}
use Rattle.etc_merge.specs.declared.fault.MergeFault.{MergeFault}
use Rattle.etc_merge.specs.Merging.{IsConflict, IsMerge, IsRefused}
use Rattle.deploy_etc.specs.declared.merging.MergeSource.{MergeSource}

-- the three maps that are merged are trees
pub record AreTrees (source : MergeSource) (defaults : Nodes) : Type 0 where
  pub before : IsTreeMap source.defaults
  pub now : IsTreeMap source.etc
  pub coming : IsTreeMap defaults

-- The defaults themselves, where there is no deployment from which the configuration is taken over. Else their merge with what was
-- changed there, where no path conflicts; where one does, the least of them is told.
abbrev pub Gives : Option MergeSource → Nodes → Result Nodes MergeFault → Type 0
Gives None defaults result = result ≡ Ok defaults
Gives (Some source) defaults (Ok etc) = IsMerge source.defaults source.etc defaults etc × ((p : Path) → IsConflict source.defaults source.etc defaults p → ⊥)
Gives (Some source) defaults (Err fault) = IsRefused source.defaults source.etc defaults fault

-- each path of the map, put below the folder, keeps the bounds of paths
abbrev pub FitsIn : Path → Nodes → Type 0
FitsIn into m = All (λ e. IsPath (into ++ e.0)) m

-- there is a source, and its `etc` has the node at the path
abbrev pub StoodAt : Path → NodeName → Option MergeSource → Type 0
StoodAt p n None = ⊥
StoodAt p n (Some source) = node_at source.etc p ≡ Some n
