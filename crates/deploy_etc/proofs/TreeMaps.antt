-- The maps that are trees, as a merge and a checkout say it: the same maps.
use Rattle.ost_types.specs.PathMap.{Nodes}
use Rattle.checkout.specs.CheckoutFolder.{IsTreeMap as IsCheckedOut}
use Rattle.etc_merge.specs.Merging.{IsTreeMap as IsMerged}

pub as_checked_out : (t : Nodes) → IsMerged t → IsCheckedOut t
as_checked_out t tree = record { root = tree.root; inner = tree.inner }

pub as_merged : (t : Nodes) → IsCheckedOut t → IsMerged t
as_merged t tree = record { root = tree.root; inner = tree.inner }
