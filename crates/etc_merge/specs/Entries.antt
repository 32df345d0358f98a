-- Entries of trees in the order of their paths, and what is left of them.
use Rattle.std.specs.Prelude.{◌≡◌, ◌≢◌, ◌⊎◌, ◌++◌, ◌∷◌, [], Option, Some, None}
use Rattle.std.specs.declared.cmp.Ordering.TheVariants.{Less}
use Rattle.ost_types.specs.declared.node.NodeName.{NodeName}
use Rattle.ost_types.specs.Path.{Path, path_cmp}
use Rattle.ost_types.specs.PathMap.{Nodes}

-- each comes before the path
abbrev pub AllBefore : Nodes → Path → Type 0
AllBefore [] p = Unit {0}
AllBefore (e ∷ m) p = (path_cmp e.0 p ≡ Less) × AllBefore m p

-- each comes after it
abbrev pub AllAfter : Path → Nodes → Type 0
AllAfter p [] = Unit {0}
AllAfter p (e ∷ m) = (path_cmp p e.0 ≡ Less) × AllAfter p m

-- the first doesn't come before it
abbrev pub StartsFrom : Path → Nodes → Type 0
StartsFrom p [] = Unit {0}
StartsFrom p (e ∷ m) = path_cmp e.0 p ≢ Less

-- Without those that come before the path.
pub record IsFrom (whole : Nodes) (p : Path) (left : Nodes) : Type 0 where
  pub front : Nodes
  pub is : whole ≡ front ++ left
  pub before : AllBefore front p
  pub starts : StartsFrom p left

-- an entry, if there is a node
abbrev pub entry_of : Path → Option NodeName → Nodes
entry_of p None = []
entry_of p (Some n) = (p, n) ∷ []

-- the entries are that one, if there is a node, and those that are left, which come after it
abbrev pub IsTaken : Path → Option NodeName → Nodes → Nodes → Type 0
IsTaken p node whole left = (whole ≡ entry_of p node ++ left) × AllAfter p left

-- The first path that one of the two has.
pub record IsNext (current new : Nodes) (p : Path) (here coming : Option NodeName) (current_left new_left : Nodes) : Type 0 where
  pub in_current : IsTaken p here current current_left
  pub in_new : IsTaken p coming new new_left
  pub some : (here ≢ None) ⊎ (coming ≢ None)
