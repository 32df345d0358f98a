-- Which paths a change names.
use Rattle.std.specs.Prelude.{List, [], ◌∷◌, ◌++◌}
use Rattle.ost_types.specs.Path.{Path}
use Rattle.memory_record.specs.declared.change.Change.{Change}
use Rattle.memory_record.specs.declared.change.Change.TheVariants.{Name, Create, Move}

-- the path, unless it is the root
abbrev pub below_root : Path → List Path
below_root [] = []
below_root (x ∷ p) = (x ∷ p) ∷ []

abbrev pub named_by : Change → List Path
named_by (Name p x) = below_root p
named_by (Create p m n) = below_root p
named_by (Move from to) = below_root from ++ below_root to
named_by c = []
