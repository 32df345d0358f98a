-- Items that wait in the order of their paths, the first one last, and pairs that come before them.
use Rattle.std.specs.Prelude.{◌≡◌, List, [], ◌∷◌, ◌++◌}
use Rattle.std.specs.List.{AllByRecursion}
use Rattle.std.specs.declared.cmp.Ordering.TheVariants.{Less}
use Rattle.ost_types.specs.Path.{Path, path_cmp}
use Rattle.ost_types.specs.PathMap.{Nodes, paths_of}
use Rattle.tree_read.specs.declared.item.Named.{Named}
use Rattle.tree_read.specs.declared.item.Named.TheVariants.{Folder, Attributes, File}
use Rattle.tree_read.specs.declared.item.Item.{Item}
use Rattle.tree_read.specs.Order.{IsShort}

-- where below its path an item may show something
abbrev pub Reaches : Named → Path → Type 0
Reaches (Folder tree meta) rest = Unit {0}
Reaches (Attributes meta) rest = rest ≡ []
Reaches (File sum) rest = rest ≡ []

-- all of the one comes before the other
abbrev pub ComesBefore : Item → Item → Type 0
ComesBefore i j = (rest : Path) → Reaches i.named rest → path_cmp (i.path ++ rest) j.path ≡ Less

abbrev pub AreInLine : List Item → Type 0
AreInLine [] = Unit {0}
AreInLine (j ∷ items) = AllByRecursion (λ i. ComesBefore i j) items × AreInLine items

abbrev pub AreAfter : Nodes → Item → Type 0
AreAfter found i = AllByRecursion (λ q. path_cmp q i.path ≡ Less) (paths_of found)

pub record InLine (found : Nodes) (items : List Item) : Type 0 where
  pub line : AreInLine items
  pub after : AllByRecursion (AreAfter found) items
  pub short : AllByRecursion (λ i. IsShort i.path) items
