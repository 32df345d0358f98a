-- The paths of a tree that is to be committed, and which path makes them no tree.
use Rattle.std.specs.Prelude.{true, ◌≡◌, ◌⊎◌, ◌≤◌, ◌<◌, ◌+◌, ◌^◌, ℕ, List, [], ◌∷◌, length, map, replicate, slice_index_or, All, Contains, Option, Some, None}
use Rattle.std.specs.List.Sorted.{IsStrictlySortedBy}
use Rattle.std.specs.declared.cmp.Ordering.TheVariants.{Less}
use Rattle.ost_types.specs.declared.meta.Meta.{Meta}
use Rattle.ost_types.specs.Mode.{IsFolderMode}
use Rattle.ost_types.specs.Path.{Name, Path, AreNames, path_cmp, text_of, under, is_below}
use Rattle.ost_forms.specs.declared.body.Body.{Body}
use Rattle.ost_forms.specs.declared.body.Body.TheVariants.{Regular, Symlink}
use Rattle.ost_forms.specs.declared.tree_item.BodySpec.{BodySpec}
use Rattle.ost_forms.specs.declared.tree_item.BodySpec.TheVariants.{Given, Fill, Target}
use Rattle.ost_forms.specs.declared.tree_item.TreeItem.{TreeItem}
use Rattle.ost_forms.specs.Stream.{FitsMode}

-- what a path is to hold
abbrev pub body_of : BodySpec → Body
body_of (Given bytes) = Regular bytes
body_of (Fill count byte) = Regular (replicate count byte)
body_of (Target target) = Symlink target

-- The mode is that of a folder, of a regular file or of a link, as the body is, and no link leads nowhere.
abbrev pub FitsBody : ℕ → Option BodySpec → Type 0
FitsBody mode None = IsFolderMode mode
FitsBody mode (Some body) = FitsMode mode (body_of body)

abbrev pub paths_of : List TreeItem → List Path
paths_of = map (λ i. i.path)

-- Each path comes before those after it, and has at most 64 names and 1,024 bytes of text.
pub record AreItems (items : List TreeItem) : Type 0 where
  pub ascending : IsStrictlySortedBy path_cmp (paths_of items)
  pub few : All (λ i. length i.path ≤ 64) items
  pub short : All (λ i. length (text_of i.path) ≤ 1024) items
  pub modes : All (λ i. FitsBody i.meta.mode i.body) items

-- the numbers of attributes have 32 bits
pub record IsWide (m : Meta) : Type 0 where
  pub uid : m.uid < 2 ^ 32
  pub gid : m.gid < 2 ^ 32
  pub mode : m.mode < 2 ^ 32

-- what the types of the items keep
pub record AreTyped (items : List TreeItem) : Type 0 where
  pub names : All (λ i. AreNames i.path) items
  pub numbers : All (λ i. IsWide i.meta) items

-- an item stands at the path, or a folder does
pub record HasItem (items : List TreeItem) (p : Path) : Type 0 where
  pub item : TreeItem
  pub among : Contains items item
  pub at : item.path ≡ p

pub record HasFolder (items : List TreeItem) (p : Path) : Type 0 where
  pub item : TreeItem
  pub among : Contains items item
  pub at : item.path ≡ p
  pub folder : item.body ≡ None

-- the path is a name in a folder of the items
pub record IsInFolder (items : List TreeItem) (p : Path) : Type 0 where
  pub folder : Path
  pub name : Name
  pub is : p ≡ under folder name
  pub there : HasFolder items folder

-- The path is the root, and no folder stands there; or it is an item's, and lies in no folder of the items.
abbrev pub IsBadPath : List TreeItem → Path → Type 0
IsBadPath items [] = HasFolder items [] → ⊥
IsBadPath items (x ∷ p) = HasItem items (x ∷ p) × (IsInFolder items (x ∷ p) → ⊥)

pub record IsLeastBad (items : List TreeItem) (p : Path) : Type 0 where
  pub bad : IsBadPath items p
  pub least : (q : Path) → IsBadPath items q → path_cmp q p ≡ Less → ⊥

-- A folder stands at the root, and each other item lies in a folder of the items: no path is bad.
pub record IsTree (items : List TreeItem) : Type 0 where
  pub root : HasFolder items []
  pub inner : (item : TreeItem) → Contains items item → (item.path ≡ []) ⊎ IsInFolder items item.path

-- ---- how the least is found

-- The path is a name in the folder that this item is, or in one on the way to it.
pub record GoesOn (earlier : TreeItem) (p : Path) : Type 0 where
  pub folder : Path
  pub name : Name
  pub is : p ≡ under folder name
  pub above : is_below folder earlier.path ≡ true
  pub shut : (folder ≡ earlier.path) → earlier.body ≡ None

abbrev pub StartsAtRoot : List TreeItem → Type 0
StartsAtRoot [] = ⊥
StartsAtRoot (i ∷ items) = (i.path ≡ []) × (i.body ≡ None)

-- ---- how it is found that they are items

pub record IsItem (i : TreeItem) : Type 0 where
  pub few : length i.path ≤ 64
  pub short : length (text_of i.path) ≤ 1024
  pub mode : FitsBody i.meta.mode i.body

-- The path comes before the next one, if there is one.
abbrev pub IsBefore : List TreeItem → ℕ → Type 0
IsBefore items n = n + 1 < length items → (i j : TreeItem) → path_cmp (slice_index_or items n i).path (slice_index_or items (n + 1) j).path ≡ Less
