-- A map that holds a function on paths.
use Rattle.std.specs.Prelude.{◌≡◌, ◌≢◌, ℕ, Bool, true, false, List, [], Option, Some, None, Contains}
use Rattle.std.specs.Cmp.Lexicographic.{slice_cmp}
use Rattle.std.specs.List.Sorted.{IsStrictlySortedBy}
use Rattle.std.specs.Ordering.{nat_cmp}
use Rattle.ost_types.specs.Path.{Name, Path, AreNames, under}
use Rattle.ost_types.specs.Flat.{flat}
use Rattle.memory_table.specs.declared.folder.Folder.{Folder}
use Rattle.memory_table.specs.declared.tree.Tree.{Tree}
use Rattle.memory_table.specs.Bytes.{at_bytes}

-- what a folder has at a name, if there is one
abbrev pub look_in : {V : Type 0} → Name → Option (Folder V) → Option V
look_in x None = None
look_in x (Some folder) = at_bytes folder.values x

-- what a map has at a name in the folder with this text
abbrev pub look : {V : Type 0} → Tree V → List ℕ → Name → Option V
look m t x = look_in x (at_bytes m.folders t)

-- the map has what the function has
pub record Holds {V : Type 0} (m : Tree V) (g : Path → Option V) : Type 0 where
  pub root : m.root ≡ g []
  pub below : (f : Path) (x : Name) → AreNames f → look m (flat f) x ≡ g (under f x)

-- whether the function has anything directly in a folder
abbrev pub HasAny : {V : Type 0} → Bool → (Path → Option V) → Path → Type 0
HasAny true g f = (x : Name) × (g (under f x) ≢ None)
HasAny false g f = (x : Name) → g (under f x) ≡ None

-- the names that the function has directly in a folder, ascending
pub record IsNamesIn {V : Type 0} (g : Path → Option V) (f : Path) (names : List Name) : Type 0 where
  pub ascending : IsStrictlySortedBy (slice_cmp nat_cmp) names
  pub there : (x : Name) → Contains names x → g (under f x) ≢ None
  pub all : (x : Name) → g (under f x) ≢ None → Contains names x
