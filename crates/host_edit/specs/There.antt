-- What stands at a path, and in which folder.
use Rattle.std.specs.Prelude.{◌≡◌, ◌≢◌, true}
use Rattle.ost_types.specs.Path.{Name, Path, is_in, under}
use Rattle.fs_trait.specs.View.{Disk}
use Rattle.fs_trait.specs.Seen.{Seen, Vacant, Symlink, Leaf, shows, IsDirectory, NotDirectory}
use Rattle.host_edit.specs.declared.there.There.{There}
use Rattle.host_edit.specs.declared.there.There.TheVariants as there

-- the folder that the path is in is there, or it isn't
abbrev pub HasParent : Disk → Path → Type 0
HasParent d at = (f : Path) → is_in f at ≡ true → IsDirectory (shows d f)

abbrev pub LacksParent : Disk → Path → Type 0
LacksParent d at = (f : Path) → is_in f at ≡ true → NotDirectory (shows d f)

abbrev pub IsLeaf : Seen → Type 0
IsLeaf (Symlink m t) = Unit {0}
IsLeaf (Leaf n m b) = Unit {0}
IsLeaf s = ⊥

-- a folder stands there that has no names, or one that has some
abbrev pub IsEmptyFolder : Disk → Path → Type 0
IsEmptyFolder d at = IsDirectory (shows d at) × ((x : Name) → shows d (under at x) ≡ Vacant)

abbrev pub IsFullFolder : Disk → Path → Type 0
IsFullFolder d at = IsDirectory (shows d at) × ((x : Name) × (shows d (under at x) ≢ Vacant))

abbrev pub IsThere : Disk → Path → There → Type 0
IsThere d at there.NoFolder = LacksParent d at
IsThere d at there.Vacant = HasParent d at × (shows d at ≡ Vacant)
IsThere d at there.Leaf = HasParent d at × IsLeaf (shows d at)
IsThere d at there.EmptyFolder = HasParent d at × IsEmptyFolder d at
IsThere d at there.FullFolder = HasParent d at × IsFullFolder d at
