-- What a disk shows of the state.
use Rattle.std.specs.Prelude.{◌≡◌, ℕ, List, Option, Some, None}
use Rattle.ost_types.specs.Path.{Path}
use Rattle.fs_trait.specs.View.{Disk}
use Rattle.fs_trait.specs.Seen.{Seen, Symlink, Leaf, shows, bytes_in}
use Rattle.repo_layout.specs.Paths.{ref_path}
use Rattle.repo_layout.specs.Place.{Place, Other}
use Rattle.repo_layout.specs.RefFile.{IsSum, ref_text}
use Rattle.repo_layout.specs.Refs.{Names, Lacks}
use Rattle.rely_guarantee.specs.State.{Topic, RefOf, Said, State}

-- where the state's topics stand
abbrev pub path_of : Topic → Path
path_of (RefOf name) = ref_path name

abbrev pub IsLeaf : Seen → Type 0
IsLeaf (Symlink m t) = Unit {0}
IsLeaf (Leaf n m b) = Unit {0}
IsLeaf s = ⊥

-- what is shown there says this
abbrev pub Says : Topic → Said → Seen → Type 0
Says (RefOf name) None s = IsLeaf s → ⊥
Says (RefOf name) (Some commit) s = IsSum commit × (bytes_in s ≡ Some (ref_text commit))

-- the disk has this state
abbrev pub Logical : Disk → State → Type 0
Logical d state = (t : Topic) → Says t (state t) (shows d (path_of t))

-- a ref of a disk: its commit, or none
abbrev pub HasRef : Disk → List ℕ → Option (List ℕ) → Type 0
HasRef d name None = Lacks d name
HasRef d name (Some commit) = Names d name commit

-- no place of the layout
abbrev pub IsOther : Place → Type 0
IsOther (Other p) = Unit {0}
IsOther x = ⊥
