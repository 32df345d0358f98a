-- What each step of a removal needs, writes, tells and is refused for.
use Rattle.std.specs.Prelude.{◌≡◌, ◌≢◌, ◌⊎◌, IsTrue, List, [], ◌∷◌, reverse, Contains, Option, Some, None}
use Rattle.ost_types.specs.Path.{Name, Path, IsPath, is_below, under}
use Rattle.fs_trait.specs.declared.types.FsErr.{FsErr}
use Rattle.fs_trait.specs.declared.types.FsErr.TheVariants.{Failed, NoMemory, NotEmpty}
use Rattle.fs_trait.specs.declared.types.Value.TheVariants.{Absent}
use Rattle.fs_trait.specs.View.{Disk, View, named}
use Rattle.fs_trait.specs.Effect.{IsListing}
use Rattle.fs_trait.specs.Seen.{Seen, Vacant, Symlink, Leaf, shows, IsDirectory}
use Rattle.checkout.specs.declared.remove.look.Found.{Found}
use Rattle.checkout.specs.declared.remove.look.Found.TheVariants as found
use Rattle.checkout.specs.declared.remove.phase.Phase.{Phase}
use Rattle.checkout.specs.declared.remove.phase.Phase.TheVariants as phase
use Rattle.checkout.specs.RemoveFolder.{Opened}
use Rattle.checkout.specs.Remove.{Removing, IsMade, Act, Looks, Closes, Ends, act, act_of, passed, entered}

-- a regular file or a symbolic link
abbrev pub IsLeaf : Seen → Type 0
IsLeaf (Symlink m l) = Unit {0}
IsLeaf (Leaf n m b) = Unit {0}
IsLeaf s = ⊥

-- no name in the folder shows anything
abbrev pub IsEmpty : Disk → Path → Type 0
IsEmpty d p = (x : Name) → shows d (under p x) ≡ Vacant

-- what the next step removes: the leaf at the path that it looks at, or the folder that it closes, which is empty
abbrev pub goes_in : Act → Disk → Path → Type 0
goes_in (Looks q) d p = (p ≡ q) × IsLeaf (shows d p)
goes_in (Closes q) d p = (p ≡ q) × IsDirectory (shows d p) × IsEmpty d p
goes_in Ends d p = ⊥

-- it stands at the task's path or below it
pub record Goes (t : Removing) (d : Disk) (p : Path) : Type 0 where
  pub goes : goes_in (act t) d p
  pub below : IsTrue (is_below t.at p)

-- what the next step may write
abbrev pub WritesOf : Removing → View → Path → Seen → Type 0
WritesOf t v p s = Goes t v.now p × (s ≡ Vacant)

-- what it leaves, whatever it answers: the view as it was, or without the name of what it removes
abbrev pub Leaves : Removing → View → View → Type 0
Leaves t v w = (w ≡ v) ⊎ ((p : Path) × Goes t v.now p × (w ≡ named p Absent v))

-- What is known of an open folder: it is there; what stands in it wasn't seen to yet, or is the open folder in it; and what has too
-- long a path, and wasn't seen to yet, stands there.
pub record IsOpen (d : Disk) (inner : Option Path) (path : Path) (names : List Name) : Type 0 where
  pub folder : IsDirectory (shows d path)
  pub known : (x : Name) → (shows d (under path x) ≡ Vacant) ⊎ Contains names x ⊎ (inner ≡ Some (under path x))
  pub far : (x : Name) → Contains names x → IsPath (under path x) ⊎ (shows d (under path x) ≢ Vacant)

-- the same of all open folders, the innermost first
abbrev pub AreOpen : Disk → Option Path → List Opened → Type 0
AreOpen d inner [] = Unit {0}
AreOpen d inner (f ∷ outer) = IsOpen d inner f.path f.names × AreOpen d (Some f.path) outer

-- once it has ended, nothing stands at the path
abbrev pub known_in : Phase → Removing → Disk → Type 0
known_in phase.Look t d = Unit {0}
known_in (phase.Inside f) t d = AreOpen d None (f ∷ t.outer)
known_in phase.Ended t d = shows d t.at ≡ Vacant

-- What the next step needs. A new task needs nothing of the view.
pub record Needs (t : Removing) (v : View) : Type 0 where
  pub made : IsMade t
  pub known : known_in t.phase t v.now

-- What a look at a path leaves, whatever it answers: the view as it was, or without the name of a leaf that was there.
abbrev pub MayTake : Path → View → View → Type 0
MayTake p v w = (w ≡ v) ⊎ (IsLeaf (shows v.now p) × (w ≡ named p Absent v))

-- What it tells: nothing was there, or a leaf was, and is gone; or a folder is there, with these names.
abbrev pub Finds : Path → View → View → Found → Type 0
Finds p v w found.Nothing = ((shows v.now p ≡ Vacant) × (w ≡ v)) ⊎ (IsLeaf (shows v.now p) × (w ≡ named p Absent v))
Finds p v w (found.Folder names) = (w ≡ v) × IsDirectory (shows v.now p) × IsListing v.now p names

-- What came of the task by that: the path is seen to, or the folder is open, the last of its names the next.
abbrev pub Came : Path → Removing → Removing → View → View → Type 0
Came p old new v w =
    (Finds p v w found.Nothing × (new ≡ passed old))
    ⊎ ((names : List Name) × Finds p v w (found.Folder names) × (new ≡ entered p (reverse names) old))

-- What a step that is done tells of the view before it and the one after it.
abbrev pub tells_in : Act → Removing → Removing → View → View → Type 0
tells_in (Looks p) old new v w = Came p old new v w
tells_in (Closes p) old new v w = w ≡ named p Absent v
tells_in Ends old new v w = w ≡ v

abbrev pub Tells : Removing → Removing → View → View → Type 0
Tells old = tells_in (act old) old

-- Why a step isn't done: the call failed or wanted for memory, or what stands at the path that it would look at has too long a path.
abbrev pub IsFar : Disk → Act → Type 0
IsFar d (Looks p) = (shows d p ≢ Vacant) × (¬ (IsPath p))
IsFar d a = ⊥

abbrev pub Refuses : Removing → View → FsErr → Type 0
Refuses t v Failed = Unit {0}
Refuses t v NoMemory = Unit {0}
Refuses t v NotEmpty = IsFar v.now (act t)
Refuses t v e = ⊥

-- why there is no path to look at: memory lacks for it, or the next name's would be too long
abbrev pub IsBarred : Opened → FsErr → Type 0
IsBarred f NoMemory = Unit {0}
IsBarred f NotEmpty = (p : Path) × (act_of f.path f.names ≡ Looks p) × (¬ (IsPath p))
IsBarred f e = ⊥

abbrev pub IsBarredIn : Phase → FsErr → Type 0
IsBarredIn (phase.Inside f) e = IsBarred f e
IsBarredIn ph NoMemory = Unit {0}
IsBarredIn ph e = ⊥
