-- What a call answers, and what it does to the view.
use Rattle.std.specs.Prelude.{◌≡◌, ◌≢◌, ◌==◌, ◌⊎◌, ◌≤◌, ◌<◌, ◌+◌, ℕ, Bool, true, false, IsTrue, List, [], ◌∷◌, ◌++◌, length, take, drop, Contains, Option, Some, None, Result, Ok, Err, IsErrOf}
use Rattle.ost_types.specs.declared.meta.Meta.{Meta}
use Rattle.std.specs.Cmp.Lexicographic.{slice_cmp}
use Rattle.std.specs.Ordering.{nat_cmp}
use Rattle.std.specs.List.Sorted.{IsStrictlySortedBy}
use Rattle.ost_types.specs.Path.{Name, Path, under}
use Rattle.fs_trait.specs.declared.types.Value.{Value}
use Rattle.fs_trait.specs.declared.types.Value.TheVariants.{Absent, Folder, Link, File}
use Rattle.fs_trait.specs.declared.types.FsErr.{FsErr}
use Rattle.fs_trait.specs.declared.types.FsErr.TheVariants.{Failed, Exists, Missing, NotFolder, NotEmpty, NoMemory}
use Rattle.fs_trait.specs.declared.types.Node as node
use Rattle.fs_trait.specs.Count.{last, Rose}
use Rattle.fs_trait.specs.View.{Disk, View, named, created, moved, extended, file_synced, folder_synced, all_synced}
use Rattle.fs_trait.specs.Image.{Holds, EachImage}

-- the first that refuses
abbrev pub or_else : Option FsErr → Option FsErr → Option FsErr
or_else (Some e) later = Some e
or_else None later = later

-- why a value doesn't let a path go on below it
abbrev pub no_way : Value → Option FsErr
no_way (Folder m) = None
no_way Absent = Some Missing
no_way (Link m t) = Some NotFolder
no_way (File n) = Some NotFolder

-- what the way to the last name meets, from a folder on
unfoldable pub way_from : Disk → Path → Path → Option FsErr
way_from d f [] = None
way_from d f (x ∷ []) = None
way_from d f (x ∷ y ∷ rest) = or_else (no_way (d.at (under f x))) (way_from d (under f x) (y ∷ rest))

abbrev pub way : Disk → Path → Option FsErr
way d p = way_from d [] p

abbrev pub if_there : Value → Option FsErr
if_there Absent = None
if_there x = Some Exists

abbrev pub unless_file : Value → Option FsErr
unless_file (File n) = None
unless_file x = Some Missing

abbrev pub unless_leaf : Value → Option FsErr
unless_leaf (File n) = None
unless_leaf (Link m t) = None
unless_leaf x = Some Missing

abbrev pub if_folder : Value → Option FsErr
if_folder (Folder m) = Some Exists
if_folder x = None

-- why a call is refused
unfoldable pub no_new : Path → Disk → Option FsErr
no_new p d = or_else (way d p) (if_there (d.at p))

unfoldable pub no_file : Path → Disk → Option FsErr
no_file p d = or_else (way d p) (unless_file (d.at p))

unfoldable pub no_leaf : Path → Disk → Option FsErr
no_leaf p d = or_else (way d p) (unless_leaf (d.at p))

unfoldable pub no_move : Path → Path → Disk → Option FsErr
no_move from to d = or_else (no_leaf from d) (or_else (way d to) (if_folder (d.at to)))

unfoldable pub no_folder : Path → Disk → Option FsErr
no_folder p d = or_else (way d p) (no_way (d.at p))

unfoldable pub no_link : Path → Path → Disk → Option FsErr
no_link from to d = or_else (no_leaf from d) (no_new to d)

-- whether a folder can't be removed for the names in it; the root never can
abbrev pub HasNames : Bool → Path → Disk → Type 0
HasNames true p d = (p ≡ []) ⊎ ((x : Name) × (d.at (under p x) ≢ Absent))
HasNames false p d = (p ≢ []) × ((x : Name) → d.at (under p x) ≡ Absent)

abbrev pub if_names : Bool → Option FsErr
if_names true = Some NotEmpty
if_names false = None

unfoldable pub no_rmdir : Bool → Path → Disk → Option FsErr
no_rmdir b p d = or_else (no_folder p d) (if_names b)

-- Which refusals a call has at all, told or not: those of a call that puts something at a path,
abbrev pub OfPlacing : FsErr → Type 0
OfPlacing NotEmpty = ⊥
OfPlacing e = Unit {0}

-- of one that finds something there,
abbrev pub OfFinding : FsErr → Type 0
OfFinding Exists = ⊥
OfFinding NotEmpty = ⊥
OfFinding e = Unit {0}

-- of the one that removes a folder,
abbrev pub OfEmptying : FsErr → Type 0
OfEmptying Exists = ⊥
OfEmptying e = Unit {0}

-- and of one that is never refused: it fails, or wants for memory.
abbrev pub OfNone : FsErr → Type 0
OfNone Failed = Unit {0}
OfNone NoMemory = Unit {0}
OfNone e = ⊥

-- the inode of a file, or any
abbrev pub inode_of : Value → ℕ
inode_of (File n) = n
inode_of x = 0

-- no name has had this inode
abbrev pub IsFresh : ℕ → View → Type 0
IsFresh n v = (q : Path) → Holds v q (File n) → ⊥

-- what is told after a changing call that answered an error
abbrev pub Fails : Option FsErr → View → View → FsErr → Option View → Type 0
Fails refusal v w Failed new = (new ≡ Some v) ⊎ ((refusal ≡ None) × (new ≡ Some w))
Fails refusal v w NoMemory new = new ≡ Some v
Fails refusal v w e new = (refusal ≡ Some e) × (new ≡ Some v)

-- what a changing call did to a view that is told
abbrev pub Changed : {T : Type 0} → Option FsErr → View → View → Result T FsErr → Option View → Type 0
Changed refusal v w (Ok x) new = (refusal ≡ None) × (new ≡ Some w)
Changed refusal v w (Err e) new = Fails refusal v w e new

-- the same of a call that makes an inode
abbrev pub Created : {T : Type 0} → Path → Meta → View → Result T FsErr → Option View → Type 0
Created p m v r new = (n : ℕ) × IsFresh n v × Changed (no_new p v.now) v (created p m n v) r new

-- the same of the call that removes a folder
abbrev pub Removed : {T : Type 0} → Path → View → Result T FsErr → Option View → Type 0
Removed p v r new = (b : Bool) × HasNames b p v.now × Changed (no_rmdir b p v.now) v (named p Absent v) r new

-- what `stat` tells of a value
abbrev pub IsNode : Disk → Value → Option node.Node → Type 0
IsNode d Absent x = x ≡ None
IsNode d (Folder m) x = x ≡ Some (node.TheVariants.Folder m)
IsNode d (Link m t) x = x ≡ Some (node.TheVariants.Link m t)
IsNode d (File n) x = x ≡ Some (node.TheVariants.File (d.meta n) (length (d.bytes n)))

-- whether both are regular files of one inode
abbrev pub one_inode : Value → Value → Bool
one_inode (File n) (File m) = n == m
one_inode x y = false

-- The names of a folder: each that isn't absent, once, ascending by their bytes.
pub record IsListing (d : Disk) (folder : Path) (names : List Name) : Type 0 where
  pub ascending : IsStrictlySortedBy (slice_cmp nat_cmp) names
  pub there : (x : Name) → Contains names x → d.at (under folder x) ≢ Absent
  pub all : (x : Name) → d.at (under folder x) ≢ Absent → Contains names x

-- the part of the bytes from one place on, at most so many
abbrev pub part : ℕ → ℕ → List ℕ → List ℕ
part from max b = take max (drop from b)

-- what a reading call answers
abbrev pub Answered : {T : Type 0} → Option FsErr → (T → Type 0) → Result T FsErr → Type 0
Answered refusal P (Ok x) = (refusal ≡ None) × P x
Answered refusal P (Err Failed) = Unit {0}
Answered refusal P (Err NoMemory) = Unit {0}
Answered refusal P (Err e) = refusal ≡ Some e

-- Time goes on: since t there were the views that were there before, and the one now.
pub record Elapses (before now : ℕ) (past since : ℕ → View → Type 0) (view : Option View) : Type 0 where
  pub later : before ≤ now
  pub soon : now ≤ before + 1
  pub nothing_else : (t : ℕ) (w : View) → t ≤ before → since t w → past t w ⊎ (view ≡ Some w)
  pub keeps : (t : ℕ) (w : View) → t ≤ before → past t w → since t w

-- `Failed` comes only where the count of faults rose, or stands at its last value
pub record HasCause {T : Type 0} (before now : ℕ) (result : Result T FsErr) : Type 0 where
  pub later : before ≤ now
  pub failed : IsErrOf result Failed → Rose before now

-- one more than before
pub record Next (before now : ℕ) : Type 0 where
  pub room : before < last
  pub is : now ≡ before + 1

-- The count of faults rises by one exactly where a call answers `Failed`; at its last value it stays.
pub record IsCounted {T : Type 0} (before now : ℕ) (result : Result T FsErr) : Type 0 where
  pub failed : IsErrOf result Failed → Next before now ⊎ ((before ≡ last) × (now ≡ before))
  pub other : (IsErrOf result Failed → ⊥) → now ≡ before

-- room for later calls: a call takes at most one, and where there is some it doesn't lack memory
pub record TakesRoom {T : Type 0} (owed : Bool) (before now : ℕ) (result : Result T FsErr) : Type 0 where
  pub at_most_one : before ≤ now + 1
  pub enough : IsTrue owed → 0 < before → IsErrOf result NoMemory → ⊥

-- over a run that began at this clock each image of each view has P
pub record LeavesEach (before now : ℕ) (past since : ℕ → View → Type 0) (P : Disk → Type 0) : Type 0 where
  pub later : before ≤ now
  pub each : (w : View) → since before w → EachImage w P
  -- for a run that began earlier
  pub older : (t : ℕ) (w : View) → t ≤ before → since t w → past t w ⊎ EachImage w P

-- Each changing call raises the clock by one, but one that lacked memory leaves it. At its last value each fails and leaves it.
abbrev pub Ticks : {T : Type 0} → ℕ → ℕ → Result T FsErr → Type 0
Ticks before now (Ok x) = Next before now
Ticks before now (Err NoMemory) = now ≡ before
Ticks before now (Err Failed) = Next before now ⊎ ((before ≡ last) × (now ≡ before))
Ticks before now (Err e) = Next before now

-- no time goes by, and nothing is changed
pub record IsQuiet (before now : ℕ) (past since : ℕ → View → Type 0) (old new : Option View) : Type 0 where
  pub view : new ≡ old
  pub clock : now ≡ before
  pub nothing_else : (t : ℕ) (w : View) → since t w → past t w
  pub keeps : (t : ℕ) (w : View) → past t w → since t w
