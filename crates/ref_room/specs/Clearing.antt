-- What stands at and below a ref's path where no leaf stands there: what each step needs, writes and answers.
use Rattle.std.specs.Prelude.{◌≡◌, ◌≢◌, ◌⊎◌, ◌+◌, ◌-◌, ◌*◌, ◌++◌, ◌∷◌, ℕ, List, [], length, take, slice_index_or, Contains, if◌then◌else◌, Option, Some, None, Result, Ok, Err}
use Rattle.std.specs.Cmp.Lexicographic.{slice_cmp}
use Rattle.std.specs.Ordering.{nat_cmp, is_lt}
use Rattle.std.specs.declared.cmp.Ordering.TheVariants.{Less}
use Rattle.ost_types.specs.Path.{Name, Path, IsPath, under}
use Rattle.fs_trait.specs.declared.types.FsErr.{FsErr}
use Rattle.fs_trait.specs.declared.types.FsErr.TheVariants.{Failed, NoMemory, NotEmpty}
use Rattle.fs_trait.specs.declared.task.StepResult.{StepResult}
use Rattle.fs_trait.specs.declared.task.StepResult.TheVariants.{More, Done}
use Rattle.fs_trait.specs.declared.types.Value.TheVariants.{Absent}
use Rattle.fs_trait.specs.View.{Disk, View}
use Rattle.fs_trait.specs.Seen.{Seen, Vacant, Symlink, Leaf, shows, IsDirectory}
use Rattle.fs_trait.specs.Effect.{Next}
use Rattle.repo_layout.specs.RefName.{IsRefName}
use Rattle.repo_layout.specs.Paths.{ref_path}
use Rattle.ref_room.specs.Clash.{IsAbove, IsLeastClash, IsNoRef}

-- The ref's name, the paths that weren't looked at yet, the folders that were found and not removed, ascending, and the least
-- clash so far.
pub record Cleared : Type 0 where
  pub name : List ℕ
  pub pending : List Path
  pub folders : List Path
  pub least : Option (List ℕ)

-- the task at its beginning
abbrev pub begun : List ℕ → Cleared
begun name = record { name = name; pending = ref_path name ∷ []; folders = []; least = None }

-- what the next step does: it looks at a path, tells the clash, removes a folder, or nothing
pub data Act : Type 0 where
  Looks : Act
  Says : List ℕ → Act
  Removes : Act
  Ends : Act

abbrev pub act_of : List Path → List Path → Option (List ℕ) → Act
act_of (p ∷ pending) folders least = Looks
act_of [] folders (Some other) = Says other
act_of [] (f ∷ folders) None = Removes
act_of [] [] None = Ends

abbrev pub act : Cleared → Act
act t = act_of t.pending t.folders t.least

-- what a step changed in the task
abbrev pub IsStepped : Cleared → Result (StepResult (Option (List ℕ))) FsErr → Cleared → Type 0
IsStepped old (Ok More) new = (new.name ≡ old.name) × ((act old ≡ Looks) ⊎ ((act old ≡ Removes) × (new.pending ≡ []) × (new.least ≡ None) × ((f : Path) × (old.folders ≡ new.folders ++ f ∷ []))))
IsStepped old (Ok (Done (Some other))) new = (new ≡ old) × (act old ≡ Says other)
IsStepped old (Ok (Done None)) new = (new ≡ old) × (act old ≡ Ends)
IsStepped old (Err e) new = new ≡ old

-- no more steps than this are left, whatever is found: as many folders and as many paths as there is memory for
abbrev pub left_by : Act → Cleared → ℕ
left_by Looks t = (9223372036854775808 - length t.folders) * 18446744073709551616 + length t.pending
left_by (Says other) t = 1
left_by Removes t = length t.folders + 1
left_by Ends t = 1

abbrev pub left : Cleared → ℕ
left t = left_by (act t) t

-- the path that the next step looks at
abbrev pub top : Cleared → Path
top t = slice_index_or t.pending (length t.pending - 1) []

-- the task once a path was looked at
abbrev pub passed : Cleared → Cleared
passed t = record t { pending = take (length t.pending - 1) t.pending }

-- the lesser of the clash so far and a ref that was found
abbrev pub lesser : Option (List ℕ) → Option (List ℕ) → Option (List ℕ)
lesser least None = least
lesser None (Some other) = Some other
lesser (Some least) (Some other) = if is_lt (slice_cmp nat_cmp other least) then Some other else Some least

abbrev pub counted : Option (List ℕ) → Cleared → Cleared
counted other t = record t { pending = take (length t.pending - 1) t.pending; least = lesser t.least other }

-- The path that was looked at is a folder with these names: it is one of the folders, and all that it has is yet to be looked at,
-- where it wasn't among them before.
pub record IsOpened (names : List Name) (old new : Cleared) : Type 0 where
  pub name : new.name ≡ old.name
  pub least : new.least ≡ old.least
  pub folders : (p : Path) → Contains new.folders p → Contains old.folders p ⊎ (p ≡ top old)
  pub folders_kept : (p : Path) → Contains old.folders p → Contains new.folders p
  pub found : Contains new.folders (top old)
  pub pending : (p : Path) → Contains new.pending p → Contains old.pending p ⊎ ((x : Name) × (p ≡ under (top old) x))
  pub pending_kept : (p : Path) → Contains old.pending p → Contains new.pending p ⊎ (p ≡ top old)
  pub inside : (x : Name) → Contains names x → Contains old.folders (top old) ⊎ Contains new.pending (under (top old) x) ⊎ (¬ (IsPath (under (top old) x)))

-- how a step moves the clock
abbrev pub Takes : Act → ℕ → ℕ → Type 0
Takes Removes before now = Next before now
Takes a before now = now ≡ before

-- the folder that the next step removes is the last
abbrev pub IsRemoved : Cleared → Path → Type 0
IsRemoved t p = (act t ≡ Removes) × ((rest : List Path) × (t.folders ≡ rest ++ p ∷ []))

-- nothing stands in the folder
abbrev pub IsEmpty : Disk → Path → Type 0
IsEmpty d p = (x : Name) → d.at (under p x) ≡ Absent

-- what the next step may write
abbrev pub WritesOf : Cleared → View → Path → Seen → Type 0
WritesOf t v p s = IsRemoved t p × (s ≡ Vacant) × IsDirectory (shows v.now p) × IsEmpty v.now p × IsPath p

abbrev pub IsLeaf : Seen → Type 0
IsLeaf (Symlink m l) = Unit {0}
IsLeaf (Leaf n m b) = Unit {0}
IsLeaf s = ⊥

-- What the task leaves where it is: a leaf that is no ref, or what has too long a path to be looked at.
abbrev pub IsAside : Path → Seen → Type 0
IsAside p s = (IsLeaf s × IsNoRef p) ⊎ (¬ (IsPath p))

-- a ref that isn't less than the least so far
abbrev pub IsCounted : Option (List ℕ) → Path → Seen → Type 0
IsCounted (Some least) p s = IsLeaf s × ((other : List ℕ) × (ref_path other ≡ p) × (slice_cmp nat_cmp other least ≢ Less))
IsCounted None p s = ⊥

-- at the ref's path or below
abbrev pub IsUnder : List ℕ → Path → Type 0
IsUnder name p = (rest : Path) × (p ≡ ref_path name ++ rest)

-- What the task knows of a name in a folder that it found: it is yet to be looked at, or a folder that was found, or vacant, or
-- a ref that counts, or left aside.
abbrev pub IsKnown : Cleared → Path → Seen → Type 0
IsKnown t p s = Contains t.pending p ⊎ Contains t.folders p ⊎ (s ≡ Vacant) ⊎ IsCounted t.least p s ⊎ IsAside p s

-- What it needs of each path: that it is known, also the ref's own, where no leaf stands; that the folders are there, and that
-- the least clash is.
pub record HereOf (t : Cleared) (p : Path) (s : Seen) : Type 0 where
  pub known : (f : Path) (x : Name) → p ≡ under f x → Contains t.folders f → IsKnown t p s
  pub own : p ≡ ref_path t.name → (Contains t.pending p ⊎ Contains t.folders p ⊎ (s ≡ Vacant)) × (¬ (IsLeaf s))
  pub folder : Contains t.folders p → IsDirectory s
  pub least : (other : List ℕ) → t.least ≡ Some other → p ≡ ref_path other → IsLeaf s

-- What the next step needs.
pub record Needs (t : Cleared) (v : View) : Type 0 where
  pub named : IsRefName t.name
  pub pending : (p : Path) → Contains t.pending p → IsUnder t.name p
  pub folders : (p : Path) → Contains t.folders p → IsUnder t.name p
  pub least : (other : List ℕ) → t.least ≡ Some other → IsRefName other × IsAbove t.name other
  pub here : (p : Path) → HereOf t p (shows v.now p)

-- What a step tells of what reads see.
abbrev pub Tells : Cleared → View → StepResult (Option (List ℕ)) → Type 0
Tells t v More = Unit {0}
Tells t v (Done (Some other)) = IsLeastClash v.now t.name other
Tells t v (Done None) = shows v.now (ref_path t.name) ≡ Vacant

-- Why a step isn't done: the call failed or wanted for memory, or in the folder something is left aside.
abbrev pub Refuses : Cleared → View → FsErr → Type 0
Refuses t v Failed = Unit {0}
Refuses t v NoMemory = Unit {0}
Refuses t v NotEmpty = (act t ≡ Removes) × ((p : Path) × IsUnder t.name p × (shows v.now p ≢ Vacant) × IsAside p (shows v.now p))
Refuses t v e = ⊥
