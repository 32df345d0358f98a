-- A change of a ref, and which step comes next.
use Rattle.std.specs.Prelude.{◌≡◌, ◌⊎◌, ◌≤◌, ◌<◌, ◌+◌, ◌*◌, ℕ, Bool, true, false, [], List, length, Option, Some, None, IsSome, Result, Ok, Err, IsErrOf, OnOk, if◌then◌else◌}
use Rattle.ost_types.specs.declared.meta.Meta.{Meta}
use Rattle.ost_types.specs.Path.{Path}
use Rattle.fs_trait.specs.declared.types.FsErr.{FsErr}
use Rattle.fs_trait.specs.declared.types.FsErr.TheVariants as fs
use Rattle.fs_trait.specs.declared.task.StepResult.{StepResult}
use Rattle.fs_trait.specs.declared.task.StepResult.TheVariants.{More, Done}
use Rattle.fs_trait.specs.declared.task.Need.{Need}
use Rattle.fs_trait.specs.declared.task.Need.TheVariants as need
use Rattle.fs_trait.specs.Effect.{Next}
use Rattle.repo_layout.specs.Paths.{ref_path, stage_path}
use Rattle.repo_layout.specs.RefFile.{IsSum, ref_text}
use Rattle.ref_room.specs.Clash.{ref_folder}
use Rattle.ref_room.specs.Clearing as clearing
use Rattle.ref_room.specs.Way as way
use Rattle.staged_file.specs.declared.phase.Phase as staged
use Rattle.staged_file.specs.declared.phase.Phase.TheVariants as file
use Rattle.staged_file.specs.Staged as staging
use Rattle.ref_store.specs.declared.phase.Phase.{Phase}
use Rattle.ref_store.specs.declared.phase.Phase.TheVariants.{Look, Clear, Walk, Put, Unlink, SyncFolder, Ended}
use Rattle.ref_store.specs.declared.progress.Progress.{Progress}
use Rattle.ref_store.specs.declared.progress.Progress.TheVariants as progress
use Rattle.ref_store.specs.declared.refusal.RefRefusal.{RefRefusal}
use Rattle.ref_store.specs.declared.lookup.There.{There}
use Rattle.ref_store.specs.declared.lookup.There.TheVariants as there

-- who changes which ref, the commit that it is to have named so far and the one that it is to name, if any, and how far the
-- change is
pub record Change : Type 0 where
  pub actor : ℕ
  pub name : List ℕ
  pub seen : Option (List ℕ)
  pub value : Option (List ℕ)
  pub phase : Phase

-- the commit of what was found
abbrev pub commit_of : There → Option (List ℕ)
commit_of (there.Commit commit) = Some commit
commit_of x = None

-- the attributes of a ref's file: owner 0, group 0, mode 0100644, no extended ones
abbrev pub file_meta : Meta
file_meta = record { uid = 0; gid = 0; mode = 33188; xattrs = [] }

-- The staged file is the ref's.
pub record IsRefFile (t : Change) (s : staging.Staged) : Type 0 where
  pub commit : List ℕ
  pub value : t.value ≡ Some commit
  pub sum : IsSum commit
  pub stage : s.stage ≡ stage_path t.actor
  pub folder : s.folder ≡ ref_folder t.name
  pub at : s.at ≡ ref_path t.name
  pub meta : s.meta ≡ file_meta
  pub bytes : s.bytes ≡ ref_text commit
  pub long : length s.bytes ≡ 65

-- The part that is being done belongs to the change. What is removed was a ref.
abbrev pub made_in : Phase → Change → Type 0
made_in Look t = t.value ≡ None → IsSome t.seen
made_in (Clear c) t = (c.name ≡ t.name) × IsSome t.value
made_in (Walk w) t = (w.name ≡ t.name) × IsSome t.value
made_in (Put s) t = IsRefFile t s
made_in Unlink t = t.value ≡ None
made_in SyncFolder t = t.value ≡ None
made_in Ended t = Unit {0}

abbrev pub IsMade : Change → Type 0
IsMade t = made_in t.phase t

-- What is to be synced is the folder of the ref.
abbrev pub keeps_folder : Phase → List ℕ → Option Path → Type 0
keeps_folder SyncFolder name folder = folder ≡ Some (ref_folder name)
keeps_folder ph name folder = Unit {0}

-- the phase behind the look
abbrev pub begun : Option (List ℕ) → There → List ℕ → Phase
begun None x name = Unlink
begun (Some commit) there.Folder name = Clear (clearing.begun name)
begun (Some commit) x name = Walk (way.begun name)

-- a staged file at its beginning
abbrev pub IsNew : Change → staging.Staged → Type 0
IsNew t s = IsRefFile t s × (s.phase ≡ file.Clear)

-- which step may follow which
abbrev pub Follows : Phase → Phase → Change → Type 0
Follows Look next t = (x : There) × (next ≡ begun t.value x t.name)
Follows (Clear c) (Clear d) t = clearing.IsStepped c (Ok More) d
Follows (Clear c) (Walk w) t = (w ≡ way.begun t.name) × clearing.IsStepped c (Ok (Done None)) c
Follows (Walk w) (Walk x) t = way.IsStepped w (Ok More) x ⊎ ((way.is_over w.leg ≡ false) × way.IsStepped w (Ok (Done None)) x)
Follows (Walk w) (Put s) t = (way.is_over w.leg ≡ true) × IsNew t s
Follows (Put s) (Put u) t = staging.IsStepped {T = Unit {0}} s (Ok More) u
Follows Unlink SyncFolder t = Unit {0}
Follows last next t = ⊥

-- which step may be the last
abbrev pub IsLast : Phase → Type 0
IsLast (Put s) = staging.is_last s.phase ≡ true
IsLast SyncFolder = Unit {0}
IsLast Ended = Unit {0}
IsLast ph = ⊥

-- Which step it was, and what changed in the task. A refused one and one that wasn't done leave the task as it was.
abbrev pub IsStepped : Change → Result (StepResult (Result (Unit {0}) RefRefusal)) FsErr → Change → Type 0
IsStepped old (Ok More) new = (new ≡ record old { phase = new.phase }) × Follows old.phase new.phase old
IsStepped old (Ok (Done (Ok x))) new = (new ≡ record old { phase = Ended }) × IsLast old.phase
IsStepped old (Ok (Done (Err refusal))) new = new ≡ old
IsStepped old (Err e) new = new ≡ old

-- a change is refused by the look, and while room is made
abbrev pub IsRefusing : Phase → Type 0
IsRefusing Look = Unit {0}
IsRefusing (Clear c) = Unit {0}
IsRefusing (Walk w) = Unit {0}
IsRefusing ph = ⊥

abbrev pub MayCome : Phase → StepResult (Result (Unit {0}) RefRefusal) → Type 0
MayCome ph (Done (Err refusal)) = IsRefusing ph
MayCome ph turn = Unit {0}

abbrev pub IsAccepted : StepResult (Result (Unit {0}) RefRefusal) → Type 0
IsAccepted (Done (Err refusal)) = ⊥
IsAccepted turn = Unit {0}

-- what a step of a staged file does to the ref,
abbrev pub progress_of : staged.Phase → Progress
progress_of file.Replace = progress.Showing
progress_of file.SyncFolder = progress.Settling
progress_of file.Ended = progress.Ended
progress_of ph = progress.Preparing

-- and what any step does
abbrev pub progress_in : Phase → Progress
progress_in Look = progress.Looking
progress_in (Clear c) = progress.Preparing
progress_in (Walk w) = progress.Preparing
progress_in (Put s) = progress_of s.phase
progress_in Unlink = progress.Showing
progress_in SyncFolder = progress.Settling
progress_in Ended = progress.Ended

-- no more steps than this are left to put the file,
abbrev pub left_put : staged.Phase → ℕ
left_put file.Clear = 7
left_put file.Create = 6
left_put file.Append = 5
left_put file.SyncFile = 4
left_put file.Look = 3
left_put file.Replace = 2
left_put file.SyncFolder = 1
left_put file.Ended = 0

-- to go all the way from the folder of the refs,
abbrev pub left_way : List ℕ → ℕ
left_way name = 2 * length (ref_path name) + 9

-- and in all
abbrev pub left_in : Phase → Change → ℕ
left_in Look t = 170141183460469231731687303715884105730 + left_way t.name
left_in (Clear c) t = clearing.left c + left_way t.name
left_in (Walk w) t = if way.is_over w.leg then 8 else way.left w + 9
left_in (Put s) t = left_put s.phase
left_in Unlink t = 2
left_in SyncFolder t = 1
left_in Ended t = 0

abbrev pub left : Change → ℕ
left t = left_in t.phase t

-- the lock under which a step stands: that of the one that shows a change, until the task has ended
abbrev pub need_in : Phase → Need
need_in Ended = need.Nothing
need_in ph = need.RefLock

-- how a step moves the clock
abbrev pub Takes : Phase → ℕ → ℕ → Type 0
Takes Look before now = now ≡ before
Takes (Clear c) before now = clearing.Takes (clearing.act c) before now
Takes (Walk w) before now = way.Takes w.leg before now
Takes (Put s) before now = staging.Takes s.phase before now
Takes Unlink before now = Next before now
Takes SyncFolder before now = Next before now
Takes Ended before now = now ≡ before

-- the steps behind the one that shows the change are owed
abbrev pub is_owed : Phase → Bool
is_owed (Put s) = staging.is_owed s.phase
is_owed SyncFolder = true
is_owed ph = false

-- for how many owed steps a step leaves room
abbrev pub owed_after : Phase → ℕ
owed_after (Put s) = staging.owed_after s.phase
owed_after Unlink = 1
owed_after ph = 0

-- A step takes the room of at most one call. An owed one that has room doesn't lack memory, and the one that shows the
-- change leaves room for those that are owed then.
pub record KeepsRoom {T : Type 0} (ph : Phase) (before now : ℕ) (result : Result T FsErr) : Type 0 where
  pub at_most_one : before ≤ now + 1
  pub enough : is_owed ph ≡ true → 0 < before → IsErrOf result fs.NoMemory → ⊥
  pub ready : OnOk result (owed_after ph ≤ now)

-- which phase it is
abbrev pub IsLook : Phase → Type 0
IsLook Look = Unit {0}
IsLook ph = ⊥

abbrev pub IsClear : Phase → Type 0
IsClear (Clear c) = Unit {0}
IsClear ph = ⊥

abbrev pub IsWalk : Phase → Type 0
IsWalk (Walk w) = Unit {0}
IsWalk ph = ⊥

abbrev pub IsPut : Phase → Type 0
IsPut (Put s) = Unit {0}
IsPut ph = ⊥

abbrev pub IsUnlink : Phase → Type 0
IsUnlink Unlink = Unit {0}
IsUnlink ph = ⊥

abbrev pub IsSyncFolder : Phase → Type 0
IsSyncFolder SyncFolder = Unit {0}
IsSyncFolder ph = ⊥
