-- A swap, and which step comes next.
use Rattle.std.specs.Prelude.{◌≡◌, ◌⊎◌, ◌≤◌, ◌<◌, ◌+◌, ℕ, Bool, true, false, List, Option, Some, Result, Ok, Err, OnOk, IsErrOf}
use Rattle.ost_types.specs.Path.{Path}
use Rattle.fs_trait.specs.declared.types.FsErr.{FsErr}
use Rattle.fs_trait.specs.declared.types.FsErr.TheVariants.{NoMemory}
use Rattle.fs_trait.specs.declared.task.StepResult.{StepResult}
use Rattle.fs_trait.specs.declared.task.StepResult.TheVariants.{More, Done}
use Rattle.fs_trait.specs.declared.task.Need.{Need}
use Rattle.fs_trait.specs.declared.task.Need.TheVariants as need
use Rattle.fs_trait.specs.Effect.{Next}
use Rattle.repo_layout.specs.declared.fixed.Version.{Version}
use Rattle.repo_layout.specs.declared.folder.Folder.TheVariants.{Boot, Ostree}
use Rattle.repo_layout.specs.Paths.{folder_path}
use Rattle.repo_layout.specs.Fixed.{number}
use Rattle.repo_layout.specs.BootPaths.{boot_folder_path, boot_link_path, boot_link_stage_path, loader_folder_path, loader_path, loader_stage_path}
use Rattle.boot_model.specs.declared.item.BootItem.{BootItem}
use Rattle.boot_model.specs.Items.{AreItems}
use Rattle.boot_model.specs.Entries.{boot_target, loader_target}
use Rattle.boot_compare.specs.declared.choosing.Swap as which
use Rattle.boot_compare.specs.declared.choosing.Swap.TheVariants.{Loader, Sub}
use Rattle.boot_compare.specs.declared.choosing.ChoosePhase.TheVariants as choose
use Rattle.boot_compare.specs.Choosing as choosing
use Rattle.folder_build.specs.Build as build
use Rattle.folder_build.specs.Link as link
use Rattle.folder_build.specs.Link.{Linking}
use Rattle.boot_plan.specs.Plans.{AreEntries, AreLinks, IsEntries, IsLinks}
use Rattle.boot_swap.specs.declared.phase.Phase.{Phase}
use Rattle.boot_swap.specs.declared.phase.Phase.TheVariants.{Choose, BeginEntries, Entries, LookLink, Links, BeginLink, ShowLink, Barrier, BeginLoader, ShowLoader, SyncFolder, Ended}

-- the version whose links are made
abbrev pub version_of : which.Swap → Version
version_of (Loader v) = v
version_of (Sub v) = v

-- which list is to boot, and how far that is
pub record Swapping : Type 0 where
  pub items : List BootItem
  pub phase : Phase

-- at its beginning
abbrev pub begins_in : Phase → Type 0
begins_in (Choose c) = c.phase ≡ choose.Look
begins_in ph = ⊥

pub record IsBegun (items : List BootItem) (t : Swapping) : Type 0 where
  pub list : t.items ≡ items
  pub first : begins_in t.phase

-- The link of a version on its way, and the boot loader's.
pub record IsVersionLink (version sub : ℕ) (l : Linking) : Type 0 where
  pub stage : l.stage ≡ boot_link_stage_path
  pub at : l.at ≡ boot_link_path version
  pub target : l.target ≡ boot_target version sub

pub record IsLoaderLink (version : ℕ) (l : Linking) : Type 0 where
  pub stage : l.stage ≡ loader_stage_path
  pub at : l.at ≡ loader_path
  pub target : l.target ≡ loader_target version

-- The task makes the folder of a version's entries, or of its links.
pub record MakesEntries (loader : ℕ) (items : List BootItem) (b : build.Building) : Type 0 where
  pub top : b.top ≡ loader_folder_path loader
  pub nodes : AreEntries loader items b.nodes

pub record MakesLinks (version sub : ℕ) (items : List BootItem) (b : build.Building) : Type 0 where
  pub top : b.top ≡ boot_folder_path version sub
  pub nodes : AreLinks version sub items b.nodes

-- the part that is being done belongs to the swap
abbrev pub made_in : Phase → List BootItem → Type 0
made_in (Entries v b) items = MakesEntries (number v) items b
made_in (Links u sub b) items = MakesLinks (number (version_of u)) (number sub) items b
made_in (ShowLink u sub l) items = IsVersionLink (number (version_of u)) (number sub) l
made_in (ShowLoader v l) items = IsLoaderLink (number v) l
made_in ph items = Unit {0}

-- the folder of the link that shows the list
abbrev pub folder_of : which.Swap → Path
folder_of (Loader v) = folder_path Boot
folder_of (Sub v) = folder_path Ostree

abbrev pub keeps_folder : Phase → Option Path → Type 0
keeps_folder (ShowLink (Sub v) sub l) folder = folder ≡ Some (folder_path Ostree)
keeps_folder (ShowLoader v l) folder = folder ≡ Some (folder_path Boot)
keeps_folder (SyncFolder u) folder = folder ≡ Some (folder_of u)
keeps_folder ph folder = Unit {0}

-- what each such task keeps
pub record IsMade (t : Swapping) : Type 0 where
  pub items : AreItems t.items
  pub part : made_in t.phase t.items

-- the lock under which a step stands: that of the one that works on the list, and from the rename on that of the one that shows a change
abbrev pub need_of_link : Bool → Need
need_of_link true = need.RefLock
need_of_link false = need.Sysroot

abbrev pub need_in : Phase → Need
need_in (ShowLink (Sub v) sub l) = need_of_link (link.is_showing l.phase)
need_in (ShowLoader v l) = need_of_link (link.is_showing l.phase)
need_in (SyncFolder u) = need.RefLock
need_in Ended = need.Nothing
need_in ph = need.Sysroot

-- so many parts are left
abbrev pub parts : Phase → ℕ
parts (Choose c) = 11 + choosing.parts c.phase
parts (BeginEntries v) = 11
parts (Entries v b) = 10
parts (LookLink u) = 9
parts (Links u sub b) = 8
parts (Barrier (Sub v) sub) = 7
parts (BeginLink u sub) = 6
parts (ShowLink u sub l) = 5
parts (Barrier (Loader v) sub) = 4
parts (BeginLoader v) = 3
parts (ShowLoader v l) = 2
parts (SyncFolder u) = 1
parts Ended = 0

-- and no more steps than this of the one that is being done
abbrev pub left : Phase → ℕ
left (Choose c) = choosing.left c.phase
left (Entries v b) = build.left b
left (Links u sub b) = build.left b
left (ShowLink u sub l) = link.left l
left (ShowLoader v l) = link.left l
left Ended = 0
left ph = 1

-- there is less to do: fewer parts, or fewer steps of the same part
abbrev pub Falls : Phase → Phase → Type 0
Falls new old = (parts new < parts old) ⊎ ((parts new ≡ parts old) × (left new < left old))

-- what comes once the swap is chosen: that of the boot loader's link makes the folder of entries of the version first
abbrev pub chosen : which.Swap → Phase
chosen (Loader v) = BeginEntries v
chosen (Sub v) = LookLink (Sub v)

-- what comes once the folder of links is made
abbrev pub filled : which.Swap → Version → Phase
filled (Loader v) sub = BeginLink (Loader v) sub
filled (Sub v) sub = Barrier (Sub v) sub

-- what comes once the version's link is put
abbrev pub linked : which.Swap → Version → Phase
linked (Loader v) sub = Barrier (Loader v) sub
linked (Sub v) sub = SyncFolder (Sub v)

-- what comes behind the sync of all
abbrev pub barred : which.Swap → Version → Phase
barred (Loader v) sub = BeginLoader v
barred (Sub v) sub = BeginLink (Sub v) sub

-- which step may follow which
abbrev pub Follows : Phase → Phase → List BootItem → Type 0
Follows (Choose c) next items = ((e : choosing.Choosing) × (next ≡ Choose e)) ⊎ ((u : which.Swap) × (next ≡ chosen u))
Follows (BeginEntries v) next items = (b : build.Building) × (next ≡ Entries v b) × IsEntries (number v) items b
Follows (Entries v b) next items = ((e : build.Building) × (next ≡ Entries v e) × build.IsStepped b (Ok More) e) ⊎ (next ≡ LookLink (Loader v))
Follows (LookLink u) next items = (sub : Version) × (b : build.Building) × (next ≡ Links u sub b) × IsLinks (number (version_of u)) (number sub) items b
Follows (Links u sub b) next items = ((e : build.Building) × (next ≡ Links u sub e) × build.IsStepped b (Ok More) e) ⊎ (next ≡ filled u sub)
Follows (BeginLink u sub) next items = (l : Linking) × (next ≡ ShowLink u sub l) × (l ≡ link.begun l.stage l.at l.target)
Follows (ShowLink u sub l) next items = ((k : Linking) × (next ≡ ShowLink u sub k) × link.IsStepped l (Ok More) k) ⊎ (next ≡ linked u sub)
Follows (Barrier u sub) next items = next ≡ barred u sub
Follows (BeginLoader v) next items = (l : Linking) × (next ≡ ShowLoader v l) × (l ≡ link.begun l.stage l.at l.target)
Follows (ShowLoader v l) next items = ((k : Linking) × (next ≡ ShowLoader v k) × link.IsStepped l (Ok More) k) ⊎ (next ≡ SyncFolder (Loader v))
Follows (SyncFolder u) next items = ⊥
Follows Ended next items = ⊥

-- which step may be the last
abbrev pub IsLast : Phase → Type 0
IsLast (SyncFolder u) = Unit {0}
IsLast Ended = Unit {0}
IsLast ph = ⊥

-- Which step it was, and what changed in the task. One that wasn't done leaves the task as it was.
abbrev pub IsStepped : Swapping → Result (StepResult (Unit {0})) FsErr → Swapping → Type 0
IsStepped old (Ok More) new = (new.items ≡ old.items) × Follows old.phase new.phase old.items
IsStepped old (Ok (Done x)) new = (new.items ≡ old.items) × (new.phase ≡ Ended) × IsLast old.phase
IsStepped old (Err e) new = new ≡ old

-- how a step moves the clock
abbrev pub Takes : Phase → ℕ → ℕ → Type 0
Takes (Entries v b) before now = build.Takes b.phase before now
Takes (Links u sub b) before now = build.Takes b.phase before now
Takes (ShowLink u sub l) before now = link.Takes l.phase before now
Takes (ShowLoader v l) before now = link.Takes l.phase before now
Takes (Barrier u sub) before now = Next before now
Takes (SyncFolder u) before now = Next before now
Takes ph before now = now ≡ before

-- the sync that acknowledges is owed
abbrev pub is_owed : Phase → Bool
is_owed (SyncFolder u) = true
is_owed ph = false

-- for how many owed steps a step leaves room
abbrev pub owed_after : Phase → ℕ
owed_after (ShowLink u sub l) = link.owed_after l.phase
owed_after (ShowLoader v l) = link.owed_after l.phase
owed_after ph = 0

-- A step takes the room of at most one call. An owed one that has room doesn't lack memory, and the one that shows the list leaves
-- room for it.
pub record KeepsRoom {T : Type 0} (ph : Phase) (before now : ℕ) (result : Result T FsErr) : Type 0 where
  pub at_most_one : before ≤ now + 1
  pub enough : is_owed ph ≡ true → 0 < before → IsErrOf result NoMemory → ⊥
  pub ready : OnOk result (owed_after ph ≤ now)
