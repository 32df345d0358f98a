-- What each step of putting an object needs, writes, tells and is refused for.
use Rattle.std.specs.Prelude.{◌≡◌, ◌≢◌, ℕ, Bool, true, false, List}
use Rattle.ost_types.specs.Path.{Path}
use Rattle.fs_trait.specs.declared.types.FsErr.{FsErr}
use Rattle.fs_trait.specs.declared.types.FsErr.TheVariants.{Failed, NoMemory, NotFolder}
use Rattle.fs_trait.specs.declared.types.Value.{Value}
use Rattle.fs_trait.specs.declared.types.Value.TheVariants.{Absent}
use Rattle.fs_trait.specs.declared.task.StepResult.{StepResult}
use Rattle.fs_trait.specs.declared.task.StepResult.TheVariants.{More, Done}
use Rattle.fs_trait.specs.View.{View}
use Rattle.fs_trait.specs.Effect.{OfPlacing, OfFinding}
use Rattle.fs_trait.specs.Seen.{Seen, Vacant, Symlink, Leaf, shows, IsDirectory}
use Rattle.repo_layout.specs.Paths.{folder_path, objects_folder_path}
use Rattle.repo_layout.specs.declared.folder.Folder.TheVariants.{Objects}
use Rattle.repo_model.specs.Objects.{Stores, path_of}
use Rattle.staging.specs.Steps as staging
use Rattle.obj_store.specs.declared.source.Source.{Source}
use Rattle.obj_store.specs.declared.source.Source.TheVariants.{File, Link}
use Rattle.obj_store.specs.declared.phase.Put.{Put}
use Rattle.obj_store.specs.declared.phase.Put.TheVariants.{Stored, Present}
use Rattle.obj_store.specs.declared.phase.Phase.{Phase}
use Rattle.obj_store.specs.declared.phase.Phase.TheVariants as phase
use Rattle.obj_store.specs.Putting.{Putting, IsMade, IsObject}

-- what a step of staging writes
abbrev pub stage_writes : Source → View → Path → Seen → Type 0
stage_writes (File d) v p s = staging.WritesOf d v p s
stage_writes (Link m target) v p s = ⊥

-- what is put at the object's path: the whole staged file, or the link
abbrev pub IsPut : Source → View → Seen → Type 0
IsPut (File d) v s = staging.IsWhole d v s
IsPut (Link m target) v s = s ≡ Symlink m target

-- the staging path goes
abbrev pub gone_stage : Source → Path → Seen → Type 0
gone_stage (File d) p s = (p ≡ d.stage) × (s ≡ Vacant)
gone_stage (Link m target) p s = ⊥

-- What the next step may write. At the object's path, and at its folder's, it writes only where nothing stands.
abbrev pub writes_in : Phase → Putting → View → Path → Seen → Type 0
writes_in phase.Look t v p s = stage_writes t.source v p s
writes_in phase.Stage t v p s = stage_writes t.source v p s
writes_in phase.Folder t v p s = (p ≡ objects_folder_path t.name.csum) × IsDirectory s × (shows v.now p ≡ Vacant)
writes_in phase.Link t v p s = (p ≡ path_of t.name) × IsPut t.source v s × (shows v.now p ≡ Vacant)
writes_in (phase.Unlink put) t v p s = gone_stage t.source p s
writes_in (phase.Ended put) t v p s = ⊥

abbrev pub WritesOf : Putting → View → Path → Seen → Type 0
WritesOf t v = writes_in t.phase t v

-- what staging needs, and once it is done, that the whole synced file is there
abbrev pub stage_needs : Source → View → Type 0
stage_needs (File d) v = staging.Needs d v
stage_needs (Link m target) v = Unit {0}

-- once the object's path is seen to, that the file still stands at its staging path
abbrev pub still_staged : Source → View → Type 0
still_staged (File d) v = (n : ℕ) × (shows v.now d.stage ≡ Leaf n d.meta d.bytes)
still_staged (Link m target) v = Unit {0}

-- What the next step needs. No more is asked of folders than that they are there: that the object's name lasts is for a later sync.
abbrev pub needs_in : Phase → Putting → View → Type 0
needs_in phase.Look t v = stage_needs t.source v × IsDirectory (shows v.now (folder_path Objects))
needs_in phase.Stage t v = stage_needs t.source v × IsDirectory (shows v.now (folder_path Objects))
needs_in phase.Folder t v = stage_needs t.source v × IsDirectory (shows v.now (folder_path Objects))
needs_in phase.Link t v = stage_needs t.source v × IsDirectory (shows v.now (objects_folder_path t.name.csum))
needs_in (phase.Unlink put) t v = still_staged t.source v
needs_in (phase.Ended put) t v = Unit {0}

pub record Needs (t : Putting) (v : View) : Type 0 where
  pub made : IsMade t
  pub meets : needs_in t.phase t v

-- whether the next step puts the object at its path: it is the one that links, and nothing stands there
abbrev pub would_store_in : Phase → Value → Bool
would_store_in phase.Link Absent = true
would_store_in ph x = false

abbrev pub WouldStore : Putting → View → Bool → Type 0
WouldStore t v b = b ≡ would_store_in t.phase (v.now.at (path_of t.name))

-- only the step that links does
abbrev pub MayStore : Phase → Bool → Type 0
MayStore phase.Link b = Unit {0}
MayStore ph b = b ≡ false

-- What came of the object: it was put where nothing stood, or something stood there and nothing changed.
abbrev pub Came : Put → Putting → View → View → Type 0
Came Stored t v w = (v.now.at (path_of t.name) ≡ Absent) × ((bytes : List ℕ) → IsObject t.name bytes t.source → Stores w.now t.name bytes)
Came Present t v w = (v.now.at (path_of t.name) ≢ Absent) × (w ≡ v)

-- What a step that is done tells of the view before it and the one after it.
abbrev pub goes_on : Phase → Phase → Putting → View → View → Type 0
goes_on phase.Look next t v w = v.now.at (path_of t.name) ≡ Absent
goes_on phase.Link (phase.Unlink put) t v w = Came put t v w
goes_on last next t v w = Unit {0}

-- nothing stands at a file's staging path
abbrev pub is_clear : Source → View → Type 0
is_clear (File d) w = shows w.now d.stage ≡ Vacant
is_clear (Link m target) w = Unit {0}

abbrev pub ends : Phase → Put → Putting → View → View → Type 0
ends phase.Look put t v w = Came put t v w
ends phase.Link put t v w = Came put t v w
ends (phase.Unlink was) put t v w = is_clear t.source w
ends ph put t v w = Unit {0}

abbrev pub Tells : Putting → Putting → View → View → StepResult Put → Type 0
Tells old new v w More = goes_on old.phase new.phase old v w
Tells old new v w (Done put) = ends old.phase put old v w

abbrev pub IsLeaf : Seen → Type 0
IsLeaf (Symlink m t) = Unit {0}
IsLeaf (Leaf n m b) = Unit {0}
IsLeaf s = ⊥

-- Why a step isn't done: the call failed or wanted for memory, or a leaf stands where the object's folder has to be.
abbrev pub refuses_in : Phase → Putting → View → FsErr → Type 0
refuses_in ph t v Failed = Unit {0}
refuses_in ph t v NoMemory = Unit {0}
refuses_in phase.Folder t v NotFolder = IsLeaf (shows v.now (objects_folder_path t.name.csum))
refuses_in ph t v e = ⊥

abbrev pub Refuses : Putting → View → FsErr → Type 0
Refuses t = refuses_in t.phase t

-- which refusals a step has at all, told or not
abbrev pub OfPhase : Phase → FsErr → Type 0
OfPhase (phase.Unlink put) = OfFinding
OfPhase (phase.Ended put) = λ e. ⊥
OfPhase ph = OfPlacing
