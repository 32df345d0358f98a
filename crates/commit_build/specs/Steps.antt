-- What each step of committing a tree needs, writes, tells and is refused for.
use Rattle.std.specs.Prelude.{◌≡◌, ◌≢◌, ◌⊎◌, ◌<◌, pred, ℕ, Bool, true, false, List, Option, Some, None, Result, Ok, Err}
use Rattle.ost_types.specs.declared.object.ObjName.{ObjName}
use Rattle.ost_types.specs.Path.{Path}
use Rattle.ost_forms.specs.declared.tree_item.TreeItem.{TreeItem}
use Rattle.fs_trait.specs.declared.types.FsErr.{FsErr}
use Rattle.fs_trait.specs.declared.types.Node.{Node}
use Rattle.fs_trait.specs.declared.types.Node.TheVariants as node
use Rattle.fs_trait.specs.declared.types.FsErr.TheVariants.{Failed, NoMemory}
use Rattle.fs_trait.specs.declared.types.Value.TheVariants.{Absent}
use Rattle.fs_trait.specs.declared.task.StepResult.{StepResult}
use Rattle.fs_trait.specs.declared.task.StepResult.TheVariants.{More, Done}
use Rattle.fs_trait.specs.View.{Disk, View, named}
use Rattle.fs_trait.specs.Effect.{OfNone, OfFinding}
use Rattle.fs_trait.specs.Seen.{Seen, Vacant, Symlink, Leaf, shows, MayBe, IsDirectory, NotDirectory}
use Rattle.fs_trait.specs.Change.{LeadsTo}
use Rattle.repo_layout.specs.Paths.{folder_path, objects_folder_path, mark_path, stage_path}
use Rattle.repo_layout.specs.declared.folder.Folder.TheVariants.{Objects, State, Tmp}
use Rattle.repo_model.specs.Objects.{path_of}
use Rattle.tree_build.specs.Objects.{Object, work}
use Rattle.tree_build.specs.Building.{IsNumber}
use Rattle.obj_store.specs.declared.phase.Put.{Put}
use Rattle.obj_store.specs.declared.phase.Put.TheVariants.{Stored}
use Rattle.obj_store.specs.declared.phase.Phase as putting
use Rattle.obj_store.specs.declared.phase.Phase.TheVariants as at
use Rattle.obj_store.specs.Putting.{Putting}
use Rattle.obj_store.specs.Steps as put
use Rattle.commit_build.specs.declared.refusal.BuildRefusal.{BuildRefusal}
use Rattle.commit_build.specs.declared.phase.Phase.{Phase}
use Rattle.commit_build.specs.declared.phase.Phase.TheVariants as phase
use Rattle.commit_build.specs.Advancing as advancing
use Rattle.commit_build.specs.Committing.{Committing, IsMade, Links, named_commit}

-- what the next step may write
abbrev pub writes_in : Phase → View → Path → Seen → Type 0
writes_in (phase.Put t) v p s = put.WritesOf t v p s
writes_in (phase.PutCommit t) v p s = put.WritesOf t v p s
writes_in (phase.Unmark commit) v p s = (p ≡ mark_path commit) × (s ≡ Vacant) × NotDirectory (shows v.now p)
writes_in ph v p s = ⊥

abbrev pub WritesOf : Committing → View → Path → Seen → Type 0
WritesOf t v = writes_in t.phase v

-- and with so many objects in the store: where these are as many as the bound no object is put
abbrev pub WritesIn : ℕ → Committing → View → Path → Seen → Type 0
WritesIn count t v p s = WritesOf t v p s × (Links t.phase → count < t.limits.objects)

-- The folders that are used are there, and none stands at the staging path.
pub record HasHomes (actor : ℕ) (d : Disk) : Type 0 where
  pub objects : IsDirectory (shows d (folder_path Objects))
  pub staging : IsDirectory (shows d (folder_path Tmp))
  pub state : IsDirectory (shows d (folder_path State))
  pub stage : NotDirectory (shows d (stage_path actor))

-- something stands at the object's path
abbrev pub IsThere : Disk → ObjName → Type 0
IsThere d name = d.at (path_of name) ≢ Absent

-- no crash leaves the object's path vacant
pub record IsSure (v : View) (name : ObjName) : Type 0 where
  pub there : (s : Seen) → MayBe v (path_of name) s → s ≢ Vacant
  pub above : (p : Path) (s : Seen) → MayBe v p s → LeadsTo (objects_folder_path name.csum) p s

-- so many objects of the tree are there; all of them are sure to be
pub record AreThere (items : List TreeItem) (count : ℕ) (d : Disk) : Type 0 where
  pub each : (n : ℕ) (o : Object) → n < count → IsNumber (work items) n o → IsThere d o.name

pub record AreSure (items : List TreeItem) (v : View) : Type 0 where
  pub each : (n : ℕ) (o : Object) → IsNumber (work items) n o → IsSure v o.name

-- whether a leaf is what stands there
abbrev pub is_leaf_node : Option Node → Bool
is_leaf_node None = false
is_leaf_node (Some (node.Folder m)) = false
is_leaf_node (Some x) = true

-- no leaf is shown
abbrev pub NotLeaf : Seen → Type 0
NotLeaf (Symlink m t) = ⊥
NotLeaf (Leaf n m b) = ⊥
NotLeaf s = Unit {0}

-- The leaf at a path goes, or none was there. Only a failed call leaves it open which.
abbrev pub TakesLeaf : Path → View → Result (Unit {0}) FsErr → Option View → Type 0
TakesLeaf p v (Ok x) new = ((new ≡ Some v) × NotLeaf (shows v.now p)) ⊎ ((new ≡ Some (named p Absent v)) × NotDirectory (shows v.now p))
TakesLeaf p v (Err Failed) new = (new ≡ Some v) ⊎ ((new ≡ Some (named p Absent v)) × NotDirectory (shows v.now p))
TakesLeaf p v (Err NoMemory) new = new ≡ Some v
TakesLeaf p v (Err e) new = ⊥

-- no mark of the commit: reads see none, no crash leaves one
abbrev pub IsUnmarked : List ℕ → Disk → Type 0
IsUnmarked commit d = NotLeaf (shows d (mark_path commit))

pub record NeverMarked (commit : List ℕ) (v : View) : Type 0 where
  pub each : (s : Seen) → MayBe v (mark_path commit) s → NotLeaf s

-- the object that is being put counts once its path is seen to
abbrev pub count_in : putting.Phase → ℕ → ℕ
count_in (at.Unlink end) made = made
count_in (at.Ended end) made = made
count_in ph made = pred made

abbrev pub once_seen_to : putting.Phase → Type 0 → Type 0
once_seen_to (at.Unlink end) P = P
once_seen_to (at.Ended end) P = P
once_seen_to ph P = Unit {0}

-- What the next step needs. The commit is put only where all objects of its tree are sure to outlast a crash, and its mark goes
-- only where the commit is.
abbrev pub needs_in : Phase → Committing → View → Type 0
needs_in phase.Check t v = Unit {0}
needs_in phase.Make t v = AreThere t.items t.made v.now
needs_in (phase.Made c) t v = AreThere t.items (pred t.made) v.now
needs_in (phase.Put p) t v = put.Needs p v × AreThere t.items (count_in p.phase t.made) v.now
needs_in phase.SyncObjects t v = AreThere t.items t.made v.now
needs_in phase.MakeCommit t v = AreSure t.items v
needs_in (phase.PutCommit p) t v = put.Needs p v × AreSure t.items v × once_seen_to p.phase (IsThere v.now p.name)
needs_in (phase.SyncCommit sum) t v = AreSure t.items v × IsThere v.now (named_commit sum)
needs_in (phase.Unmark sum) t v = AreSure t.items v × IsSure v (named_commit sum)
needs_in (phase.SyncState sum) t v = AreSure t.items v × IsSure v (named_commit sum) × IsUnmarked sum v.now
needs_in (phase.Ended sum) t v = AreSure t.items v × IsSure v (named_commit sum) × NeverMarked sum v

pub record Needs (t : Committing) (v : View) : Type 0 where
  pub made : IsMade t
  pub homes : HasHomes t.actor v.now
  pub meets : needs_in t.phase t v

-- what came of the object that is put
abbrev pub CameOf : ℕ → ℕ → Option (ObjName × Put) → Putting → View → View → Type 0
CameOf count most None p v w = Unit {0}
CameOf count most (Some (name, Stored)) p v w = put.Came Stored p v w × (count < most)
CameOf count most (Some (name, end)) p v w = put.Came end p v w

-- Nothing stood where the object was to be put.
abbrev pub FullAt : Phase → View → Type 0
FullAt (phase.Put p) v = v.now.at (path_of p.name) ≡ Absent
FullAt (phase.PutCommit p) v = v.now.at (path_of p.name) ≡ Absent
FullAt ph v = Unit {0}

abbrev pub came_in : ℕ → ℕ → Phase → Option (ObjName × Put) → View → View → Type 0
came_in count most (phase.Put p) met v w = CameOf count most met p v w
came_in count most (phase.PutCommit p) met v w = CameOf count most met p v w
came_in count most ph met v w = Unit {0}

-- What a step that is done tells of the view before it and the one after it: of an object, that it was put where nothing stood
-- and there was room, or that something stood there; of a refusal, that nothing changed.
abbrev pub Tells : ℕ → Committing → Committing → View → View → StepResult (Result (List ℕ) BuildRefusal) → Type 0
Tells count old new v w More = came_in count old.limits.objects old.phase new.met v w
Tells count old new v w (Done (Ok commit)) = Unit {0}
Tells count old new v w (Done (Err refusal)) = FullAt old.phase v × (w ≡ v)

-- Why a step isn't done: the call failed or wanted for memory, or a leaf stands where an object's folder has to be.
abbrev pub refuses_in : Phase → View → FsErr → Type 0
refuses_in ph v Failed = Unit {0}
refuses_in ph v NoMemory = Unit {0}
refuses_in (phase.Put p) v e = put.Refuses p v e
refuses_in (phase.PutCommit p) v e = put.Refuses p v e
refuses_in ph v e = ⊥

abbrev pub Refuses : Committing → View → FsErr → Type 0
Refuses t = refuses_in t.phase

-- which refusals a step has at all, told or not
abbrev pub OfPhase : Phase → FsErr → Type 0
OfPhase (phase.Put p) = advancing.MayRefuse p.phase
OfPhase (phase.PutCommit p) = advancing.MayRefuse p.phase
OfPhase phase.SyncObjects = OfNone
OfPhase (phase.SyncCommit sum) = OfNone
OfPhase (phase.Unmark sum) = OfFinding
OfPhase (phase.SyncState sum) = OfFinding
OfPhase (phase.Ended sum) = λ e. ⊥
OfPhase ph = λ e. e ≡ NoMemory
