-- What committing a tree leaves, from its first step to any later moment, where nobody else changes its paths.
use Rattle.std.specs.Prelude.{◌≡◌, ◌≢◌, ◌⊎◌, ◌↔◌, ◌≤◌, ◌<◌, ◌+◌, min, ℕ, List, [], length, All, AllPairs, Contains, Option, Some, Result, Ok, Err}
use Rattle.ost_types.specs.declared.node.NodeName.{NodeName}
use Rattle.ost_types.specs.declared.object.ObjName.{ObjName}
use Rattle.ost_types.specs.Path.{Path}
use Rattle.fs_trait.specs.declared.types.FsErr.{FsErr}
use Rattle.fs_trait.specs.declared.types.FsErr.TheVariants.{Failed, NoMemory, NotFolder}
use Rattle.fs_trait.specs.declared.types.Value.TheVariants.{Absent}
use Rattle.fs_trait.specs.View.{Disk, View}
use Rattle.fs_trait.specs.Image.{EachImage}
use Rattle.fs_trait.specs.Seen.{Seen, Vacant, shows, MayBe, IsDirectory, NotDirectory}
use Rattle.repo_layout.specs.Paths.{objects_folder_path, mark_path, stage_path}
use Rattle.repo_layout.specs.RefFile.{IsSum}
use Rattle.repo_model.specs.Objects.{Stores, Marked, object_in, path_of}
use Rattle.repo_model.specs.Trees.{TreeShows}
use Rattle.repo_model.specs.Whole.{Complete}
use Rattle.tree_build.specs.Items.{IsTree, IsLeastBad}
use Rattle.tree_build.specs.Objects.{Object, work}
use Rattle.tree_build.specs.Building.{IsNumber}
use Rattle.tree_build.specs.Commits.{ItemShows}
use Rattle.obj_store.specs.declared.phase.Put.{Put}
use Rattle.obj_store.specs.declared.phase.Put.TheVariants.{Stored}
use Rattle.obj_store.specs.Steps.{IsLeaf}
use Rattle.commit_build.specs.declared.refusal.BuildRefusal.{BuildRefusal}
use Rattle.commit_build.specs.declared.refusal.BuildRefusal.TheVariants.{BadTree, TooMany}
use Rattle.commit_build.specs.declared.phase.Phase.TheVariants.{Check}
use Rattle.commit_build.specs.Committing.{Committing, IsMade, commit_of}
use Rattle.commit_build.specs.Steps.{HasHomes, IsThere}

-- the commit's object, and its sum
abbrev pub its_commit : Committing → Object
its_commit t = commit_of t.items t.message

-- an object that the commit consists of: one of its tree, or its own
abbrev pub IsOfCommit : Committing → Object → Type 0
IsOfCommit t o = ((n : ℕ) × IsNumber (work t.items) n o) ⊎ (o ≡ its_commit t)

-- What all steps together may write: no folder at the staging path; the folder of an object, and the object, where nothing stood;
-- and the commit's mark goes.
abbrev pub Written : Committing → View → Path → Seen → Type 0
Written t v p s =
    ((p ≡ stage_path t.actor) × NotDirectory s)
    ⊎ ((o : Object) × IsOfCommit t o × (p ≡ objects_folder_path o.name.csum) × IsDirectory s × (shows v.now p ≡ Vacant))
    ⊎ ((o : Object) × IsOfCommit t o × (p ≡ path_of o.name) × (object_in o.name.kind s ≡ Some o.bytes) × (shows v.now p ≡ Vacant))
    ⊎ ((p ≡ mark_path (its_commit t).name.csum) × (s ≡ Vacant))

-- A crash left this disk: at each path nothing, what might have been there at the beginning, or what is written there; so at an
-- object's path nothing, what might have been there, or an object of the commit, whole; and the commit only where it might have
-- been before, or where all objects of its tree are.
pub record Leaves (t : Committing) (v : View) (d : Disk) : Type 0 where
  pub each : (p : Path) → (shows d p ≡ Vacant) ⊎ MayBe v p (shows d p) ⊎ Written t v p (shows d p)
  pub objects : (name : ObjName) → IsSum name.csum → (shows d (path_of name) ≡ Vacant) ⊎ MayBe v (path_of name) (shows d (path_of name)) ⊎ ((o : Object) × IsOfCommit t o × (o.name ≡ name) × Stores d name o.bytes)
  pub children : (shows d (path_of (its_commit t).name) ≡ Vacant) ⊎ MayBe v (path_of (its_commit t).name) (shows d (path_of (its_commit t).name)) ⊎ ((n : ℕ) (o : Object) → IsNumber (work t.items) n o → IsThere d o.name)

-- Different objects of the commit have different names; and what stands at the path of one, or may stand there after a crash, is it.
pub record IsRight (t : Committing) (v : View) : Type 0 where
  pub alone : (a b : Object) → IsOfCommit t a → IsOfCommit t b → a.name ≡ b.name → a.bytes ≡ b.bytes
  pub each : (o : Object) → IsOfCommit t o → (s : Seen) → MayBe v (path_of o.name) s → s ≢ Vacant → object_in o.name.kind s ≡ Some o.bytes

-- The disk has all objects of the commit and no mark of it. The commit is complete, and its tree is the items.
pub record HasWhole (t : Committing) (d : Disk) : Type 0 where
  pub objects : (o : Object) → IsOfCommit t o → Stores d o.name o.bytes
  pub complete : Complete (Stores d) t.limits (its_commit t).name.csum
  pub shown : (p : Path) (n : NodeName) → TreeShows (Stores d) (its_commit t).name.csum p n ↔ ItemShows t.items p n
  pub unmarked : Marked d (its_commit t).name.csum → ⊥

-- an object of the commit at whose path nothing stands
pub record IsLacked (t : Committing) (d : Disk) (name : ObjName) : Type 0 where
  pub object : Object
  pub of : IsOfCommit t object
  pub is : object.name ≡ name
  pub none : d.at (path_of name) ≡ Absent

-- different ones
pub record AreLacked (t : Committing) (d : Disk) (names : List ObjName) : Type 0 where
  pub apart : AllPairs (λ a b. a ≢ b) names
  pub each : All (IsLacked t d) names

-- With so many objects in the store there is room for all that are lacked; or for fewer than are lacked.
pub record HasRoom (t : Committing) (count : ℕ) (d : Disk) : Type 0 where
  pub names : List ObjName
  pub lacked : AreLacked t d names
  pub all : (name : ObjName) → IsLacked t d name → Contains names name
  pub room : (names ≡ []) ⊎ (count + length names ≤ t.limits.objects)

pub record HasNoRoom (t : Committing) (count : ℕ) (d : Disk) : Type 0 where
  pub names : List ObjName
  pub lacked : AreLacked t d names
  pub full : t.limits.objects < count + length names

-- How it ended, with so many objects in the store at its beginning. Once the commit's sum is answered, each crash leaves it whole.
abbrev pub Ends : Committing → ℕ → Result (List ℕ) BuildRefusal → View → View → Type 0
Ends t count (Ok commit) v w = (commit ≡ (its_commit t).name.csum) × IsTree t.items × HasRoom t count v.now × (IsRight t v → EachImage w (HasWhole t))
Ends t count (Err (BadTree p)) v w = IsLeastBad t.items p × (w ≡ v)
Ends t count (Err (TooMany n)) v w = (n ≡ t.limits.objects + 1) × IsTree t.items × HasNoRoom t count v.now

-- Why it ended early, by what reads see at its beginning: a call failed or wanted for memory, or a leaf stood where the folder of an
-- object has to be.
abbrev pub Stops : Committing → Disk → FsErr → Type 0
Stops t d Failed = Unit {0}
Stops t d NoMemory = Unit {0}
Stops t d NotFolder = (o : Object) × IsOfCommit t o × IsLeaf (shows d (objects_folder_path o.name.csum))
Stops t d e = ⊥

-- What reads must see where a task may begin: the folders of the layout, and no folder at the staging path.
pub record MayBegin (t : Committing) (d : Disk) : Type 0 where
  pub new : t.phase ≡ Check
  pub made : IsMade t
  pub homes : HasHomes t.actor d

-- one more is in the store after a step that stored an object, as far as 32 bits go
abbrev pub IsCounted : ℕ → Option (ObjName × Put) → ℕ → Type 0
IsCounted count (Some (name, Stored)) next = next ≡ min (count + 1) 4294967295
IsCounted count met next = next ≡ count
