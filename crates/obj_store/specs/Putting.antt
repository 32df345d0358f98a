-- An object that is being put at its path, and which step comes next.
use Rattle.std.specs.Prelude.{◌≡◌, ◌≢◌, ◌⊎◌, ◌<◌, ◌+◌, ℕ, Bool, true, false, [], List, Option, Some, None, Result, Ok, Err}
use Rattle.ost_types.specs.declared.meta.Meta.{Meta}
use Rattle.ost_types.specs.declared.object.ObjName.{ObjName}
use Rattle.ost_types.specs.Mode.{IsFileMode, IsLinkMode}
use Rattle.ost_objects.specs.Object.{IsNamed}
use Rattle.fs_trait.specs.declared.types.FsErr.{FsErr}
use Rattle.fs_trait.specs.declared.task.StepResult.{StepResult}
use Rattle.fs_trait.specs.declared.task.StepResult.TheVariants.{More, Done}
use Rattle.fs_trait.specs.declared.task.Need.{Need}
use Rattle.fs_trait.specs.declared.task.Need.TheVariants as need
use Rattle.fs_trait.specs.Effect.{Next}
use Rattle.fs_trait.specs.Seen.{Seen, Symlink, Leaf}
use Rattle.repo_layout.specs.Paths.{stage_path}
use Rattle.repo_model.specs.Objects.{object_in}
use Rattle.staging.specs.declared.phase.Phase as staged
use Rattle.staging.specs.declared.phase.Phase.TheVariants as stage
use Rattle.staging.specs.Draft as draft
use Rattle.ost_types.specs.declared.object.Kind.TheVariants as kind
use Rattle.obj_store.specs.declared.task.Shape.{Shape}
use Rattle.obj_store.specs.declared.task.Shape.TheVariants.{Plain, Read}
use Rattle.obj_store.specs.declared.source.Source.{Source}
use Rattle.obj_store.specs.declared.source.Source.TheVariants.{File, Link}
use Rattle.obj_store.specs.declared.phase.Put.{Put}
use Rattle.obj_store.specs.declared.phase.Put.TheVariants.{Present}
use Rattle.obj_store.specs.declared.phase.Phase.{Phase}
use Rattle.obj_store.specs.declared.phase.Phase.TheVariants as phase

-- who puts which object, what is to stand at its path, and how far it is
pub record Putting : Type 0 where
  pub actor : ℕ
  pub name : ObjName
  pub source : Source
  pub phase : Phase

-- the attributes of an object that is no file: owner 0, group 0, mode 0100644
abbrev pub plain_meta : Meta
plain_meta = record { uid = 0; gid = 0; mode = 33188; xattrs = [] }

abbrev pub is_file : Source → Bool
is_file (File d) = true
is_file (Link m target) = false

-- what stands at the path then, the file with this inode
abbrev pub shown : ℕ → Source → Seen
shown n (File d) = Leaf n d.meta d.bytes
shown n (Link m target) = Symlink m target

-- The bytes are an object's of this name, and what is to stand at its path is that object.
pub record IsObject (name : ObjName) (bytes : List ℕ) (source : Source) : Type 0 where
  pub is : object_in name.kind (shown 0 source) ≡ Some bytes
  pub named : IsNamed name bytes

-- a file is staged at the actor's own path, and the mode is one of what it is
abbrev pub IsReady : ℕ → Source → Type 0
IsReady actor (File d) = (d.stage ≡ stage_path actor) × IsFileMode d.meta.mode
IsReady actor (Link m target) = IsLinkMode m.mode × (target ≢ [])

-- how far the staging is
abbrev pub IsStaging : staged.Phase → Type 0
IsStaging stage.Create = Unit {0}
IsStaging stage.Append = Unit {0}
IsStaging stage.SyncFile = Unit {0}
IsStaging ph = ⊥

abbrev pub IsStaged : Phase → Source → Type 0
IsStaged phase.Look (File d) = d.phase ≡ stage.Clear
IsStaged phase.Stage (File d) = IsStaging d.phase
IsStaged phase.Stage (Link m target) = ⊥
IsStaged phase.Folder (File d) = d.phase ≡ stage.Ended
IsStaged phase.Link (File d) = d.phase ≡ stage.Ended
IsStaged (phase.Unlink put) (File d) = d.phase ≡ stage.Ended
IsStaged (phase.Unlink put) (Link m target) = ⊥
IsStaged ph source = Unit {0}

-- what each such task keeps
pub record IsMade (t : Putting) : Type 0 where
  pub actor : t.actor < 16
  pub bytes : List ℕ
  pub object : IsObject t.name bytes t.source
  pub ready : IsReady t.actor t.source
  pub staged : IsStaged t.phase t.source

-- what the bytes of an object make
pub record IsSourceOf (actor : ℕ) (name : ObjName) (bytes : List ℕ) (source : Source) : Type 0 where
  pub object : IsObject name bytes source
  pub ready : IsReady actor source
  pub staged : IsStaged phase.Look source

-- the same as far as it takes memory: the file's content stream is read, of another object the staging path is had
abbrev pub IsShapeOf : ℕ → ObjName → List ℕ → Shape → Type 0
IsShapeOf actor name bytes (Read source) = IsSourceOf actor name bytes source
IsShapeOf actor name bytes (Plain stage) = (name.kind ≢ kind.File) × (stage ≡ stage_path actor)

-- a task at its beginning
pub record IsNew (actor : ℕ) (name : ObjName) (bytes : List ℕ) (t : Putting) : Type 0 where
  pub source : IsSourceOf actor name bytes t.source
  pub is : t ≡ record { actor = actor; name = name; source = t.source; phase = phase.Look }

-- which step may follow which: a look, and a step of staging, go on as the staging does; what isn't staged has no such steps
abbrev pub Follows : Phase → Phase → Source → Source → Type 0
Follows phase.Look phase.Stage (File d) (File e) = draft.IsStepped {T = Unit {0}} d (Ok More) e
Follows phase.Look phase.Folder (Link m target) source = source ≡ Link m target
Follows phase.Stage phase.Stage (File d) (File e) = draft.IsStepped {T = Unit {0}} d (Ok More) e
Follows phase.Stage phase.Folder (File d) (File e) = draft.IsStepped {T = Unit {0}} d (Ok (Done tt)) e
Follows phase.Folder phase.Link old source = source ≡ old
Follows phase.Link (phase.Unlink put) (File d) source = source ≡ File d
Follows last next old source = ⊥

-- with which step it may end, and how
abbrev pub IsLast : Phase → Source → Put → Type 0
IsLast phase.Look source put = put ≡ Present
IsLast phase.Link (Link m target) put = Unit {0}
IsLast (phase.Unlink was) source put = put ≡ was
IsLast (phase.Ended was) source put = put ≡ was
IsLast ph source put = ⊥

-- Which step it was, and what changed in the task. One that wasn't done leaves the task as it was.
abbrev pub IsStepped : Putting → Result (StepResult Put) FsErr → Putting → Type 0
IsStepped old (Ok More) new = (new ≡ record old { source = new.source; phase = new.phase }) × Follows old.phase new.phase old.source new.source
IsStepped old (Ok (Done put)) new = (new ≡ record old { phase = phase.Ended put }) × IsLast old.phase old.source put
IsStepped old (Err e) new = new ≡ old

-- what follows once the object's path is seen to
abbrev pub shown_in : Source → Put → Phase
shown_in (File d) put = phase.Unlink put
shown_in (Link m target) put = phase.Ended put

abbrev pub shown_next : Put → Putting → Putting
shown_next put t = record t { phase = shown_in t.source put }

abbrev pub turn_in : Source → Put → StepResult Put
turn_in (File d) put = More
turn_in (Link m target) put = Done put

abbrev pub shown_turn : Put → Putting → StepResult Put
shown_turn put t = turn_in t.source put

-- no more steps than this are left: each byte of a file counts as one
abbrev pub left_of : Source → ℕ
left_of (File d) = draft.left d
left_of (Link m target) = 1

abbrev pub left_in : Phase → Source → ℕ
left_in phase.Look source = left_of source + 3
left_in phase.Stage source = left_of source + 3
left_in phase.Folder source = 3
left_in phase.Link source = 2
left_in (phase.Unlink put) source = 1
left_in (phase.Ended put) source = 0

abbrev pub left : Putting → ℕ
left t = left_in t.phase t.source

-- the lock under which a step stands: that of those that store, until the object's path is seen to
abbrev pub need_in : Phase → Need
need_in (phase.Unlink put) = need.Nothing
need_in (phase.Ended put) = need.Nothing
need_in ph = need.Shared

-- what came of the object, once its path is seen to
abbrev pub put_in : Phase → Option Put
put_in (phase.Unlink put) = Some put
put_in (phase.Ended put) = Some put
put_in ph = None

-- how a step moves the clock
abbrev pub Takes : Phase → ℕ → ℕ → Type 0
Takes (phase.Unlink put) before now = Next before now
Takes (phase.Ended put) before now = now ≡ before
Takes phase.Stage before now = Next before now
Takes ph before now = Next before now ⊎ (now ≡ before)

abbrev pub IsUnlink : Phase → Type 0
IsUnlink (phase.Unlink put) = Unit {0}
IsUnlink ph = ⊥

abbrev pub OnMore : {T : Type 0} → Result (StepResult T) FsErr → Type 0 → Type 0
OnMore (Ok More) P = P
OnMore r P = Unit {0}
