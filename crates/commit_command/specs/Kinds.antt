-- What each step of a commit is to the whole system.
use Rattle.std.specs.Prelude.{◌≡◌, ◌⊎◌, ◌<◌, ◌+◌, ℕ, Bool, true, false, List, Option, Some, None, is_some, Ok, Err, if◌then◌else◌}
use Rattle.ost_types.specs.declared.object.ObjName.{ObjName}
use Rattle.ost_types.specs.Path.{Path}
use Rattle.fs_trait.specs.declared.task.StepResult.{StepResult}
use Rattle.fs_trait.specs.declared.task.StepResult.TheVariants as turn
use Rattle.fs_trait.specs.declared.types.FsErr.{FsErr}
use Rattle.fs_trait.specs.Effect.{OfNone}
use Rattle.fs_trait.specs.View.{View}
use Rattle.fs_trait.specs.Seen.{Seen}
use Rattle.fs_trait.specs.Change.{Writes}
use Rattle.ref_store.specs.declared.phase.Phase.TheVariants as phase
use Rattle.ref_store.specs.Change as store
use Rattle.obj_store.specs.declared.phase.Put.{Put}
use Rattle.commit_build.specs.declared.refusal.BuildRefusal.{BuildRefusal}
use Rattle.commit_build.specs.Committing as build
use Rattle.commit_build.specs.Committing.{Committing, storing_in, commit_in}
use Rattle.commit_build.specs.Steps.{Needs, WritesIn, WritesOf, Refuses, FullAt, came_in}
use Rattle.rely_guarantee.specs.declared.kind.Wants.{Wants}
use Rattle.rely_guarantee.specs.Laws.{Kind, Quiet, Take}
use Rattle.ref_command.specs.declared.work.RefWork.{RefWork}
use Rattle.ref_command.specs.Kinds.{ref_kind, ref_needs, ref_writes, ref_stepped, ref_leaves, ref_refuses}
use Rattle.commit_command.specs.declared.naming.Naming.{Naming}
use Rattle.commit_command.specs.declared.command.CommitCommand.{CommitCommand}

-- the lock of those that store, and, where the object isn't pinned yet, its pin
abbrev pub put_wants : Bool → ObjName → Wants
put_wants pinned name = record { exclusive = false; turn = false; shared = true; sysroot = false; hold = None; pin = if pinned then None else Some name }

-- A step that puts an object takes these; every other step of the build is quiet.
abbrev pub build_kind : Bool → Option ObjName → Kind
build_kind pinned None = Quiet
build_kind pinned (Some name) = Take (put_wants pinned name)

abbrev pub kind_by : Option Naming → CommitCommand → Kind
kind_by None t = build_kind t.pinned (storing_in t.build.phase)
kind_by (Some n) t = ref_kind n.work

abbrev pub commit_kind : CommitCommand → Kind
commit_kind t = kind_by t.change t

-- the change that follows the build, at its beginning: the ref is to name the commit, and so far its parent
abbrev pub planned : CommitCommand → List ℕ → Naming
planned t commit = record { commit = commit; work = record { task = record { actor = t.build.actor; name = t.name; seen = t.build.message.parent; value = Some commit; phase = phase.Look }; answer = None } }

abbrev pub needs_by : Option Naming → ℕ → CommitCommand → View → Type 0
needs_by None actor t v = Needs t.build v
needs_by (Some n) actor t v = ref_needs actor n.work v

abbrev pub commit_needs : ℕ → CommitCommand → View → Type 0
commit_needs actor t v = needs_by t.change actor t v

abbrev pub writes_by : Option Naming → ℕ → CommitCommand → View → Path → Seen → Type 0
writes_by None actor t v p s = WritesIn t.objects t.build v p s
writes_by (Some n) actor t v p s = ref_writes actor n.work v p s

abbrev pub commit_writes : ℕ → CommitCommand → View → Path → Seen → Type 0
commit_writes actor t v p s = writes_by t.change actor t v p s

-- A step of the build, with so many objects in the store: it goes on with fewer steps left, all is done, or it is refused.
abbrev pub Goes : ℕ → Committing → Committing → Type 0
Goes objects old new = build.IsStepped {E = FsErr} objects old (Ok turn.More) new × (build.left new < build.left old)

abbrev pub BuildSteps : ℕ → Committing → Option BuildRefusal → Committing → Type 0
BuildSteps objects old None new = Goes objects old new ⊎ ((commit : List ℕ) × build.IsStepped {E = FsErr} objects old (Ok (turn.Done (Ok commit))) new)
BuildSteps objects old (Some refusal) new = build.IsStepped {E = FsErr} objects old (Ok (turn.Done (Err refusal))) new

-- What is so of the views before and after a step that goes on; a refused one changed nothing.
pub record Builds (objects : ℕ) (old new : Committing) (v w : View) : Type 0 where
  pub needs : Needs new w
  pub writes : Writes (WritesOf old v) v w
  pub tells : came_in objects old.limits.objects old.phase new.met v w

abbrev pub BuildLeaves : ℕ → Committing → Option BuildRefusal → Committing → View → View → Type 0
BuildLeaves objects old None new v w = Builds objects old new v w
BuildLeaves objects old (Some refusal) new v w = FullAt old.phase v × (w ≡ v)

-- the command after a step of its build
abbrev pub built : CommitCommand → Committing → Option BuildRefusal → CommitCommand
built t new refusal = record t { build = new; pinned = is_some (storing_in t.build.phase); refusal = refusal }

abbrev pub stepped_build : CommitCommand → StepResult (Unit {0}) → CommitCommand → Type 0
stepped_build t turn.More new = (new ≡ built t new.build t.refusal) × BuildSteps t.objects t.build None new.build
stepped_build t (turn.Done x) new = (refusal : BuildRefusal) × (new ≡ built t new.build (Some refusal)) × BuildSteps t.objects t.build (Some refusal) new.build

-- once the commit is built, the change of the ref begins, in a step that makes no call
abbrev pub stepped_at : Option (List ℕ) → CommitCommand → StepResult (Unit {0}) → CommitCommand → Type 0
stepped_at None t u new = stepped_build t u new
stepped_at (Some commit) t turn.More new = new ≡ record t { change = Some (planned t commit) }
stepped_at (Some commit) t (turn.Done x) new = ⊥

abbrev pub stepped_by : Option Naming → CommitCommand → StepResult (Unit {0}) → CommitCommand → Type 0
stepped_by None t u new = stepped_at (commit_in t.build.phase) t u new
stepped_by (Some n) t u new = (next : RefWork) × (new ≡ record t { change = Some (record n { work = next }) }) × ref_stepped n.work u next

abbrev pub commit_stepped : CommitCommand → StepResult (Unit {0}) → CommitCommand → Type 0
commit_stepped t u new = stepped_by t.change t u new

abbrev pub leaves_build : CommitCommand → StepResult (Unit {0}) → CommitCommand → View → View → Type 0
leaves_build t turn.More new v w = stepped_build t turn.More new × BuildLeaves t.objects t.build None new.build v w
leaves_build t (turn.Done x) new v w = (refusal : BuildRefusal) × (new ≡ built t new.build (Some refusal)) × BuildSteps t.objects t.build (Some refusal) new.build × BuildLeaves t.objects t.build (Some refusal) new.build v w

abbrev pub leaves_at : Option (List ℕ) → CommitCommand → StepResult (Unit {0}) → CommitCommand → View → View → Type 0
leaves_at None t u new v w = leaves_build t u new v w
leaves_at (Some commit) t turn.More new v w = (new ≡ record t { change = Some (planned t commit) }) × (w ≡ v)
leaves_at (Some commit) t (turn.Done x) new v w = ⊥

abbrev pub leaves_by : Option Naming → CommitCommand → StepResult (Unit {0}) → CommitCommand → View → View → Type 0
leaves_by None t u new v w = leaves_at (commit_in t.build.phase) t u new v w
leaves_by (Some n) t u new v w = (next : RefWork) × (new ≡ record t { change = Some (record n { work = next }) }) × ref_leaves n.work u next v w

abbrev pub commit_leaves : CommitCommand → StepResult (Unit {0}) → CommitCommand → View → View → Type 0
commit_leaves t u new v w = leaves_by t.change t u new v w

abbrev pub refuses_at : Option (List ℕ) → CommitCommand → View → FsErr → Type 0
refuses_at None t v e = Refuses t.build v e
refuses_at (Some commit) t v e = OfNone e

abbrev pub refuses_by : Option Naming → CommitCommand → View → FsErr → Type 0
refuses_by None t v e = refuses_at (commit_in t.build.phase) t v e
refuses_by (Some n) t v e = ref_refuses n.work v e

abbrev pub commit_refuses : CommitCommand → View → FsErr → Type 0
commit_refuses t v e = refuses_by t.change t v e

-- what the last step stored or found
abbrev pub met_in : Option Naming → Committing → Option (ObjName × Put)
met_in None t = t.met
met_in (Some n) t = None

-- at most so many steps are left; a change of a ref has fewer than the second number
abbrev pub left_by : Option Naming → CommitCommand → ℕ
left_by None t = build.left t.build + 170141183460469231731687303715884106752
left_by (Some n) t = store.left n.work.task

abbrev pub commit_left : CommitCommand → ℕ
commit_left t = left_by t.change t
