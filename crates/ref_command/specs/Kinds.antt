-- What each step of a change of a ref is to the whole system.
use Rattle.std.specs.Prelude.{◌<◌, ℕ, true, false, List, [], Option, Some, None, Result, Ok}
use Rattle.ost_types.specs.Path.{Path}
use Rattle.fs_trait.specs.declared.task.StepResult.{StepResult}
use Rattle.fs_trait.specs.declared.task.StepResult.TheVariants as turn
use Rattle.fs_trait.specs.declared.types.FsErr.{FsErr}
use Rattle.fs_trait.specs.View.{View}
use Rattle.fs_trait.specs.Seen.{Seen}
use Rattle.fs_trait.specs.Change.{Writes}
use Rattle.staged_file.specs.declared.phase.Phase as staged
use Rattle.ref_store.specs.declared.phase.Phase.{Phase}
use Rattle.ref_store.specs.declared.progress.Progress.{Progress}
use Rattle.ref_store.specs.declared.progress.Progress.TheVariants as progress
use Rattle.ref_store.specs.declared.refusal.RefRefusal.{RefRefusal}
use Rattle.ref_store.specs.Change.{Change, IsStepped, MayCome, left, progress_in, progress_of}
use Rattle.ref_store.specs.Steps.{Needs, WritesOf, Tells, Refuses}
use Rattle.rely_guarantee.specs.declared.event.Event.{Event}
use Rattle.rely_guarantee.specs.declared.event.Event.TheVariants.{SetRef, DropRef}
use Rattle.rely_guarantee.specs.declared.kind.Wants.{Wants}
use Rattle.rely_guarantee.specs.Laws.{Kind, Quiet, Take, Publish, MakeDurable}
use Rattle.ref_command.specs.declared.work.RefWork.{RefWork}

-- the event that the change is; what is removed had a value
abbrev pub event_of : Option (List ℕ) → List ℕ → Option (List ℕ) → Event
event_of (Some commit) name seen = SetRef name seen commit
event_of None name (Some seen) = DropRef name seen
event_of None name None = DropRef name []

abbrev pub event : Change → Event
event t = event_of t.value t.name t.seen

-- the ref lock, and nothing else
abbrev pub turn_wants : Wants
turn_wants = record { exclusive = false; turn = true; shared = false; sysroot = false; hold = None; pin = None }

-- The look takes the ref lock; making room and staging the file is quiet. The change is published by the rename of its file, or by
-- the unlink, and lasts by the sync of its folder.
abbrev pub kind_at : Progress → Event → Kind
kind_at progress.Looking e = Take turn_wants
kind_at progress.Preparing e = Quiet
kind_at progress.Showing e = Publish e
kind_at progress.Settling e = MakeDurable e
kind_at progress.Ended e = Quiet

abbrev pub put_kind : staged.Phase → Event → Kind
put_kind ph e = kind_at (progress_of ph) e

abbrev pub kind_in : Phase → Event → Kind
kind_in ph e = kind_at (progress_in ph) e

abbrev pub ref_kind : RefWork → Kind
ref_kind t = kind_in t.task.phase (event t.task)

abbrev pub ref_needs : ℕ → RefWork → View → Type 0
ref_needs actor t v = Needs t.task v

abbrev pub ref_writes : ℕ → RefWork → View → Path → Seen → Type 0
ref_writes actor t v = WritesOf t.task v

abbrev pub Answer : Type 0
Answer = Option (Result (Unit {0}) RefRefusal)

-- the step goes on as the change's does, with fewer steps left, and its answer is kept when it is done
abbrev pub stepped_in : StepResult (Unit {0}) → Answer → Change → Change → Type 0
stepped_in turn.More answer old new = IsStepped old (Ok turn.More) new × (left new < left old)
stepped_in (turn.Done x) (Some answer) old new = IsStepped old (Ok (turn.Done answer)) new × MayCome old.phase (turn.Done answer)
stepped_in (turn.Done x) None old new = ⊥

abbrev pub ref_stepped : RefWork → StepResult (Unit {0}) → RefWork → Type 0
ref_stepped t u new = stepped_in u new.answer t.task new.task

-- What is so of the views before and after a step that answers this.
pub record Leaves (old new : Change) (came : StepResult (Result (Unit {0}) RefRefusal)) (v w : View) : Type 0 where
  pub stepped : IsStepped old (Ok came) new
  pub may : MayCome old.phase came
  pub needs : Needs new w
  pub writes : Writes (WritesOf old v) v w
  pub tells : Tells old new v came

abbrev pub leaves_in : StepResult (Unit {0}) → Answer → Change → Change → View → View → Type 0
leaves_in turn.More answer old new v w = Leaves old new turn.More v w
leaves_in (turn.Done x) (Some answer) old new v w = Leaves old new (turn.Done answer) v w
leaves_in (turn.Done x) None old new v w = ⊥

abbrev pub ref_leaves : RefWork → StepResult (Unit {0}) → RefWork → View → View → Type 0
ref_leaves t u new v w = leaves_in u new.answer t.task new.task v w

abbrev pub ref_refuses : RefWork → View → FsErr → Type 0
ref_refuses t v e = Refuses t.task v e
