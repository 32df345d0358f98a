-- A removal of deployments that the list doesn't name, as a task.
use Rattle.std.specs.Global.{Vec}
use Rattle.std.specs.Prelude.{◌≡◌, ◌⊎◌, ◌^◌, ℕ, suc, true, false, List, Option, Some, None, Ok}
use Rattle.ost_types.specs.Path.{Path}
use Rattle.fs_trait.specs.declared.task.StepResult.{StepResult}
use Rattle.fs_trait.specs.declared.task.StepResult.TheVariants as turn
use Rattle.fs_trait.specs.declared.types.FsErr.{FsErr}
use Rattle.fs_trait.specs.Change.{Writes}
use Rattle.fs_trait.specs.Effect.{OfNone}
use Rattle.fs_trait.specs.Seen.{Seen}
use Rattle.fs_trait.specs.View.{Disk, View}
use Rattle.boot_model.specs.declared.item.DepId.{DepId}
use Rattle.deploy_clean.specs.Cleaning.{IsStepped, begun}
use Rattle.deploy_clean.specs.Steps.{Needs, WritesOf}
use Rattle.deploy_clean.specs.Unlisted.{IsClean}
use Rattle.durable_list.specs.Standing.{HasLoader}
use Rattle.durable_deployments.specs.Bounds.{AreBounded}
use Rattle.rely_guarantee.specs.declared.books.Pin.{Pin}
use Rattle.rely_guarantee.specs.declared.kind.Wants.{Wants}
use Rattle.rely_guarantee.specs.Laws.{Kind, Quiet, Take}
use Rattle.ref_book.specs.declared.book.RefBook.{RefBook}
use Rattle.clean_command.specs.declared.answer.CleanAnswer.{CleanAnswer}
use Rattle.clean_command.specs.declared.answer.CleanAnswer.TheVariants.{Cleaned}
use Rattle.clean_command.specs.declared.command.CleanCommand.{CleanCommand}
use Rattle.clean_command.specs.declared.phase.Phase.{Phase}
use Rattle.clean_command.specs.declared.phase.Phase.TheVariants as phase

-- the lock of the lane that works on the list of deployments
abbrev pub clean_wants : Wants
clean_wants = record { exclusive = false; turn = false; shared = false; sysroot = true; hold = None; pin = None }

abbrev pub kind_in : Phase → Kind
kind_in phase.Waiting = Take clean_wants
kind_in p = Quiet

abbrev pub clean_kind : CleanCommand → Kind
clean_kind t = kind_in t.phase

-- What is known of the view; what is to go is within the bounds of paths, so that it can be removed. After the end nothing is asked.
abbrev pub needs_in : Phase → View → Type 0
needs_in (phase.Cleaning c) v = Needs c v × AreBounded v
needs_in phase.Over v = ⊥
needs_in p v = Unit {0}

abbrev pub clean_needs : ℕ → CleanCommand → View → Type 0
clean_needs actor t = needs_in t.phase

abbrev pub writes_in : Phase → View → Path → Seen → Type 0
writes_in (phase.Cleaning c) v p s = WritesOf c v p s
writes_in ph v p s = ⊥

abbrev pub clean_writes : ℕ → CleanCommand → View → Path → Seen → Type 0
clean_writes actor t = writes_in t.phase

-- so many steps a removal is given
abbrev pub most_steps : ℕ
most_steps = 2 ^ 127

abbrev pub left_in : Phase → ℕ → ℕ
left_in phase.Over room = 0
left_in p room = room

-- at most so many steps go on
abbrev pub clean_left : CleanCommand → ℕ
clean_left t = left_in t.phase t.room

-- which phase comes behind which
abbrev pub Follows : Phase → Phase → Type 0
Follows phase.Waiting phase.Unlearned = Unit {0}
Follows (phase.Looking l) (phase.Cleaning n) = n ≡ begun l.items
Follows (phase.Cleaning c) (phase.Cleaning n) = IsStepped c (Ok turn.More) n
Follows p n = ⊥

-- in which one it may end
abbrev pub Ends : Phase → Type 0
Ends (phase.Looking l) = Unit {0}
Ends (phase.Cleaning c) = Unit {0}
Ends phase.Over = Unit {0}
Ends p = ⊥

-- The same removal in a phase that comes behind, with room for one step fewer; or its end.
abbrev pub clean_stepped : CleanCommand → StepResult (Unit {0}) → CleanCommand → Type 0
clean_stepped t turn.More new = (new ≡ record t { room = new.room; phase = new.phase }) × Follows t.phase new.phase × (t.room ≡ suc new.room)
clean_stepped t (turn.Done x) new = (new ≡ record t { phase = phase.Over }) × Ends t.phase

-- what is known of the view behind a step that goes on; a removal begins only where a list is selected
abbrev pub Goes : Phase → Phase → View → View → Type 0
Goes phase.Waiting phase.Unlearned v w = w ≡ v
Goes (phase.Looking l) (phase.Cleaning n) v w = (w ≡ v) × HasLoader w.now
Goes (phase.Cleaning c) (phase.Cleaning n) v w = Writes (WritesOf c v) v w × Needs n w
Goes p n v w = ⊥

-- No list is selected, or nothing stands that it doesn't name.
abbrev pub IsCleaned : Disk → List DepId → Type 0
IsCleaned d listed = (¬ (HasLoader d)) ⊎ IsClean d listed

-- and behind the last one, which changes nothing
abbrev pub Tells : Phase → View → View → Type 0
Tells (phase.Looking l) v w = (w ≡ v) × (¬ (HasLoader w.now))
Tells (phase.Cleaning c) v w = (w ≡ v) × IsClean w.now c.listed
Tells p v w = ⊥

abbrev pub clean_leaves : CleanCommand → StepResult (Unit {0}) → CleanCommand → View → View → Type 0
clean_leaves t turn.More new v w = (new ≡ record t { room = new.room; phase = new.phase }) × Follows t.phase new.phase × Goes t.phase new.phase v w
clean_leaves t (turn.Done x) new v w = (new ≡ record t { phase = phase.Over }) × Tells t.phase v w

abbrev pub clean_refuses : CleanCommand → View → FsErr → Type 0
clean_refuses t v e = OfNone e

-- what it answers, once it is done
abbrev pub answer_in : Phase → Option CleanAnswer
answer_in phase.Over = Some Cleaned
answer_in p = None

abbrev pub clean_answer : CleanCommand → Option CleanAnswer
clean_answer t = answer_in t.phase

abbrev pub IsNew : CleanCommand → Type 0
IsNew t = t.phase ≡ phase.Waiting

-- Where it waits for it and there is memory, it is told what is listed.
abbrev pub Learns : List DepId → CleanCommand → Phase → CleanCommand → Type 0
Learns ids old phase.Unlearned new = (new ≡ old) ⊎ ((l : Vec DepId) × (l.items ≡ ids) × (new ≡ record old { phase = phase.Looking l }))
Learns ids old p new = new ≡ old

abbrev pub clean_learns : RefBook → List DepId → List Pin → CleanCommand → CleanCommand → Type 0
clean_learns refs ids pins old new = Learns ids old old.phase new

-- it goes on with so much room, or is over
abbrev pub goes : StepResult (Unit {0}) → ℕ → CleanCommand → CleanCommand → Type 0
goes turn.More room old new = new ≡ record old { room = room }
goes (turn.Done x) room old new = new ≡ record old { phase = phase.Over }
