-- A prune, as a task.
use Rattle.std.specs.Prelude.{◌≡◌, ◌⊎◌, ◌<◌, ℕ, true, false, List, [], length, map, Option, Some, None}
use Rattle.ost_types.specs.Path.{Path}
use Rattle.fs_trait.specs.declared.task.StepResult.{StepResult}
use Rattle.fs_trait.specs.declared.task.StepResult.TheVariants as turn
use Rattle.fs_trait.specs.declared.types.FsErr.{FsErr}
use Rattle.fs_trait.specs.Effect.{OfNone}
use Rattle.fs_trait.specs.Seen.{Seen}
use Rattle.fs_trait.specs.View.{View}
use Rattle.store_check.specs.Listing.{AreBelow}
use Rattle.prune_command.specs.Answers.{HasDamaged}
use Rattle.boot_model.specs.declared.item.DepId.{DepId}
use Rattle.rely_guarantee.specs.declared.books.Pin.{Pin}
use Rattle.rely_guarantee.specs.declared.event.Event.{Event}
use Rattle.rely_guarantee.specs.declared.event.Event.TheVariants.{Pruned}
use Rattle.rely_guarantee.specs.declared.kind.Wants.{Wants}
use Rattle.rely_guarantee.specs.Laws.{Kind, Quiet, Take}
use Rattle.rely_guarantee.specs.Pinning.{without}
use Rattle.ref_book.specs.declared.book.RefBook.{RefBook}
use Rattle.prune_mark.specs.Marking.{Knows}
use Rattle.prune_sweep.specs.declared.part.Part.TheVariants as part
use Rattle.prune_sweep.specs.Planned.{IsPlanned}
use Rattle.prune_sweep.specs.Sweeping.{GoesOn, IsFresh, IsSoFar, Sweeping, calls_of}
use Rattle.prune_command.specs.declared.answer.PruneAnswer.{PruneAnswer}
use Rattle.prune_command.specs.declared.answer.PruneAnswer.TheVariants as answer
use Rattle.prune_command.specs.declared.command.PruneCommand.{PruneCommand}
use Rattle.prune_command.specs.declared.known.Known.{Known}
use Rattle.prune_command.specs.declared.phase.Phase.{Phase}
use Rattle.prune_command.specs.declared.phase.Phase.TheVariants as phase
use Rattle.prune_command.specs.Learned.{AreOfState, from_of, object_of}
use Rattle.prune_command.specs.Phases.{phase_left, turn_of}
use Rattle.prune_command.specs.SweepSteps.{Did, sweep_kind, sweep_needs, sweep_writes}

-- the change that it makes
abbrev pub change_of : PruneCommand → Sweeping → Event
change_of t r = Pruned t.depth t.known.roots t.known.held r.removed

-- the lock of the lane that removes objects, and the one of the lane that publishes a change
abbrev pub prune_wants : Wants
prune_wants = record { exclusive = true; turn = true; shared = false; sysroot = false; hold = None; pin = None }

abbrev pub kind_in : Phase → PruneCommand → Kind
kind_in phase.Waiting t = Take prune_wants
kind_in (phase.Sweeping r) t = sweep_kind r.part (change_of t r) (calls_of r)
kind_in p t = Quiet

abbrev pub prune_kind : PruneCommand → Kind
prune_kind t = kind_in t.phase t

-- what is known of the view; after the end nothing is asked of it
abbrev pub needs_in : Phase → PruneCommand → View → Type 0
needs_in phase.Waiting t v = Unit {0}
needs_in phase.Unlearned t v = Unit {0}
needs_in (phase.Listing l) t v = AreBelow v.now l.first l.names
needs_in (phase.Marking m) t v = Knows v.now (from_of t.known) m.marking
needs_in (phase.Sweeping r) t v = sweep_needs r.part r v
needs_in (phase.Over a) t v = ⊥

abbrev pub prune_needs : ℕ → PruneCommand → View → Type 0
prune_needs actor t v = needs_in t.phase t v

abbrev pub writes_in : Phase → Path → Seen → Type 0
writes_in (phase.Sweeping r) p s = sweep_writes r.part r p s
writes_in x p s = ⊥

abbrev pub prune_writes : ℕ → PruneCommand → View → Path → Seen → Type 0
prune_writes actor t v = writes_in t.phase

-- at most so many steps go on
abbrev pub prune_left : PruneCommand → ℕ
prune_left t = phase_left t.phase

-- which phase comes behind which
abbrev pub Follows : ℕ → Phase → Phase → Type 0
Follows depth phase.Waiting phase.Unlearned = Unit {0}
Follows depth (phase.Listing l) (phase.Listing n) = Unit {0}
Follows depth (phase.Listing l) (phase.Marking n) = n.marking.depth ≡ depth
Follows depth (phase.Marking m) (phase.Marking n) = n.marking.depth ≡ m.marking.depth
Follows depth (phase.Marking m) (phase.Sweeping n) = IsFresh n × IsSoFar n
Follows depth (phase.Sweeping r) (phase.Sweeping n) = GoesOn r n × IsSoFar n
Follows depth p n = ⊥

-- which answer it may end with
abbrev pub Ends : Phase → PruneAnswer → Type 0
Ends (phase.Marking m) (answer.Outside path) = Unit {0}
Ends (phase.Sweeping r) (answer.Pruned kept removed) = ((r.part ≡ part.End) ⊎ (r.part ≡ part.Over)) × (kept ≡ r.kept) × (removed ≡ length r.removed)
Ends (phase.Over a) b = b ≡ a
Ends p a = ⊥

-- The same prune in a phase that comes behind, with fewer steps left; or its end.
abbrev pub prune_stepped : PruneCommand → StepResult (Unit {0}) → PruneCommand → Type 0
prune_stepped t turn.More new = (new ≡ record t { phase = new.phase }) × Follows t.depth t.phase new.phase × (prune_left new < prune_left t)
prune_stepped t (turn.Done x) new = (a : PruneAnswer) × (new ≡ record t { phase = phase.Over a }) × Ends t.phase a

-- what is known of the view behind a step that goes on
abbrev pub Goes : PruneCommand → Phase → Phase → View → View → Type 0
Goes t phase.Waiting phase.Unlearned v w = w ≡ v
Goes t (phase.Listing l) (phase.Listing n) v w = (w ≡ v) × AreBelow v.now n.first n.names
Goes t (phase.Listing l) (phase.Marking n) v w = (w ≡ v) × Knows v.now (from_of t.known) n.marking
Goes t (phase.Marking m) (phase.Marking n) v w = (w ≡ v) × Knows v.now (from_of t.known) n.marking
Goes t (phase.Marking m) (phase.Sweeping n) v w = (w ≡ v) × IsPlanned v.now (from_of t.known) m.marking.depth t.known.held n
Goes t (phase.Sweeping r) (phase.Sweeping n) v w = Did r.part r v w
Goes t p n v w = ⊥

-- and behind the last one
abbrev pub Tells : PruneCommand → Phase → PruneAnswer → View → View → Type 0
Tells t (phase.Marking m) (answer.Outside path) v w = (w ≡ v) × HasDamaged v.now t.limits.content path
Tells t (phase.Sweeping r) (answer.Pruned kept removed) v w = Did r.part r v w
Tells t p a v w = ⊥

abbrev pub prune_leaves : PruneCommand → StepResult (Unit {0}) → PruneCommand → View → View → Type 0
prune_leaves t turn.More new v w = (new ≡ record t { phase = new.phase }) × Follows t.depth t.phase new.phase × Goes t t.phase new.phase v w
prune_leaves t (turn.Done x) new v w = (a : PruneAnswer) × (new ≡ record t { phase = phase.Over a }) × Ends t.phase a × Tells t t.phase a v w

abbrev pub prune_refuses : PruneCommand → View → FsErr → Type 0
prune_refuses t v e = OfNone e

-- what it answers, once it is done
abbrev pub answer_in : Phase → Option PruneAnswer
answer_in (phase.Over a) = Some a
answer_in p = None

abbrev pub prune_answer : PruneCommand → Option PruneAnswer
prune_answer t = answer_in t.phase

abbrev pub IsNew : PruneCommand → Type 0
IsNew t = t.phase ≡ phase.Waiting

-- Where it waits for it and there is memory, it is told where it begins.
abbrev pub Learns : RefBook → List DepId → List Pin → PruneCommand → Phase → PruneCommand → Type 0
Learns refs ids pins old phase.Unlearned new =
    (new ≡ old)
    ⊎ ((k : Known) × AreOfState refs ids k.roots × (k.held ≡ map object_of (without old.lane pins)) × (new ≡ record old { known = k; phase = phase.Listing (record { names = []; first = 0 }) }))
Learns refs ids pins old p new = new ≡ old

abbrev pub prune_learns : RefBook → List DepId → List Pin → PruneCommand → PruneCommand → Type 0
prune_learns refs ids pins old new = Learns refs ids pins old old.phase new

-- it goes on in this phase, if another one comes next
abbrev pub goes : Option Phase → PruneCommand → StepResult (Unit {0}) → PruneCommand → Type 0
goes None old u new = (u ≡ turn.More) × (new ≡ old)
goes (Some next) old u new = (u ≡ turn_of next) × (new ≡ record old { phase = next })
