-- What a step that marks objects comes to.
use Rattle.std.specs.Prelude.{◌≡◌, ◌<◌, ℕ, List, Option, Some, None, Result, Ok, Err, IfOk, IfErr}
use Rattle.ost_types.specs.declared.object.ObjName.{ObjName}
use Rattle.ost_types.specs.Path.{Path}
use Rattle.fs_trait.specs.declared.types.FsErr.{FsErr}
use Rattle.fs_trait.specs.declared.types.FsErr.TheVariants as error
use Rattle.fs_trait.specs.View.{View}
use Rattle.repo_model.specs.Objects.{path_of}
use Rattle.prune_mark.specs.declared.fault.MarkFault.{MarkFault}
use Rattle.prune_mark.specs.declared.fault.MarkFault.TheVariants as fault
use Rattle.prune_mark.specs.Marking.{Knows, State}
use Rattle.prune_sweep.specs.Planned.{IsPlanned}
use Rattle.prune_sweep.specs.Sweeping.{IsFresh, IsSoFar}
use Rattle.prune_command.specs.declared.answer.PruneAnswer.TheVariants as answer
use Rattle.prune_command.specs.declared.phase.Phase.{Phase}
use Rattle.prune_command.specs.declared.phase.Phase.TheVariants as phase
use Rattle.prune_command.specs.Answers.{HasDamaged}
use Rattle.prune_command.specs.Marks.{Marks}

-- The marking goes on to be right; then the removal is planned. An object that stops it is damaged.
abbrev pub MarkTells : View → ℕ → List ObjName → List ObjName → ℕ → State → Option Phase → Type 0
MarkTells v content from held depth new None = Knows v.now from new
MarkTells v content from held depth new (Some (phase.Sweeping r)) = IsPlanned v.now from depth held r
MarkTells v content from held depth new (Some (phase.Over (answer.Outside path))) = HasDamaged v.now content path
MarkTells v content from held depth new (Some p) = ⊥

abbrev pub IsMarkStepped : Marks → Marks → Option Phase → Type 0
IsMarkStepped old new None = (new.marking.depth ≡ old.marking.depth) × (new.left < old.left)
IsMarkStepped old new (Some (phase.Sweeping r)) = IsFresh r × IsSoFar r
IsMarkStepped old new (Some (phase.Over (answer.Outside path))) = Unit {0}
IsMarkStepped old new (Some p) = ⊥

-- the answer is this path, where there is memory
abbrev pub EndsAt : Path → Result (Option Phase) FsErr → Type 0
EndsAt path r = IfOk r (λ next. next ≡ Some (phase.Over (answer.Outside path))) × IfErr r (λ e. e ≡ error.NoMemory)

-- What comes of a fault: an object that isn't as it should be is the answer.
abbrev pub IsOfFault : MarkFault → Result (Option Phase) FsErr → Type 0
IsOfFault (fault.Absent o) r = EndsAt (path_of o) r
IsOfFault (fault.Damaged o) r = EndsAt (path_of o) r
IsOfFault (fault.Fs e) r = r ≡ Err e
IsOfFault fault.NoMemory r = r ≡ Err error.NoMemory
