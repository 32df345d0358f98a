-- How far a prune is.
use Rattle.std.specs.Prelude.{◌+◌, ◌-◌, ◌^◌, ℕ}
use Rattle.fs_trait.specs.declared.task.StepResult.{StepResult}
use Rattle.fs_trait.specs.declared.task.StepResult.TheVariants as turn
use Rattle.prune_sweep.specs.Sweeping.{left_of}
use Rattle.prune_command.specs.declared.phase.Phase.{Phase}
use Rattle.prune_command.specs.declared.phase.Phase.TheVariants as phase

-- at most so many steps go on
abbrev pub phase_left : Phase → ℕ
phase_left phase.Waiting = 2 ^ 128 - 1
phase_left phase.Unlearned = 2 ^ 128 - 2
phase_left (phase.Listing l) = 2 ^ 100 + (256 - l.first)
phase_left (phase.Marking m) = 2 ^ 80 + m.left
phase_left (phase.Sweeping r) = left_of r
phase_left (phase.Over a) = 0

-- whether it is done
abbrev pub turn_of : Phase → StepResult (Unit {0})
turn_of (phase.Over a) = turn.Done tt
turn_of p = turn.More
