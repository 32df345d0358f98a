use Rattle.std.proofs.Common.{[], ◌∷◌}
use Rattle.std.specs.List.{repeat}
use Rattle.command.specs.Tasks.{task_spec}
use Rattle.lane_system.specs.Family.{family, fs_spec}
use Rattle.schedule_run.specs.Driven.{ActsOf, Driven}
use Rattle.schedule_run.proofs.run.give.Given as goal

abbrev pub invariant-loop-turn : goal.invariant-loop-turn
invariant-loop-turn g l = record {
  driven : Driven (fs_spec g.F.Fs.view g.F.Fs.clock g.F.Fs.spare g.F.Fs.was g.F.Fs.faults g.F.Watch.refused) (family (task_spec g.C.CommandTask.kind_of g.C.CommandTask.writes_of g.C.CommandTask.stepped g.C.CommandTask.leaves g.C.CommandTask.refuses g.C.CommandTask.facts) g.C.Command.means g.C.Command.doing) l.fn.system l.system;
  acts : ActsOf (fs_spec g.F.Fs.view g.F.Fs.clock g.F.Fs.spare g.F.Fs.was g.F.Fs.faults g.F.Watch.refused) g.C.Command.means (repeat l.turn (l.turns.actor ∷ [])) l.fn.system l.system;
}
