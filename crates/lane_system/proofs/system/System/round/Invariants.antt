use Rattle.std.proofs.Common.{◌≡◌}
use Rattle.command.specs.Tasks.{task_spec}
use Rattle.lane_system.specs.Booked.{IsLater, commands_of}
use Rattle.lane_system.specs.Family.{family, fs_spec}
use Rattle.lane_system.specs.Preserves.{Preserves}
use Rattle.lane_system.proofs.Rounds.{Progress}
use Rattle.lane_system.proofs.system.System.round.Given as goal

-- the lanes so far have acted
abbrev pub invariant-lanes : goal.invariant-lanes
invariant-lanes g l = record {
  commands : commands_of l.self ≡ commands_of l.fn.self;
  later : IsLater l.fn.self l.self;
  preserves : Preserves (fs_spec g.F.Fs.view g.F.Fs.clock g.F.Fs.spare g.F.Fs.was g.F.Fs.faults g.F.Watch.refused) (family (task_spec g.C.CommandTask.kind_of g.C.CommandTask.writes_of g.C.CommandTask.stepped g.C.CommandTask.leaves g.C.CommandTask.refuses g.C.CommandTask.facts) g.C.Command.means g.C.Command.doing) l.fn.self l.self;
  progress : Progress g.C.Command.doing l.fn.self l.self l.lane l.unfinished;
}
