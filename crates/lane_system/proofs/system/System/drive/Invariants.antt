use Rattle.std.proofs.Common.{◌≡◌}
use Rattle.command.specs.Tasks.{task_spec}
use Rattle.lane_system.specs.Booked.{IsLater, commands_of}
use Rattle.lane_system.specs.Family.{family, fs_spec}
use Rattle.lane_system.specs.Preserves.{Preserves}
use Rattle.lane_system.specs.Ranks.{left_in_all}
use Rattle.lane_system.proofs.system.System.drive.Given as goal

abbrev pub invariant-loop-actor : goal.invariant-loop-actor
invariant-loop-actor g l = record {
  commands : commands_of l.self ≡ commands_of l.fn.self;
  later : IsLater l.fn.self l.self;
  preserves : Preserves (fs_spec g.F.Fs.view g.F.Fs.clock g.F.Fs.spare g.F.Fs.was g.F.Fs.faults g.F.Watch.refused) (family (task_spec g.C.CommandTask.kind_of g.C.CommandTask.writes_of g.C.CommandTask.stepped g.C.CommandTask.leaves g.C.CommandTask.refuses g.C.CommandTask.facts) g.C.Command.means g.C.Command.doing) l.fn.self l.self;
}

abbrev pub invariant-rounds : goal.invariant-rounds
invariant-rounds g l = record {
  commands : commands_of l.self ≡ commands_of l.fn.self;
  later : IsLater l.fn.self l.self;
  preserves : Preserves (fs_spec g.F.Fs.view g.F.Fs.clock g.F.Fs.spare g.F.Fs.was g.F.Fs.faults g.F.Watch.refused) (family (task_spec g.C.CommandTask.kind_of g.C.CommandTask.writes_of g.C.CommandTask.stepped g.C.CommandTask.leaves g.C.CommandTask.refuses g.C.CommandTask.facts) g.C.Command.means g.C.Command.doing) l.fn.self l.self;
}

abbrev pub decreases-rounds : goal.decreases-rounds
decreases-rounds g l = left_in_all g.C.Command.doing l.self
