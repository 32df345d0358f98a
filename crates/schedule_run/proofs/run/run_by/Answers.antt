use Rattle.command.specs.Tasks.{task_spec}
use Rattle.lane_system.specs.Family.{family, fs_spec}
use Rattle.lane_system.proofs.Family.{FsLaws}
use Rattle.schedule_run.proofs.Driving.{driven_then}
use Rattle.schedule_run.specs.Driven.{Driven}
use Rattle.schedule_run.proofs.run.run_by.Goals as goal

pub returns : goal.returns
returns g c =
    let f = fs_spec g.F.Fs.view g.F.Fs.clock g.F.Fs.spare g.F.Fs.was g.F.Fs.faults g.F.Watch.refused in
    let own = family (task_spec g.C.CommandTask.kind_of g.C.CommandTask.writes_of g.C.CommandTask.stepped g.C.CommandTask.leaves g.C.CommandTask.refuses g.C.CommandTask.facts) g.C.Command.means g.C.Command.doing in
    let laws : FsLaws f = record { is = record { only_now = g.met.F.Fs.only_now; bound = g.met.F.Fs.bound; told = g.met.F.Fs.told }; tree = g.met.F.Fs.tree; counts_now = g.met.F.Fs.counts_now } in
    let e = c.drive.ensures in
    let rest : Driven f own c.follow.new.system c.drive.new.self = record { commands = e.commands; later = e.later; preserves = e.preserves } in
    record {
      follows = (c.follow.new.system, c.follow.ensures.acts, rest);
      driven = driven_then f own laws c.args.system.now c.follow.new.system c.drive.new.self c.follow.ensures.driven rest;
      replied = e.replied;
      headline = e.headline;
      ended = e.ended;
    }
