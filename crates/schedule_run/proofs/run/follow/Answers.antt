use Rattle.std.proofs.Common.{refl}
use Rattle.command.specs.Tasks.{task_spec}
use Rattle.lane_system.specs.Family.{family, fs_spec}
use Rattle.lane_system.proofs.Family.{FsLaws}
use Rattle.schedule_run.proofs.Driving.{driven_nothing, driven_then, follow_more}
use Rattle.schedule_run.proofs.run.follow.Goals as goal

pub loop-turns-init : goal.loop-turns-init
loop-turns-init g c =
    let f = fs_spec g.F.Fs.view g.F.Fs.clock g.F.Fs.spare g.F.Fs.was g.F.Fs.faults g.F.Watch.refused in
    let own = family (task_spec g.C.CommandTask.kind_of g.C.CommandTask.writes_of g.C.CommandTask.stepped g.C.CommandTask.leaves g.C.CommandTask.refuses g.C.CommandTask.facts) g.C.Command.means g.C.Command.doing in
    let laws : FsLaws f = record { is = record { only_now = g.met.F.Fs.only_now; bound = g.met.F.Fs.bound; told = g.met.F.Fs.told }; tree = g.met.F.Fs.tree; counts_now = g.met.F.Fs.counts_now } in
    record { driven = driven_nothing f own laws c.args.system.now; acts = refl }

pub loop-turns-preserved : goal.loop-turns-preserved
loop-turns-preserved g c =
    let f = fs_spec g.F.Fs.view g.F.Fs.clock g.F.Fs.spare g.F.Fs.was g.F.Fs.faults g.F.Watch.refused in
    let own = family (task_spec g.C.CommandTask.kind_of g.C.CommandTask.writes_of g.C.CommandTask.stepped g.C.CommandTask.leaves g.C.CommandTask.refuses g.C.CommandTask.facts) g.C.Command.means g.C.Command.doing in
    let laws : FsLaws f = record { is = record { only_now = g.met.F.Fs.only_now; bound = g.met.F.Fs.bound; told = g.met.F.Fs.told }; tree = g.met.F.Fs.tree; counts_now = g.met.F.Fs.counts_now } in
    record {
      driven = driven_then f own laws c.args.system.now c.loop-turns.system c.give.new.system c.loop-turns.invariant.driven c.give.ensures.driven;
      acts = follow_more f own.means c.args.schedule.now c.loop-turns.turns-index c.turns-item.result c.args.system.now c.loop-turns.system c.give.new.system c.loop-turns-test.true c.turns-item.is c.loop-turns.invariant.acts c.give.ensures.acts;
    }
