use Rattle.std.proofs.Common.{◌+◌, ◌-◌, arith, refl}
use Rattle.command.specs.Tasks.{task_spec}
use Rattle.lane_system.specs.Family.{family, fs_spec}
use Rattle.lane_system.proofs.Chaining.{acted_commands, acted_later}
use Rattle.lane_system.proofs.Family.{FsLaws}
use Rattle.schedule_run.proofs.Driving.{all_more, driven_nothing, driven_then, one_more}
use Rattle.schedule_run.specs.Driven.{Driven}
use Rattle.schedule_run.proofs.run.give.Goals as goal

pub loop-turn-init : goal.loop-turn-init
loop-turn-init g c =
    let f = fs_spec g.F.Fs.view g.F.Fs.clock g.F.Fs.spare g.F.Fs.was g.F.Fs.faults g.F.Watch.refused in
    let own = family (task_spec g.C.CommandTask.kind_of g.C.CommandTask.writes_of g.C.CommandTask.stepped g.C.CommandTask.leaves g.C.CommandTask.refuses g.C.CommandTask.facts) g.C.Command.means g.C.Command.doing in
    let laws : FsLaws f = record { is = record { only_now = g.met.F.Fs.only_now; bound = g.met.F.Fs.bound; told = g.met.F.Fs.told }; tree = g.met.F.Fs.tree; counts_now = g.met.F.Fs.counts_now } in
    record { driven = driven_nothing f own laws c.args.system.now; acts = refl }

pub loop-turn-preserved : goal.loop-turn-preserved
loop-turn-preserved g c =
    let f = fs_spec g.F.Fs.view g.F.Fs.clock g.F.Fs.spare g.F.Fs.was g.F.Fs.faults g.F.Watch.refused in
    let own = family (task_spec g.C.CommandTask.kind_of g.C.CommandTask.writes_of g.C.CommandTask.stepped g.C.CommandTask.leaves g.C.CommandTask.refuses g.C.CommandTask.facts) g.C.Command.means g.C.Command.doing in
    let laws : FsLaws f = record { is = record { only_now = g.met.F.Fs.only_now; bound = g.met.F.Fs.bound; told = g.met.F.Fs.told }; tree = g.met.F.Fs.tree; counts_now = g.met.F.Fs.counts_now } in
    let acted = c.act-ask.ensures.acted in
    let one : Driven f own c.loop-turn.system c.act-ask.new.self = record { commands = acted_commands _ c.loop-turn.system c.act-ask.new.self _ c.act-ask.result acted; later = acted_later _ c.loop-turn.system c.act-ask.new.self _ c.act-ask.result acted; preserves = c.act-ask.ensures.preserves } in
    record {
      driven = driven_then f own laws c.args.system.now c.loop-turn.system c.act-ask.new.self c.loop-turn.invariant.driven one;
      acts = one_more f own.means c.args.system.now c.loop-turn.system c.act-ask.new.self c.args.turns.actor c.act-ask.result c.loop-turn.turn c.loop-turn.invariant.acts acted;
    }

pub returns-then-is_rest-clause-driven : goal.returns-then-is_rest-clause-driven
returns-then-is_rest-clause-driven g c =
    let f = fs_spec g.F.Fs.view g.F.Fs.clock g.F.Fs.spare g.F.Fs.was g.F.Fs.faults g.F.Watch.refused in
    let own = family (task_spec g.C.CommandTask.kind_of g.C.CommandTask.writes_of g.C.CommandTask.stepped g.C.CommandTask.leaves g.C.CommandTask.refuses g.C.CommandTask.facts) g.C.Command.means g.C.Command.doing in
    let laws : FsLaws f = record { is = record { only_now = g.met.F.Fs.only_now; bound = g.met.F.Fs.bound; told = g.met.F.Fs.told }; tree = g.met.F.Fs.tree; counts_now = g.met.F.Fs.counts_now } in
    let acted = c.act-ask.ensures.acted in
    driven_then f own laws c.args.system.now c.loop-turn.system c.act-ask.new.self c.loop-turn.invariant.driven
    (record { commands = acted_commands _ c.loop-turn.system c.act-ask.new.self _ c.act-ask.result acted; later = acted_later _ c.loop-turn.system c.act-ask.new.self _ c.act-ask.result acted; preserves = c.act-ask.ensures.preserves })

pub returns-then-is_rest-clause-acts : goal.returns-then-is_rest-clause-acts
returns-then-is_rest-clause-acts g c =
    let f = fs_spec g.F.Fs.view g.F.Fs.clock g.F.Fs.spare g.F.Fs.was g.F.Fs.faults g.F.Watch.refused in
    all_more f g.C.Command.means c.args.system.now c.loop-turn.system c.act-ask.new.self c.args.turns.actor c.act-ask.result c.loop-turn.turn c.args.turns.count (c.args.turns.count - (c.loop-turn.turn + 1))
    (omega (arith, c.loop-turn-test.true)) c.loop-turn.invariant.acts c.act-ask.ensures.acted (c.is_rest.ensures c.if-is_rest.true)
