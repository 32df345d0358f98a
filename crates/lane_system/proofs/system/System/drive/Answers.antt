use Rattle.std.proofs.Common.{rules, ◌∙◌, refl}
use Rattle.command.specs.Tasks.{task_spec}
use Rattle.lane_system.specs.Family.{Family, FsSpec, family, fs_spec}
use Rattle.lane_system.proofs.Chaining.{acted_commands, acted_later, later_refl, later_then, preserves_nothing, preserves_then}
use Rattle.lane_system.proofs.Rounds.{ended_of}
use Rattle.lane_system.proofs.Family.{FsLaws}
use Rattle.lane_system.proofs.system.System.drive.Given as given
use Rattle.lane_system.proofs.system.System.drive.Goals as goal

abbrev files_of : (g : given.Over) → FsSpec g.row.F.Denot
files_of g = fs_spec g.F.Fs.view g.F.Fs.clock g.F.Fs.spare g.F.Fs.was g.F.Fs.faults g.F.Watch.refused

abbrev family_of : (g : given.Over) → Family g.row.C.Denot g.row.C-Words.Denot g.row.C-Answer.Denot
family_of g = family (task_spec g.C.CommandTask.kind_of g.C.CommandTask.writes_of g.C.CommandTask.stepped g.C.CommandTask.leaves g.C.CommandTask.refuses g.C.CommandTask.facts) g.C.Command.means g.C.Command.doing

files_laws : (g : given.Over) → FsLaws (files_of g)
files_laws g = record { is = record { only_now = g.met.F.Fs.only_now; bound = g.met.F.Fs.bound; told = g.met.F.Fs.told }; tree = g.met.F.Fs.tree; counts_now = g.met.F.Fs.counts_now }

pub loop-actor-init : goal.loop-actor-init
loop-actor-init g c =
    record { commands = refl; later = later_refl c.args.self.now; preserves = preserves_nothing (files_of g) (family_of g) (files_laws g) c.args.self.now }

pub loop-actor-preserved : goal.loop-actor-preserved
loop-actor-preserved g c =
    let i = c.loop-actor.invariant in
    let e = c.act.ensures in
    record {
      commands = acted_commands _ c.loop-actor.self c.act.new.self _ c.act.result e.acted ∙ i.commands;
      later = later_then c.args.self.now c.loop-actor.self c.act.new.self i.later (acted_later _ c.loop-actor.self c.act.new.self _ c.act.result e.acted);
      preserves = preserves_then (files_of g) (family_of g) (files_laws g) c.args.self.now c.loop-actor.self c.act.new.self i.preserves e.preserves;
    }

pub rounds-preserved : goal.rounds-preserved
rounds-preserved g c =
    let i = c.rounds.invariant in
    let e = c.round.ensures in
    record {
      commands = e.commands ∙ i.commands;
      later = later_then c.args.self.now c.rounds.self c.round.new.self i.later e.later;
      preserves = preserves_then (files_of g) (family_of g) (files_laws g) c.args.self.now c.rounds.self c.round.new.self i.preserves e.preserves;
    }

pub returns : goal.returns
returns g c =
    let i = c.rounds.invariant in
    let e = c.round.ensures in
    record {
      replied = c.certify.ensures.replied;
      headline = c.certify.ensures.headline;
      ended = ended_of c.round.new.self (e.over (search rules)) c.certify.ensures.within;
      commands = e.commands ∙ i.commands;
      later = later_then c.args.self.now c.rounds.self c.round.new.self i.later e.later;
      preserves = preserves_then (files_of g) (family_of g) (files_laws g) c.args.self.now c.rounds.self c.round.new.self i.preserves e.preserves;
    }
