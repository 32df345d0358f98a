use Rattle.std.proofs.Common.{◌+◌, ◌∙◌, Bool, ap, refl, sym, subst, arith, length}
use Rattle.command.specs.Tasks.{task_spec}
use Rattle.lane_system.specs.Family.{Family, FsSpec, family, fs_spec}
use Rattle.lane_system.proofs.Chaining.{acted_commands, acted_later, lanes_same, later_refl, later_then, preserves_nothing, preserves_then}
use Rattle.lane_system.proofs.Rounds.{Progress, progress_acted, progress_begins, progress_ended, round_falls, round_over}
use Rattle.lane_system.proofs.Family.{FsLaws}
use Rattle.lane_system.proofs.system.System.round.Given as given
use Rattle.lane_system.proofs.system.System.round.Goals as goal
use Rattle.lane_system.proofs.system.System.round.Goals.{in-Ended, in_default}

abbrev files_of : (g : given.Over) → FsSpec g.row.F.Denot
files_of g = fs_spec g.F.Fs.view g.F.Fs.clock g.F.Fs.spare g.F.Fs.was g.F.Fs.faults g.F.Watch.refused

abbrev family_of : (g : given.Over) → Family g.row.C.Denot g.row.C-Words.Denot g.row.C-Answer.Denot
family_of g = family (task_spec g.C.CommandTask.kind_of g.C.CommandTask.writes_of g.C.CommandTask.stepped g.C.CommandTask.leaves g.C.CommandTask.refuses g.C.CommandTask.facts) g.C.Command.means g.C.Command.doing

files_laws : (g : given.Over) → FsLaws (files_of g)
files_laws g = record { is = record { only_now = g.met.F.Fs.only_now; bound = g.met.F.Fs.bound; told = g.met.F.Fs.told }; tree = g.met.F.Fs.tree; counts_now = g.met.F.Fs.counts_now }

pub lanes-init : goal.lanes-init
lanes-init g c =
    record {
      commands = refl;
      later = later_refl c.args.self.now;
      preserves = preserves_nothing (files_of g) (family_of g) (files_laws g) c.args.self.now;
      progress = progress_begins g.C.Command.doing c.args.self.now;
    }

pub lanes-preserved : goal.lanes-preserved
lanes-preserved g c =
    let d = g.C.Command.doing in
    let i = c.lanes.invariant in
    let e = c.act.ensures in
    record {
      commands = acted_commands _ c.lanes.self c.act.new.self c.lanes.lane c.act.result e.acted ∙ i.commands;
      later = later_then c.args.self.now c.lanes.self c.act.new.self i.later (acted_later _ c.lanes.self c.act.new.self c.lanes.lane c.act.result e.acted);
      preserves = preserves_then (files_of g) (family_of g) (files_laws g) c.args.self.now c.lanes.self c.act.new.self i.preserves e.preserves;
      progress = elim c.match-act.branch [
        | in-Ended w ↦ subst (λ (b : Bool). Progress d c.args.self.now c.act.new.self (c.lanes.lane + 1) b) (sym w.unfinished-is)
            (progress_ended d _ c.args.self.now c.lanes.self c.act.new.self c.lanes.lane c.lanes.unfinished c.act.result w.in-Ended.is e.acted i.progress)
        | in_default w ↦ subst (λ (b : Bool). Progress d c.args.self.now c.act.new.self (c.lanes.lane + 1) b) (sym w.unfinished-is)
            (progress_acted d _ c.args.self.now c.lanes.self c.act.new.self c.lanes.lane c.lanes.unfinished c.act.result (λ z. w.in_default.not-Ended z) e.acted e.ranks e.held i.progress)
      ];
    }

pub returns : goal.returns
returns g c =
    let d = g.C.Command.doing in
    let i = c.lanes.invariant in
    let count = lanes_same c.args.self.now c.lanes.self i.commands in
    let few = c.lanes-few.ensures.few in
    let same = ap length c.lanes-few.ensures.lanes in
    record {
      over = λ over. round_over d c.args.self.now c.lanes.self c.lanes.lane (omega (arith, count, few, same, c.lanes-test.false)) (subst (λ (b : Bool). Progress d c.args.self.now c.lanes.self c.lanes.lane b) over i.progress);
      falls = λ busy. round_falls d c.args.self.now c.lanes.self c.lanes.lane (omega (arith, few, same, c.lanes-test.false)) (subst (λ (b : Bool). Progress d c.args.self.now c.lanes.self c.lanes.lane b) busy i.progress);
      commands = i.commands;
      later = i.later;
      preserves = i.preserves;
    }
