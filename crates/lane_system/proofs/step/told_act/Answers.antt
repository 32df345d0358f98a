use Rattle.std.proofs.Common.{refl, sym, ◌∙◌, ap, rules}
use Rattle.rely_guarantee.specs.declared.books.Base.{Base}
use Rattle.rely_guarantee.specs.declared.kind.Outcome.TheVariants as came
use Rattle.rely_guarantee.proofs.Sounds.{IsFs}
use Rattle.command.specs.Tasks.{TaskSpec, task_spec}
use Rattle.lane_system.specs.Family.{FsSpec, fs_spec}
use Rattle.lane_system.specs.Steps.{standing}
use Rattle.lane_system.proofs.Telling.{counts_rest, learnt_counts, learnt_step, standing_same, still_step, told_back, told_disk, told_ready, told_room, told_step}
use Rattle.lane_system.proofs.step.told_act.Given as given
use Rattle.lane_system.proofs.step.told_act.Goals as goal

abbrev files_of : (g : given.Over) → FsSpec g.row.F.Denot
files_of g = fs_spec g.F.Fs.view g.F.Fs.clock g.F.Fs.spare g.F.Fs.was g.F.Fs.faults g.F.Watch.refused

fs_of : (g : given.Over) → IsFs (files_of g).view (files_of g).clock (files_of g).was
fs_of g = record { only_now = g.met.F.Fs.only_now; bound = g.met.F.Fs.bound; told = g.met.F.Fs.told }

abbrev tasks_of : (g : given.Over) → TaskSpec g.row.C.Denot
tasks_of g = task_spec g.C.CommandTask.kind_of g.C.CommandTask.writes_of g.C.CommandTask.stepped g.C.CommandTask.leaves g.C.CommandTask.refuses g.C.CommandTask.facts

pub running_act-requires-clause-ready : goal.running_act-requires-clause-ready
running_act-requires-clause-ready g c = told_ready (files_of g) (tasks_of g) c.args.lane c.args.base.now
    g.C.Command.doing g.met.C.Command.command_laws.hears c.args.objects.now c.args.work.now c.hear-former.new.self c.hear-former.ensures.hears c.requires.ready

pub running_act-requires-clause-room : goal.running_act-requires-clause-room
running_act-requires-clause-room g c = told_room (tasks_of g) c.args.refs.now _ c.hear-former.new.self c.hear-former.ensures.hears c.requires.room

pub returns-in-Blocked-clause-step : goal.returns-in-Blocked-clause-step
returns-in-Blocked-clause-step g c = (
  c.running_act.new.work,
  still_step (files_of g) (tasks_of g) g.C.Command.doing c.args.lane c.args.number c.args.refs.now c.running_act.new.refs came.Blocked _ c.running_act.new.work c.args.base.now c.running_act.new.base (λ is. cc)
      (told_step (files_of g) (tasks_of g) c.args.lane c.args.base.now c.args.number c.args.refs.now c.running_act.new.refs c.running_act.result came.Blocked _ c.hear-former.new.self c.running_act.new.work c.running_act.new.base c.hear-former.ensures.hears c.in-Blocked.is c.running_act.ensures),
  λ not. absurd (not refl),
)

pub returns-in-Blocked-clause-back : goal.returns-in-Blocked-clause-back
returns-in-Blocked-clause-back g c = λ is. told_back (tasks_of g) g.C.Command.doing g.met.C.Command.command_laws.hears
    c.args.objects.now c.args.work.now c.hear-former.new.self c.running_act.new.work c.hear.new.self c.hear-former.result c.hear-former.ensures.hears c.hear-former.ensures.heard
    (told_step (files_of g) (tasks_of g) c.args.lane c.args.base.now
    c.args.number c.args.refs.now c.running_act.new.refs c.running_act.result came.Blocked c.hear-former.new.self c.hear-former.new.self c.running_act.new.work c.running_act.new.base refl c.in-Blocked.is c.running_act.ensures).steps
    c.hear.ensures.hears

pub returns-in-Blocked-clause-counts : goal.returns-in-Blocked-clause-counts
returns-in-Blocked-clause-counts g c =
    let same = (c.running_act.ensures.blocked c.in-Blocked.is).0 in
    sym (ap (λ (b : Base _). standing c.args.base.now.books.gone b.books.gone c.args.objects.now) same ∙ standing_same c.args.base.now.books.gone c.args.objects.now)

pub returns-in-More-clause-step : goal.returns-in-More-clause-step
returns-in-More-clause-step g c = (
  c.learn.new.self,
  learnt_step (files_of g) (tasks_of g) g.C.Command.doing g.met.C.Command.command_laws.learns c.args.lane c.args.number c.args.refs.now c.running_act.new.refs _ c.running_act.new.work c.learn.new.self c.args.base.now c.running_act.new.base _ c.pins.result.now
      (told_step (files_of g) (tasks_of g) c.args.lane c.args.base.now c.args.number c.args.refs.now c.running_act.new.refs c.running_act.result came.More _ c.hear-former.new.self c.running_act.new.work c.running_act.new.base c.hear-former.ensures.hears c.in-More.is c.running_act.ensures)
      c.deployments.ensures c.pins.ensures c.args._limits
      (told_disk (files_of g) (tasks_of g) g.C.Command.doing g.met.C.Command.command_laws.hears g.met.C.Command.command_laws.boots (fs_of g) g.met.F.Fs.tree c.args._limits c.requires.after.0 c.requires.after.1 c.requires.after.2
      c.args.lane c.args.number c.args.objects.now c.args.refs.now c.running_act.new.refs c.args.work.now c.running_act.new.work c.args.base.now c.running_act.new.base c.requires.after.3 c.requires.ready
      (told_step (files_of g) (tasks_of g) c.args.lane c.args.base.now c.args.number c.args.refs.now c.running_act.new.refs c.running_act.result came.More _ c.hear-former.new.self c.running_act.new.work c.running_act.new.base c.hear-former.ensures.hears c.in-More.is c.running_act.ensures) c.requires.disk) c.learn.ensures,
  λ not. refl,
)

pub returns-in-More-clause-counts : goal.returns-in-More-clause-counts
returns-in-More-clause-counts g c = learnt_counts (files_of g) (tasks_of g) g.C.Command.doing g.met.C.Command.command_laws.learns c.args.lane c.args.number c.args.refs.now c.running_act.new.refs _ c.running_act.new.work c.learn.new.self c.args.base.now c.running_act.new.base _ c.pins.result.now
    (told_step (files_of g) (tasks_of g) c.args.lane c.args.base.now c.args.number c.args.refs.now c.running_act.new.refs c.running_act.result came.More _ c.hear-former.new.self c.running_act.new.work c.running_act.new.base c.hear-former.ensures.hears c.in-More.is c.running_act.ensures)
    c.deployments.ensures c.pins.ensures c.args._limits
    (told_disk (files_of g) (tasks_of g) g.C.Command.doing g.met.C.Command.command_laws.hears g.met.C.Command.command_laws.boots (fs_of g) g.met.F.Fs.tree c.args._limits c.requires.after.0 c.requires.after.1 c.requires.after.2
    c.args.lane c.args.number c.args.objects.now c.args.refs.now c.running_act.new.refs c.args.work.now c.running_act.new.work c.args.base.now c.running_act.new.base c.requires.after.3 c.requires.ready
    (told_step (files_of g) (tasks_of g) c.args.lane c.args.base.now c.args.number c.args.refs.now c.running_act.new.refs c.running_act.result came.More _ c.hear-former.new.self c.running_act.new.work c.running_act.new.base c.hear-former.ensures.hears c.in-More.is c.running_act.ensures) c.requires.disk) c.learn.ensures _ _ (search rules)

pub returns-in_default-clause-step : goal.returns-in_default-clause-step
returns-in_default-clause-step g c = (
  c.running_act.new.work,
  still_step (files_of g) (tasks_of g) g.C.Command.doing c.args.lane c.args.number c.args.refs.now c.running_act.new.refs c.running_act.result _ c.running_act.new.work c.args.base.now c.running_act.new.base (λ is. c.in_default.not-More is)
      (told_step (files_of g) (tasks_of g) c.args.lane c.args.base.now c.args.number c.args.refs.now c.running_act.new.refs c.running_act.result c.running_act.result _ c.hear-former.new.self c.running_act.new.work c.running_act.new.base c.hear-former.ensures.hears refl c.running_act.ensures),
  λ not. refl,
)

pub returns-in_default-clause-back : goal.returns-in_default-clause-back
returns-in_default-clause-back g c = λ is. absurd (c.in_default.not-Blocked is)

pub returns-in_default-clause-counts : goal.returns-in_default-clause-counts
returns-in_default-clause-counts g c = counts_rest g.C.Command.doing _ _ c.running_act.new.work c.running_act.result (λ is. c.in_default.not-More is) (search rules)
