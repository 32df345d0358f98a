use Rattle.std.proofs.Common.{rules, ◌≡◌, sym, ◌∙◌, ap, subst, length, Option}
use Rattle.command.specs.Tasks.{task_spec}
use Rattle.lane_system.specs.Family.{Family, FsSpec, family, fs_spec}
use Rattle.lane_system.specs.declared.act.Came.TheVariants.{Answered}
use Rattle.lane_system.specs.declared.lane.Running.{Running}
use Rattle.lane_system.specs.LaneActs.{LaneActs, task_start}
use Rattle.lane_system.proofs.Coming.{at_some, short_at_once}
use Rattle.lane_system.proofs.Doing.{once_acts}
use Rattle.lane_system.proofs.act.halted.Given as given
use Rattle.lane_system.proofs.act.halted.Goals as goal
use Rattle.lane_system.proofs.act.halted.Goals.{in-Some, in-None}

abbrev f : (g : given.Over) → FsSpec g.row.F.Denot
f g = fs_spec g.F.Fs.view g.F.Fs.clock g.F.Fs.spare g.F.Fs.was g.F.Fs.faults g.F.Watch.refused

abbrev family_of : (g : given.Over) → Family g.row.C.Denot g.row.C-Words.Denot g.row.C-Answer.Denot
family_of g = family (task_spec g.C.CommandTask.kind_of g.C.CommandTask.writes_of g.C.CommandTask.stepped g.C.CommandTask.leaves g.C.CommandTask.refuses g.C.CommandTask.facts) g.C.Command.means g.C.Command.doing

pub returns : goal.returns
returns g c =
    let base = c.args.base.now in
    let l = c.args.run.now in
    let next = at_some l.words.items (length l.replies.items) c.requires.next in
    let from : c.match-take.start ≡ task_start base.books.history.items l.task = elim c.match-take.branch [
      | in-Some w ↦ w.start-is ∙ sym (ap (task_start base.books.history.items) (sym c.take.ensures.value ∙ w.in-Some.is))
      | in-None w ↦ w.start-is ∙ (let n : w.len-start.result ≡ length base.books.history.items = search rules in n) ∙ sym (ap (task_start base.books.history.items) (sym c.take.ensures.value ∙ w.in-None.is))
    ] in
    subst (λ (o : Option (Running g.row.C.Denot)). LaneActs (f g) (family_of g) c.args._limits c.args._lane c.args._lane c.args._refs.now c.args._refs.now c.args._objects.now c.args._objects.now base base l (record { words = l.words; task = o; replies = l.replies }) (Answered c.cut_short.result c.match-take.start))
    (sym c.take.ensures.after)
    (once_acts (f g) (family_of g) c.args._limits c.args._lane c.args._refs.now c.args._refs.now c.args._objects.now base l next.0 c.cut_short.result c.match-take.start next.1 c.requires.tracks (λ name has. has) from (short_at_once (f g) g.C.Command.means c.args._limits base next.0 l.task c.args.why c.requires.over c.cut_short.result c.cut_short.ensures))
