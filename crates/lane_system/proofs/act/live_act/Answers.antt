use Rattle.std.proofs.Common.{sym, ◌∙◌, subst, Option, Some}
use Rattle.command.specs.Tasks.{task_spec}
use Rattle.lane_system.specs.declared.lane.Running.{Running}
use Rattle.lane_system.specs.Family.{Family, FsSpec, family, fs_spec}
use Rattle.lane_system.specs.Kept.{LaneKept}
use Rattle.lane_system.proofs.Coming.{acts_with, kept_with}
use Rattle.lane_system.proofs.act.live_act.Given as given
use Rattle.lane_system.proofs.act.live_act.Goals as goal

abbrev f : (g : given.Over) → FsSpec g.row.F.Denot
f g = fs_spec g.F.Fs.view g.F.Fs.clock g.F.Fs.spare g.F.Fs.was g.F.Fs.faults g.F.Watch.refused

abbrev family_of : (g : given.Over) → Family g.row.C.Denot g.row.C-Words.Denot g.row.C-Answer.Denot
family_of g = family (task_spec g.C.CommandTask.kind_of g.C.CommandTask.writes_of g.C.CommandTask.stepped g.C.CommandTask.leaves g.C.CommandTask.refuses g.C.CommandTask.facts) g.C.Command.means g.C.Command.doing

pub goes_on-requires-clause-live : goal.goes_on-requires-clause-live
goes_on-requires-clause-live g c = c.requires.live

pub goes_on-requires-clause-kept : goal.goes_on-requires-clause-kept
goes_on-requires-clause-kept g c = kept_with (f g) (family_of g) c.args.limits c.args.lane c.args.run.now (Some c.in-Some.running) (sym c.take.ensures.value ∙ c.in-Some.is) c.args.refs.now c.args.base.now c.requires.kept

pub goes_on-requires-clause-next : goal.goes_on-requires-clause-next
goes_on-requires-clause-next g c = (c.requires.next, c.take.ensures.after)

pub begins-requires-clause-live : goal.begins-requires-clause-live
begins-requires-clause-live g c = c.requires.live

pub begins-requires-clause-kept : goal.begins-requires-clause-kept
begins-requires-clause-kept g c = subst (λ (o : Option (Running g.row.C.Denot)). LaneKept (f g) (family_of g) c.args.limits c.args.lane c.args.refs.now c.args.base.now (record { words = c.args.run.now.words; task = o; replies = c.args.run.now.replies })) ((sym c.take.ensures.value ∙ c.in-None.is) ∙ sym c.take.ensures.after) c.requires.kept

pub begins-requires-clause-next : goal.begins-requires-clause-next
begins-requires-clause-next g c = (c.requires.next, c.take.ensures.after)

pub returns-in-Some : goal.returns-in-Some
returns-in-Some g c = acts_with (f g) (family_of g) c.args.limits c.args.lane c.args.run.now (Some c.in-Some.running) (sym c.take.ensures.value ∙ c.in-Some.is) c.args.refs.now c.goes_on.new.refs c.args.objects.now c.goes_on.new.objects c.args.base.now c.goes_on.new.base c.goes_on.new.run c.goes_on.result c.goes_on.ensures

pub returns-in-None : goal.returns-in-None
returns-in-None g c = acts_with (f g) (family_of g) c.args.limits c.args.lane c.args.run.now c.take.new.self ((sym c.take.ensures.value ∙ c.in-None.is) ∙ sym c.take.ensures.after) c.args.refs.now c.begins.new.refs c.args.objects.now c.begins.new.objects c.args.base.now c.begins.new.base c.begins.new.run c.begins.result c.begins.ensures
