use Rattle.std.proofs.Common.{rules, ◌≡◌, refl, sym, ◌∙◌, ap, subst, arith, length, Option, Some}
use Rattle.command.specs.Laws.{CommandLaws}
use Rattle.command.specs.Tasks.{task_spec}
use Rattle.lane_system.specs.declared.act.Came.TheVariants.{Answered, Blocked, More}
use Rattle.lane_system.specs.declared.lane.Lane.{Lane}
use Rattle.lane_system.specs.declared.lane.Running.{Running}
use Rattle.lane_system.specs.Family.{Family, FsSpec, family, fs_spec}
use Rattle.lane_system.specs.LaneActs.{LaneActs}
use Rattle.lane_system.proofs.Coming.{comes_answered, comes_ended, comes_held, comes_more, has_ended, next_after, next_is, next_ready, next_room, next_takes, next_words}
use Rattle.lane_system.proofs.Moments.{refused_named}
use Rattle.lane_system.proofs.Learning.{laws_on}
use Rattle.lane_system.proofs.act.goes_on.Given as given
use Rattle.lane_system.proofs.act.goes_on.Goals as goal

abbrev f : (g : given.Over) → FsSpec g.row.F.Denot
f g = fs_spec g.F.Fs.view g.F.Fs.clock g.F.Fs.spare g.F.Fs.was g.F.Fs.faults g.F.Watch.refused

abbrev family_of : (g : given.Over) → Family g.row.C.Denot g.row.C-Words.Denot g.row.C-Answer.Denot
family_of g = family (task_spec g.C.CommandTask.kind_of g.C.CommandTask.writes_of g.C.CommandTask.stepped g.C.CommandTask.leaves g.C.CommandTask.refuses g.C.CommandTask.facts) g.C.Command.means g.C.Command.doing

command_laws : (g : given.Over) → CommandLaws (family_of g).tasks (family_of g).means (family_of g).doing
command_laws g = laws_on (task_spec g.C.CommandTask.kind_of g.C.CommandTask.writes_of g.C.CommandTask.stepped g.C.CommandTask.leaves g.C.CommandTask.refuses g.C.CommandTask.facts) g.C.Command.means g.C.Command.doing g.met.C.Command.command_laws

pub number_of-requires : goal.number_of-requires
number_of-requires g c =
    let base = c.args.base.now in
    let l : Lane g.row.C.Denot g.row.C-Words.Denot g.row.C-Answer.Denot = record { words = c.args.run.now.words; task = Some c.args.running; replies = c.args.run.now.replies } in
    let at : c.len-number.result ≡ length l.replies.items = search rules in
    omega (arith, at, c.requires.next.0, c.requires.kept.is.short)

pub told_act-requires-clause-ready : goal.told_act-requires-clause-ready
told_act-requires-clause-ready g c =
    let base = c.args.base.now in
    let l : Lane g.row.C.Denot g.row.C-Words.Denot g.row.C-Answer.Denot = record { words = c.args.run.now.words; task = Some c.args.running; replies = c.args.run.now.replies } in
    next_ready (f g) (family_of g) (command_laws g) c.args._limits c.args.lane c.args.refs.now c.args.objects.now base l c.args.running c.requires.kept refl c.requires.live c.requires.sound

pub told_act-requires-clause-tracks : goal.told_act-requires-clause-tracks
told_act-requires-clause-tracks g c = c.requires.tracks

pub told_act-requires-clause-after : goal.told_act-requires-clause-after
told_act-requires-clause-after g c =
    let base = c.args.base.now in
    let l : Lane g.row.C.Denot g.row.C-Words.Denot g.row.C-Answer.Denot = record { words = c.args.run.now.words; task = Some c.args.running; replies = c.args.run.now.replies } in
    next_after (f g) (family_of g) (command_laws g) c.args._limits c.args.lane c.args.refs.now c.args.objects.now base l c.args.running c.requires.kept refl c.requires.live

pub told_act-requires-clause-room : goal.told_act-requires-clause-room
told_act-requires-clause-room g c =
    let base = c.args.base.now in
    let l : Lane g.row.C.Denot g.row.C-Words.Denot g.row.C-Answer.Denot = record { words = c.args.run.now.words; task = Some c.args.running; replies = c.args.run.now.replies } in
    next_room (f g) (family_of g) (command_laws g) c.args._limits c.args.lane c.args.refs.now c.args.objects.now base l c.args.running c.requires.kept refl c.requires.live

pub answer_at_end-requires : goal.answer_at_end-requires
answer_at_end-requires g c =
    let base = c.args.base.now in
    let l : Lane g.row.C.Denot g.row.C-Words.Denot g.row.C-Answer.Denot = record { words = c.args.run.now.words; task = Some c.args.running; replies = c.args.run.now.replies } in
    let at : c.len-number.result ≡ length l.replies.items = search rules in
    record {
      ended = has_ended c.told_act.result (λ is. c.in_default.not-Blocked is) (λ is. c.in_default.not-More is);
      told = comes_answered (f g) (family_of g) c.args._limits c.args.lane c.number_of.result c.args.refs.now c.args.refs.now c.told_act.new.refs c.args.objects.now c.told_act.new.objects base c.told_act.new.base l (next_words (f g) (family_of g) (command_laws g) c.args._limits c.args.lane c.args.refs.now c.args.objects.now base l c.args.running c.requires.kept refl c.requires.live) (next_is (f g) (family_of g) (command_laws g) c.args._limits c.args.lane c.args.refs.now c.args.objects.now base l c.args.running c.requires.kept refl c.requires.live) (c.number_of.ensures ∙ at) c.args.running.work c.told_act.new.work c.told_act.result
          (next_takes (f g) (family_of g) (command_laws g) c.args._limits c.args.lane c.args.refs.now c.args.objects.now base l c.args.running c.requires.kept refl c.requires.live c.told_act.new.refs c.told_act.new.base)
          c.told_act.ensures.step c.told_act.ensures.counts (λ is. c.in_default.not-Blocked is) (command_laws g);
      named = refused_named (g.F.Fs.faults base.fs) (g.F.Fs.faults c.told_act.new.base.fs) c.told_act.result c.told_act.ensures.step.1.cause;
    }

pub returns-in-Blocked : goal.returns-in-Blocked
returns-in-Blocked g c =
    let base = c.args.base.now in
    let l : Lane g.row.C.Denot g.row.C-Words.Denot g.row.C-Answer.Denot = record { words = c.args.run.now.words; task = Some c.args.running; replies = c.args.run.now.replies } in
    let at : c.len-number.result ≡ length l.replies.items = search rules in
    let back : c.replace.new.self ≡ Some c.args.running = c.replace.ensures.after ∙ ap (λ (w : g.row.C.Denot). Some (record { work = w; start = c.args.running.start })) (c.told_act.ensures.back c.in-Blocked.is) in
    subst (λ (o : Option (Running g.row.C.Denot)). LaneActs (f g) (family_of g) c.args._limits c.args.lane c.args.lane c.args.refs.now c.told_act.new.refs c.args.objects.now c.told_act.new.objects base c.told_act.new.base l (record { words = l.words; task = o; replies = l.replies }) Blocked) (sym back)
    (comes_held (f g) (family_of g) c.args._limits c.args.lane c.number_of.result c.args.refs.now c.args.refs.now c.told_act.new.refs c.args.objects.now c.told_act.new.objects base c.told_act.new.base l (next_words (f g) (family_of g) (command_laws g) c.args._limits c.args.lane c.args.refs.now c.args.objects.now base l c.args.running c.requires.kept refl c.requires.live) (next_is (f g) (family_of g) (command_laws g) c.args._limits c.args.lane c.args.refs.now c.args.objects.now base l c.args.running c.requires.kept refl c.requires.live) (c.number_of.ensures ∙ at) c.args.running.work c.told_act.new.work c.told_act.result
    (next_takes (f g) (family_of g) (command_laws g) c.args._limits c.args.lane c.args.refs.now c.args.objects.now base l c.args.running c.requires.kept refl c.requires.live c.told_act.new.refs c.told_act.new.base)
    c.told_act.ensures.step c.told_act.ensures.counts c.in-Blocked.is)

pub returns-in-More : goal.returns-in-More
returns-in-More g c =
    let base = c.args.base.now in
    let l : Lane g.row.C.Denot g.row.C-Words.Denot g.row.C-Answer.Denot = record { words = c.args.run.now.words; task = Some c.args.running; replies = c.args.run.now.replies } in
    let at : c.len-number.result ≡ length l.replies.items = search rules in
    subst (λ (o : Option (Running g.row.C.Denot)). LaneActs (f g) (family_of g) c.args._limits c.args.lane c.args.lane c.args.refs.now c.told_act.new.refs c.args.objects.now c.told_act.new.objects base c.told_act.new.base l (record { words = l.words; task = o; replies = l.replies }) More) (sym c.replace-in-More.ensures.after)
    (comes_more (f g) (family_of g) c.args._limits c.args.lane c.number_of.result c.args.refs.now c.args.refs.now c.told_act.new.refs c.args.objects.now c.told_act.new.objects base c.told_act.new.base l (next_words (f g) (family_of g) (command_laws g) c.args._limits c.args.lane c.args.refs.now c.args.objects.now base l c.args.running c.requires.kept refl c.requires.live) (next_is (f g) (family_of g) (command_laws g) c.args._limits c.args.lane c.args.refs.now c.args.objects.now base l c.args.running c.requires.kept refl c.requires.live) (c.number_of.ensures ∙ at) c.args.running.work c.told_act.new.work c.told_act.result
    (next_takes (f g) (family_of g) (command_laws g) c.args._limits c.args.lane c.args.refs.now c.args.objects.now base l c.args.running c.requires.kept refl c.requires.live c.told_act.new.refs c.told_act.new.base)
    c.told_act.ensures.step c.told_act.ensures.counts c.in-More.is c.args.running.start refl)

pub returns-in_default : goal.returns-in_default
returns-in_default g c =
    let base = c.args.base.now in
    let l : Lane g.row.C.Denot g.row.C-Words.Denot g.row.C-Answer.Denot = record { words = c.args.run.now.words; task = Some c.args.running; replies = c.args.run.now.replies } in
    let at : c.len-number.result ≡ length l.replies.items = search rules in
    subst (λ (o : Option (Running g.row.C.Denot)). LaneActs (f g) (family_of g) c.args._limits c.args.lane c.args.lane c.args.refs.now c.told_act.new.refs c.args.objects.now c.told_act.new.objects base c.told_act.new.base l (record { words = l.words; task = o; replies = l.replies }) (Answered c.answer_at_end.result c.args.running.start)) (sym c.requires.next.1)
    (comes_ended (f g) (family_of g) c.args._limits c.args.lane c.number_of.result c.args.refs.now c.args.refs.now c.told_act.new.refs c.args.objects.now c.told_act.new.objects base c.told_act.new.base l (next_words (f g) (family_of g) (command_laws g) c.args._limits c.args.lane c.args.refs.now c.args.objects.now base l c.args.running c.requires.kept refl c.requires.live) (next_is (f g) (family_of g) (command_laws g) c.args._limits c.args.lane c.args.refs.now c.args.objects.now base l c.args.running c.requires.kept refl c.requires.live) (c.number_of.ensures ∙ at) c.args.running.work c.told_act.new.work c.told_act.result
    (next_takes (f g) (family_of g) (command_laws g) c.args._limits c.args.lane c.args.refs.now c.args.objects.now base l c.args.running c.requires.kept refl c.requires.live c.told_act.new.refs c.told_act.new.base)
    c.told_act.ensures.step c.told_act.ensures.counts (λ is. c.in_default.not-Blocked is) (λ is. c.in_default.not-More is) c.answer_at_end.result
    c.answer_at_end.ensures c.args.running.start refl)
