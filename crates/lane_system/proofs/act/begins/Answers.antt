use Rattle.std.proofs.Common.{rules, ◌≡◌, inl, refl, sym, ◌∙◌, ap, subst, arith, length, Option}
use Rattle.command.specs.declared.begun.Begun.TheVariants as begun
use Rattle.command.specs.declared.ended.Ended.TheVariants as ended
use Rattle.command.specs.Doing.{IsAnswer, IsBegun}
use Rattle.command.specs.Since.{Since, begun_in}
use Rattle.command.specs.Laws.{CommandLaws}
use Rattle.command.specs.Tasks.{task_spec}
use Rattle.lane_system.specs.declared.act.Came.TheVariants.{Answered, More}
use Rattle.lane_system.specs.declared.lane.Running.{Running}
use Rattle.lane_system.specs.Family.{Family, FsSpec, family, fs_spec}
use Rattle.lane_system.specs.LaneActs.{LaneActs, task_start}
use Rattle.lane_system.specs.Lanes.{IsNext}
use Rattle.lane_system.specs.States.{now_of, since_in}
use Rattle.lane_system.proofs.Coming.{comes_answered, comes_ended, comes_held, comes_more, first_ready, first_room, first_takes, has_ended}
use Rattle.lane_system.proofs.Moments.{refused_named}
use Rattle.lane_system.proofs.Doing.{once_acts}
use Rattle.lane_system.proofs.Prefixes.{state_all}
use Rattle.lane_system.proofs.Learning.{laws_on}
use Rattle.lane_system.proofs.act.begins.Given as given
use Rattle.lane_system.proofs.act.begins.Goals as goal

abbrev f : (g : given.Over) → FsSpec g.row.F.Denot
f g = fs_spec g.F.Fs.view g.F.Fs.clock g.F.Fs.spare g.F.Fs.was g.F.Fs.faults g.F.Watch.refused

abbrev family_of : (g : given.Over) → Family g.row.C.Denot g.row.C-Words.Denot g.row.C-Answer.Denot
family_of g = family (task_spec g.C.CommandTask.kind_of g.C.CommandTask.writes_of g.C.CommandTask.stepped g.C.CommandTask.leaves g.C.CommandTask.refuses g.C.CommandTask.facts) g.C.Command.means g.C.Command.doing

command_laws : (g : given.Over) → CommandLaws (family_of g).tasks (family_of g).means (family_of g).doing
command_laws g = laws_on (task_spec g.C.CommandTask.kind_of g.C.CommandTask.writes_of g.C.CommandTask.stepped g.C.CommandTask.leaves g.C.CommandTask.refuses g.C.CommandTask.facts) g.C.Command.means g.C.Command.doing g.met.C.Command.command_laws

pub begin-requires-clause-few : goal.begin-requires-clause-few
begin-requires-clause-few g c = c.requires.few

pub begin-requires-clause-fit : goal.begin-requires-clause-fit
begin-requires-clause-fit g c =
    let base = c.args.base.now in
    let l = c.args.run.now in
    let words = c.index-words.result.now in
    let next : IsNext l words = (c.requires.next.0, search rules) in
    c.requires.kept.is.fits (length l.replies.items) words next

pub number_of-requires : goal.number_of-requires
number_of-requires g c =
    let l = c.args.run.now in
    let at : c.len-number.result ≡ length l.replies.items = search rules in
    omega (arith, at, c.requires.next.0, c.requires.kept.is.short)

pub told_act-requires-clause-ready : goal.told_act-requires-clause-ready
told_act-requires-clause-ready g c =
    let base = c.args.base.now in
    let l = c.args.run.now in
    let words = c.index-words.result.now in
    let is : c.in-Ok-Runs.field-0 ≡ begun.Runs c.in-Ok-Runs.work = search rules in
    let began = subst (IsBegun g.C.Command.means g.C.Command.doing c.args.limits c.args.lane (now_of base.books) words c.begin.new.refs) is (c.in-Ok-Runs.ensures.begun (now_of base.books) c.requires.tracks (sym c.deployments.ensures)) in
    first_ready (f g) (family_of g) (command_laws g) c.args.limits c.args.lane c.args.refs.now c.begin.new.refs c.args.objects.now base l words c.requires.kept c.requires.next.1 c.requires.live c.requires.home c.requires.sound c.begin.ensures.rooms c.in-Ok-Runs.work began

pub told_act-requires-clause-tracks : goal.told_act-requires-clause-tracks
told_act-requires-clause-tracks g c = c.begin.ensures.refs (now_of c.args.base.now.books).refs c.requires.tracks

pub told_act-requires-clause-after : goal.told_act-requires-clause-after
told_act-requires-clause-after g c =
    let base = c.args.base.now in
    let words = c.index-words.result.now in
    let is : c.in-Ok-Runs.field-0 ≡ begun.Runs c.in-Ok-Runs.work = search rules in
    let began = subst (IsBegun g.C.Command.means g.C.Command.doing c.args.limits c.args.lane (now_of base.books) words c.begin.new.refs) is (c.in-Ok-Runs.ensures.begun (now_of base.books) c.requires.tracks (sym c.deployments.ensures)) in
    (now_of base.books, now_of base.books, words, began.1)

pub told_act-requires-clause-room : goal.told_act-requires-clause-room
told_act-requires-clause-room g c =
    let base = c.args.base.now in
    let l = c.args.run.now in
    let words = c.index-words.result.now in
    let is : c.in-Ok-Runs.field-0 ≡ begun.Runs c.in-Ok-Runs.work = search rules in
    let began = subst (IsBegun g.C.Command.means g.C.Command.doing c.args.limits c.args.lane (now_of base.books) words c.begin.new.refs) is (c.in-Ok-Runs.ensures.begun (now_of base.books) c.requires.tracks (sym c.deployments.ensures)) in
    first_room (f g) (family_of g) (command_laws g) c.args.limits c.args.lane c.args.refs.now c.begin.new.refs c.args.objects.now base l words c.requires.kept c.requires.next.1 c.requires.live c.requires.home c.requires.sound c.begin.ensures.rooms c.in-Ok-Runs.work began

pub answer_at_end-requires : goal.answer_at_end-requires
answer_at_end-requires g c =
    let base = c.args.base.now in
    let l = c.args.run.now in
    let words = c.index-words.result.now in
    let at : c.len-number.result ≡ length l.replies.items = search rules in
    let next : IsNext l words = (c.requires.next.0, search rules) in
    let is : c.in-Ok-Runs.field-0 ≡ begun.Runs c.in-Ok-Runs.work = search rules in
    let began = subst (IsBegun g.C.Command.means g.C.Command.doing c.args.limits c.args.lane (now_of base.books) words c.begin.new.refs) is (c.in-Ok-Runs.ensures.begun (now_of base.books) c.requires.tracks (sym c.deployments.ensures)) in
    record {
      ended = has_ended c.told_act.result (λ is. c.in_default.not-Blocked is) (λ is. c.in_default.not-More is);
      told = comes_answered (f g) (family_of g) c.args.limits c.args.lane c.number_of.result c.args.refs.now c.begin.new.refs c.told_act.new.refs c.args.objects.now c.told_act.new.objects base c.told_act.new.base l words next (c.number_of.ensures ∙ at) c.in-Ok-Runs.work c.told_act.new.work c.told_act.result
          (first_takes (f g) (family_of g) (command_laws g) c.args.limits c.args.lane c.args.refs.now c.begin.new.refs c.args.objects.now base l words c.requires.kept c.requires.next.1 c.requires.live c.requires.home c.requires.sound c.begin.ensures.rooms c.in-Ok-Runs.work began c.told_act.new.refs c.told_act.new.base)
          c.told_act.ensures.step c.told_act.ensures.counts (λ is. c.in_default.not-Blocked is) (command_laws g);
      named = refused_named (g.F.Fs.faults base.fs) (g.F.Fs.faults c.told_act.new.base.fs) c.told_act.result c.told_act.ensures.step.1.cause;
    }

pub returns-in-Err : goal.returns-in-Err
returns-in-Err g c =
    let base = c.args.base.now in
    let l = c.args.run.now in
    let words = c.index-words.result.now in
    let next : IsNext l words = (c.requires.next.0, search rules) in
    let from : c.len-start.result ≡ task_start base.books.history.items l.task = (let n : c.len-start.result ≡ length base.books.history.items = search rules in n) ∙ ap (task_start base.books.history.items) (sym c.requires.next.1) in
    subst (λ (o : Option (Running g.row.C.Denot)). LaneActs (f g) (family_of g) c.args.limits c.args.lane c.args.lane c.args.refs.now c.begin.new.refs c.args.objects.now c.args.objects.now base base l (record { words = l.words; task = o; replies = l.replies }) (Answered ended.NoMemory c.len-start.result)) (sym c.requires.next.1)
    (once_acts (f g) (family_of g) c.args.limits c.args.lane c.args.refs.now c.begin.new.refs c.args.objects.now base l words ended.NoMemory c.len-start.result next (c.begin.ensures.refs (now_of base.books).refs c.requires.tracks) c.begin.ensures.rooms from (inl (c.requires.live, c.requires.next.1)))

pub returns-in-Ok-Answered : goal.returns-in-Ok-Answered
returns-in-Ok-Answered g c =
    let base = c.args.base.now in
    let l = c.args.run.now in
    let words = c.index-words.result.now in
    let next : IsNext l words = (c.requires.next.0, search rules) in
    let from : c.len-start.result ≡ task_start base.books.history.items l.task = (let n : c.len-start.result ≡ length base.books.history.items = search rules in n) ∙ ap (task_start base.books.history.items) (sym c.requires.next.1) in
    let is : c.in-Ok-Answered.field-0 ≡ begun.Answered c.in-Ok-Answered.answer = search rules in
    let began = subst (IsBegun g.C.Command.means g.C.Command.doing c.args.limits c.args.lane (now_of base.books) words c.begin.new.refs) is (c.in-Ok-Answered.ensures.begun (now_of base.books) c.requires.tracks (sym c.deployments.ensures)) in
    let same : begun_in c.args.limits (now_of base.books) ≡ since_in c.args.limits base.books (length base.books.history.items) = ap (begun_in c.args.limits) (sym (state_all base.books (length base.books.history.items) refl)) in
    subst (λ (o : Option (Running g.row.C.Denot)). LaneActs (f g) (family_of g) c.args.limits c.args.lane c.args.lane c.args.refs.now c.begin.new.refs c.args.objects.now c.args.objects.now base base l (record { words = l.words; task = o; replies = l.replies }) (Answered (ended.Answered c.in-Ok-Answered.answer) c.len-start.result)) (sym c.requires.next.1)
    (once_acts (f g) (family_of g) c.args.limits c.args.lane c.args.refs.now c.begin.new.refs c.args.objects.now base l words (ended.Answered c.in-Ok-Answered.answer) c.len-start.result next (c.begin.ensures.refs (now_of base.books).refs c.requires.tracks) c.begin.ensures.rooms from
    (c.requires.live, c.requires.next.1, subst (λ (s : Since). IsAnswer g.C.Command.means s words c.in-Ok-Answered.answer) same began))

pub returns-in-Blocked : goal.returns-in-Blocked
returns-in-Blocked g c =
    let base = c.args.base.now in
    let l = c.args.run.now in
    let words = c.index-words.result.now in
    let at : c.len-number.result ≡ length l.replies.items = search rules in
    let next : IsNext l words = (c.requires.next.0, search rules) in
    let is : c.in-Ok-Runs.field-0 ≡ begun.Runs c.in-Ok-Runs.work = search rules in
    let began = subst (IsBegun g.C.Command.means g.C.Command.doing c.args.limits c.args.lane (now_of base.books) words c.begin.new.refs) is (c.in-Ok-Runs.ensures.begun (now_of base.books) c.requires.tracks (sym c.deployments.ensures)) in
    comes_held (f g) (family_of g) c.args.limits c.args.lane c.number_of.result c.args.refs.now c.begin.new.refs c.told_act.new.refs c.args.objects.now c.told_act.new.objects base c.told_act.new.base l words next (c.number_of.ensures ∙ at) c.in-Ok-Runs.work c.told_act.new.work c.told_act.result
    (first_takes (f g) (family_of g) (command_laws g) c.args.limits c.args.lane c.args.refs.now c.begin.new.refs c.args.objects.now base l words c.requires.kept c.requires.next.1 c.requires.live c.requires.home c.requires.sound c.begin.ensures.rooms c.in-Ok-Runs.work began c.told_act.new.refs c.told_act.new.base)
    c.told_act.ensures.step c.told_act.ensures.counts c.in-Blocked.is

pub returns-in-More : goal.returns-in-More
returns-in-More g c =
    let base = c.args.base.now in
    let l = c.args.run.now in
    let words = c.index-words.result.now in
    let at : c.len-number.result ≡ length l.replies.items = search rules in
    let next : IsNext l words = (c.requires.next.0, search rules) in
    let is : c.in-Ok-Runs.field-0 ≡ begun.Runs c.in-Ok-Runs.work = search rules in
    let began = subst (IsBegun g.C.Command.means g.C.Command.doing c.args.limits c.args.lane (now_of base.books) words c.begin.new.refs) is (c.in-Ok-Runs.ensures.begun (now_of base.books) c.requires.tracks (sym c.deployments.ensures)) in
    let from : c.len-start.result ≡ task_start base.books.history.items l.task = (let n : c.len-start.result ≡ length base.books.history.items = search rules in n) ∙ ap (task_start base.books.history.items) (sym c.requires.next.1) in
    subst (λ (o : Option (Running g.row.C.Denot)). LaneActs (f g) (family_of g) c.args.limits c.args.lane c.args.lane c.args.refs.now c.told_act.new.refs c.args.objects.now c.told_act.new.objects base c.told_act.new.base l (record { words = l.words; task = o; replies = l.replies }) More) (sym c.replace.ensures.after)
    (comes_more (f g) (family_of g) c.args.limits c.args.lane c.number_of.result c.args.refs.now c.begin.new.refs c.told_act.new.refs c.args.objects.now c.told_act.new.objects base c.told_act.new.base l words next (c.number_of.ensures ∙ at) c.in-Ok-Runs.work c.told_act.new.work c.told_act.result
    (first_takes (f g) (family_of g) (command_laws g) c.args.limits c.args.lane c.args.refs.now c.begin.new.refs c.args.objects.now base l words c.requires.kept c.requires.next.1 c.requires.live c.requires.home c.requires.sound c.begin.ensures.rooms c.in-Ok-Runs.work began c.told_act.new.refs c.told_act.new.base)
    c.told_act.ensures.step c.told_act.ensures.counts c.in-More.is c.len-start.result from)

pub returns-in_default : goal.returns-in_default
returns-in_default g c =
    let base = c.args.base.now in
    let l = c.args.run.now in
    let words = c.index-words.result.now in
    let at : c.len-number.result ≡ length l.replies.items = search rules in
    let next : IsNext l words = (c.requires.next.0, search rules) in
    let is : c.in-Ok-Runs.field-0 ≡ begun.Runs c.in-Ok-Runs.work = search rules in
    let began = subst (IsBegun g.C.Command.means g.C.Command.doing c.args.limits c.args.lane (now_of base.books) words c.begin.new.refs) is (c.in-Ok-Runs.ensures.begun (now_of base.books) c.requires.tracks (sym c.deployments.ensures)) in
    let from : c.len-start.result ≡ task_start base.books.history.items l.task = (let n : c.len-start.result ≡ length base.books.history.items = search rules in n) ∙ ap (task_start base.books.history.items) (sym c.requires.next.1) in
    subst (λ (o : Option (Running g.row.C.Denot)). LaneActs (f g) (family_of g) c.args.limits c.args.lane c.args.lane c.args.refs.now c.told_act.new.refs c.args.objects.now c.told_act.new.objects base c.told_act.new.base l (record { words = l.words; task = o; replies = l.replies }) (Answered c.answer_at_end.result c.len-start.result)) (sym c.requires.next.1)
    (comes_ended (f g) (family_of g) c.args.limits c.args.lane c.number_of.result c.args.refs.now c.begin.new.refs c.told_act.new.refs c.args.objects.now c.told_act.new.objects base c.told_act.new.base l words next (c.number_of.ensures ∙ at) c.in-Ok-Runs.work c.told_act.new.work c.told_act.result
    (first_takes (f g) (family_of g) (command_laws g) c.args.limits c.args.lane c.args.refs.now c.begin.new.refs c.args.objects.now base l words c.requires.kept c.requires.next.1 c.requires.live c.requires.home c.requires.sound c.begin.ensures.rooms c.in-Ok-Runs.work began c.told_act.new.refs c.told_act.new.base)
    c.told_act.ensures.step c.told_act.ensures.counts (λ is. c.in_default.not-Blocked is) (λ is. c.in_default.not-More is) c.answer_at_end.result c.answer_at_end.ensures c.len-start.result from)
