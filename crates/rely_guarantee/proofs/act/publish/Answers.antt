use Rattle.std.proofs.Common.{refl, ap, rules}
use Rattle.rely_guarantee.specs.Laws.{Runs}
use Rattle.rely_guarantee.proofs.Sounds.{IsFs}
use Rattle.rely_guarantee.proofs.Publishing.{blocked_acts, still_acts, no_time, publish_not, room_ready, room_acts}
use Rattle.rely_guarantee.proofs.Locking.{shares_since}
use Rattle.rely_guarantee.proofs.act.publish.Given as given
use Rattle.rely_guarantee.proofs.act.publish.Goals as goal

module _ (g : given.Over) where
  fs : IsFs g.F.Fs.view g.F.Fs.clock g.F.Fs.was
  fs = record { only_now = g.met.F.Fs.only_now; bound = g.met.F.Fs.bound; told = g.met.F.Fs.told }

pub returns-then-not-frees_turn-clause-acts : goal.returns-then-not-frees_turn-clause-acts
returns-then-not-frees_turn-clause-acts g c = blocked_acts g.F.Fs.view g.F.Fs.clock g.F.Fs.spare g.F.Fs.was (fs g) g.met.T.CommandTask.laws c.args.base.now c.args.lane c.args.lane c.args.task.now c.requires.ready

pub returns-in_default-clause-acts : goal.returns-in_default-clause-acts
returns-in_default-clause-acts g c =
    let r = c.requires in
    let old = c.args.base.now in
    let t = c.args.task.now in
    still_acts g.F.Fs.view g.F.Fs.clock g.F.Fs.spare g.F.Fs.was (fs g) g.met.T.CommandTask.laws old old c.end.new.base c.args.lane c.args.lane (Runs g.T.CommandTask.kind_of g.T.CommandTask.facts c.args.lane t) (Runs g.T.CommandTask.kind_of g.T.CommandTask.facts c.args.lane t) _
    refl (λ v told. told) (no_time g.F.Fs.view g.F.Fs.clock g.F.Fs.spare g.F.Fs.was (fs g) g.met.T.CommandTask.laws old.fs) r.ready.sound.ordered.room c.end.ensures.ends
    (publish_not g.F.Fs.view g.F.Fs.clock g.F.Fs.spare g.F.Fs.was (fs g) g.met.T.CommandTask.laws old c.args.lane t r.kind r.ready) r.ready

pub returns-then-is_err-clause-acts : goal.returns-then-is_err-clause-acts
returns-then-is_err-clause-acts g c =
    let r = c.requires in
    let old = c.args.base.now in
    let t = c.args.task.now in
    let made = c.make_room.new.self in
    let mid = record old { books = made } in
    let runs = Runs g.T.CommandTask.kind_of g.T.CommandTask.facts c.args.lane t in
    let m = c.make_room.ensures in
    let ready = room_ready g.F.Fs.view g.F.Fs.clock g.F.Fs.spare g.F.Fs.was (fs g) g.met.T.CommandTask.laws old made runs m.same m.items m.more r.ready in
    room_acts g.F.Fs.view g.F.Fs.clock g.F.Fs.spare g.F.Fs.was (fs g) g.met.T.CommandTask.laws old c.end-then-is_err.new.base made c.args.lane c.args.lane _ runs m.same m.items
    (still_acts g.F.Fs.view g.F.Fs.clock g.F.Fs.spare g.F.Fs.was (fs g) g.met.T.CommandTask.laws mid mid c.end-then-is_err.new.base c.args.lane c.args.lane runs runs _
    refl (λ v told. told) (no_time g.F.Fs.view g.F.Fs.clock g.F.Fs.spare g.F.Fs.was (fs g) g.met.T.CommandTask.laws old.fs) ready.sound.ordered.room c.end-then-is_err.ensures.ends
    (publish_not g.F.Fs.view g.F.Fs.clock g.F.Fs.spare g.F.Fs.was (fs g) g.met.T.CommandTask.laws mid c.args.lane t r.kind ready) ready)

pub publish_event-requires-clause-ready : goal.publish_event-requires-clause-ready
publish_event-requires-clause-ready g c =
    let m = c.make_room.ensures in
    room_ready g.F.Fs.view g.F.Fs.clock g.F.Fs.spare g.F.Fs.was (fs g) g.met.T.CommandTask.laws c.args.base.now c.make_room.new.self (Runs g.T.CommandTask.kind_of g.T.CommandTask.facts c.args.lane c.args.task.now) m.same m.items m.more c.requires.ready

pub returns-then-is_err-clause-locks : goal.returns-then-is_err-clause-locks
returns-then-is_err-clause-locks g c = (search rules, search rules, shares_since c.args.base.now.books c.make_room.new.self c.end-then-is_err.new.base.books (ap (λ b. b.shared.items) c.make_room.ensures.same) c.end-then-is_err.ensures.shared, search rules)

pub returns-clause-locks : goal.returns-clause-locks
returns-clause-locks g c = let l = c.publish_event.ensures.locks in (search rules, search rules, shares_since c.args.base.now.books c.make_room.new.self c.publish_event.new.base.books (ap (λ b. b.shared.items) c.make_room.ensures.same) l.2, search rules)
