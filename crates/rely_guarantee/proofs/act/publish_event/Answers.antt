use Rattle.std.proofs.Common.{ap, Err, Some, inl, refl, subst, sym, arith, ◌≤◌, rules}
use Rattle.fs_trait.specs.Count.{last}
use Rattle.rely_guarantee.specs.Laws.{IsLastly, IsPublish, Runs}
use Rattle.rely_guarantee.proofs.Sounds.{IsFs}
use Rattle.rely_guarantee.proofs.Acting.{asks}
use Rattle.rely_guarantee.proofs.Publishing.{more_tells, still_acts, publish_done, publish_tells, publish_not}
use Rattle.rely_guarantee.proofs.Locking.{shares_since}
use Rattle.rely_guarantee.proofs.act.publish_event.Given as given
use Rattle.rely_guarantee.proofs.act.publish_event.Goals as goal

module _ (g : given.Over) where
  fs : IsFs g.F.Fs.view g.F.Fs.clock g.F.Fs.was
  fs = record { only_now = g.met.F.Fs.only_now; bound = g.met.F.Fs.bound; told = g.met.F.Fs.told }

pub advance_with_room-requires-clause-needs : goal.advance_with_room-requires-clause-needs
advance_with_room-requires-clause-needs g c = asks g.F.Fs.view g.F.Fs.clock g.F.Fs.spare g.F.Fs.was (fs g) g.met.T.CommandTask.laws c.args.base.now c.args.lane c.args.lane c.args.task.now (inl refl) c.requires.ready

pub returns-in-Ok-clause-acts : goal.returns-in-Ok-clause-acts
returns-in-Ok-clause-acts g c =
    let e = c.in-Ok.ensures in
    let r = c.requires in
    let mid = c.advance_with_room.new.base in
    let next = c.advance_with_room.new.task in
    let old = c.args.base.now in
    let is : IsPublish (g.T.CommandTask.kind_of c.args.task.now) = subst IsPublish (sym r.kind) tt in
    let room : c.owes.result ≤ g.F.Fs.spare mid.fs = subst (λ n. n ≤ g.F.Fs.spare mid.fs) (sym c.owes.ensures) (e.ready is) in
    let small : c.owes.result ≤ last = omega (arith, c.owes.type_inv) in
    publish_done g.F.Fs.view g.F.Fs.clock g.F.Fs.spare g.F.Fs.was (fs g) g.met.T.CommandTask.laws old mid c.publish.new.self c.args.lane c.args.command c.args.task.now next c.args.event c.owes.result c.publish.new.self.halted _
    e.books c.publish.ensures r.kind r.free r.entry r.ready e.writes e.time room small
    (publish_tells g.F.Fs.view g.F.Fs.clock g.F.Fs.spare g.F.Fs.was (fs g) g.met.T.CommandTask.laws old mid c.publish.new.self c.args.lane c.args.command c.args.task.now next c.in-Ok.field-0 c.args.event c.owes.result e.books c.publish.ensures c.owes.ensures r.kind r.free r.ready e.stepped e.after)

pub returns-in-Err-NoMemory-clause-acts : goal.returns-in-Err-NoMemory-clause-acts
returns-in-Err-NoMemory-clause-acts g c =
    let e = c.in-Err-NoMemory.ensures in
    let r = c.requires in
    let mid = c.advance_with_room.new.base in
    let old = c.args.base.now in
    let is : IsPublish (g.T.CommandTask.kind_of c.args.task.now) = subst IsPublish (sym r.kind) tt in
    still_acts g.F.Fs.view g.F.Fs.clock g.F.Fs.spare g.F.Fs.was (fs g) g.met.T.CommandTask.laws old mid c.end.new.base c.args.lane c.args.lane (Runs g.T.CommandTask.kind_of g.T.CommandTask.facts c.args.lane c.args.task.now) (Runs g.T.CommandTask.kind_of g.T.CommandTask.facts c.args.lane c.advance_with_room.new.task) _
    e.books (λ v told. e.unchanged v told (ap Err c.in-Err-NoMemory.field-0-is)) e.time e.room c.end.ensures.ends (publish_not g.F.Fs.view g.F.Fs.clock g.F.Fs.spare g.F.Fs.was (fs g) g.met.T.CommandTask.laws old c.args.lane c.args.task.now is r.ready) r.ready

pub returns-in-Err-clause-acts : goal.returns-in-Err-clause-acts
returns-in-Err-clause-acts g c =
    let e = c.in-Err.ensures in
    let r = c.requires in
    let mid = c.advance_with_room.new.base in
    let next = c.advance_with_room.new.task in
    publish_done g.F.Fs.view g.F.Fs.clock g.F.Fs.spare g.F.Fs.was (fs g) g.met.T.CommandTask.laws c.args.base.now mid c.publish-in-Err.new.self c.args.lane c.args.command c.args.task.now next c.args.event 0 (Some c.why_of-why.result) _
    e.books c.publish-in-Err.ensures r.kind r.free r.entry r.ready e.writes e.time (omega arith) (omega arith) refl

pub returns-in-Ok-clause-tells : goal.returns-in-Ok-clause-tells
returns-in-Ok-clause-tells g c = λ v told.
    let e = c.in-Ok.ensures in
    more_tells g.F.Fs.view g.F.Fs.clock g.F.Fs.spare g.F.Fs.was (fs g) g.met.T.CommandTask.laws c.args.task.now c.advance_with_room.new.task c.in-Ok.field-0 (λ last. subst IsLastly c.requires.kind last) e.stepped v _ (e.after v told)

pub returns-in-Err-NoMemory-clause-locks : goal.returns-in-Err-NoMemory-clause-locks
returns-in-Err-NoMemory-clause-locks g c = (search rules, search rules, shares_since c.args.base.now.books c.advance_with_room.new.base.books c.end.new.base.books (ap (λ m. m.books.shared.items) c.in-Err-NoMemory.ensures.books) c.end.ensures.shared, search rules)
