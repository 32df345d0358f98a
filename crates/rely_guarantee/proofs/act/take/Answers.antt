use Rattle.std.proofs.Common.{ap, refl, subst, sym, rules}
use Rattle.rely_guarantee.specs.Books.{Books, books_of, Frees}
use Rattle.rely_guarantee.specs.Laws.{Kind, Runs, Holds, NotPending}
use Rattle.rely_guarantee.proofs.Sounds.{IsFs}
use Rattle.rely_guarantee.proofs.Publishing.{blocked_acts, still_acts, no_time}
use Rattle.rely_guarantee.proofs.Taking.{take_is}
use Rattle.rely_guarantee.proofs.Rooms.{grant_room, roomy_acts, roomy_ready}
use Rattle.rely_guarantee.proofs.Locking.{shares_since}
use Rattle.rely_guarantee.proofs.act.take.Given as given
use Rattle.rely_guarantee.proofs.act.take.Goals as goal

module _ (g : given.Over) where
  fs : IsFs g.F.Fs.view g.F.Fs.clock g.F.Fs.was
  fs = record { only_now = g.met.F.Fs.only_now; bound = g.met.F.Fs.bound; told = g.met.F.Fs.told }

pub returns-then-not-frees-clause-acts : goal.returns-then-not-frees-clause-acts
returns-then-not-frees-clause-acts g c = blocked_acts g.F.Fs.view g.F.Fs.clock g.F.Fs.spare g.F.Fs.was (fs g) g.met.T.CommandTask.laws c.args.base.now c.args.lane c.args.lane c.args.task.now c.requires.ready

pub returns-then-is_err-clause-acts : goal.returns-then-is_err-clause-acts
returns-then-is_err-clause-acts g c =
    let r = c.requires in
    let old = c.args.base.now in
    let t = c.args.task.now in
    let made = c.make_grant_room.new.self in
    let m = c.make_grant_room.ensures in
    let is = take_is c.args.wants (g.T.CommandTask.kind_of t) r.kind in
    let mid = record old { books = made } in
    let runs = Runs g.T.CommandTask.kind_of g.T.CommandTask.facts c.args.lane t in
    let eq = grant_room old.books made m.same m.items in
    let ready = roomy_ready g.F.Fs.view g.F.Fs.clock g.F.Fs.spare g.F.Fs.was old made runs eq (ap (λ b. b.history) m.same) r.ready in
    let none : NotPending c.args.lane (books_of made) = subst (λ (k : Kind). Holds k c.args.lane (books_of made)) is ready.task.holds in
    roomy_acts g.F.Fs.view g.F.Fs.clock g.F.Fs.spare g.F.Fs.was old c.end.new.base made c.args.lane c.args.lane _ runs eq
    (still_acts g.F.Fs.view g.F.Fs.clock g.F.Fs.spare g.F.Fs.was (fs g) g.met.T.CommandTask.laws mid mid c.end.new.base c.args.lane c.args.lane runs runs _
    refl (λ v told. told) (no_time g.F.Fs.view g.F.Fs.clock g.F.Fs.spare g.F.Fs.was (fs g) g.met.T.CommandTask.laws old.fs) ready.sound.ordered.room c.end.ensures.ends none ready)

pub returns-clause-acts : goal.returns-clause-acts
returns-clause-acts g c =
    let m = c.make_grant_room.ensures in
    roomy_acts g.F.Fs.view g.F.Fs.clock g.F.Fs.spare g.F.Fs.was c.args.base.now c.take_free.new.base c.make_grant_room.new.self c.args.lane c.args.lane c.take_free.result _ (grant_room c.args.base.now.books c.make_grant_room.new.self m.same m.items) c.take_free.ensures.acts

pub take_free-requires-clause-ready : goal.take_free-requires-clause-ready
take_free-requires-clause-ready g c =
    let m = c.make_grant_room.ensures in
    roomy_ready g.F.Fs.view g.F.Fs.clock g.F.Fs.spare g.F.Fs.was c.args.base.now c.make_grant_room.new.self (Runs g.T.CommandTask.kind_of g.T.CommandTask.facts c.args.lane c.args.task.now) (grant_room c.args.base.now.books c.make_grant_room.new.self m.same m.items) (ap (λ b. b.history) m.same) c.requires.ready

pub take_free-requires-clause-free : goal.take_free-requires-clause-free
take_free-requires-clause-free g c =
    let m = c.make_grant_room.ensures in
    subst (λ (b : Books). Frees c.args.wants c.args.lane b) (sym (grant_room c.args.base.now.books c.make_grant_room.new.self m.same m.items)) (c.frees.ensures.0 c.if-not-frees.false)

pub returns-then-is_err-clause-locks : goal.returns-then-is_err-clause-locks
returns-then-is_err-clause-locks g c = (search rules, search rules, shares_since c.args.base.now.books c.make_grant_room.new.self c.end.new.base.books c.make_grant_room.ensures.items.0 c.end.ensures.shared, search rules)

pub returns-clause-locks : goal.returns-clause-locks
returns-clause-locks g c = let l = c.take_free.ensures.locks in (search rules, search rules, shares_since c.args.base.now.books c.make_grant_room.new.self c.take_free.new.base.books c.make_grant_room.ensures.items.0 l.2, search rules)
