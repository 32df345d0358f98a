use Rattle.std.proofs.Common.{ap, refl}
use Rattle.rely_guarantee.specs.Laws.{Runs}
use Rattle.rely_guarantee.proofs.Sounds.{IsFs}
use Rattle.rely_guarantee.proofs.Publishing.{no_time, still_acts}
use Rattle.rely_guarantee.proofs.Noting.{claim_not}
use Rattle.rely_guarantee.proofs.Rooms.{claim_room, roomy_acts, roomy_ready}
use Rattle.rely_guarantee.proofs.Locking.{shares_since}
use Rattle.rely_guarantee.proofs.act.claim.Given as given
use Rattle.rely_guarantee.proofs.act.claim.Goals as goal

module _ (g : given.Over) where
  fs : IsFs g.F.Fs.view g.F.Fs.clock g.F.Fs.was
  fs = record { only_now = g.met.F.Fs.only_now; bound = g.met.F.Fs.bound; told = g.met.F.Fs.told }

pub returns-in_default-clause-acts : goal.returns-in_default-clause-acts
returns-in_default-clause-acts g c =
    let r = c.requires in
    let old = c.args.base.now in
    let t = c.args.task.now in
    still_acts g.F.Fs.view g.F.Fs.clock g.F.Fs.spare g.F.Fs.was (fs g) g.met.T.CommandTask.laws old old c.end.new.base c.args.lane c.args.lane (Runs g.T.CommandTask.kind_of g.T.CommandTask.facts c.args.lane t) (Runs g.T.CommandTask.kind_of g.T.CommandTask.facts c.args.lane t) _
    refl (λ v told. told) (no_time g.F.Fs.view g.F.Fs.clock g.F.Fs.spare g.F.Fs.was (fs g) g.met.T.CommandTask.laws old.fs) r.ready.sound.ordered.room c.end.ensures.ends
    (claim_not g.F.Fs.view g.F.Fs.clock g.F.Fs.spare g.F.Fs.was (fs g) g.met.T.CommandTask.laws old c.args.lane t r.kind r.ready) r.ready

pub returns-then-is_err-clause-acts : goal.returns-then-is_err-clause-acts
returns-then-is_err-clause-acts g c =
    let r = c.requires in
    let old = c.args.base.now in
    let t = c.args.task.now in
    let made = c.make_claim_room.new.self in
    let mid = record old { books = made } in
    let runs = Runs g.T.CommandTask.kind_of g.T.CommandTask.facts c.args.lane t in
    let m = c.make_claim_room.ensures in
    let eq = claim_room old.books made m.same m.items in
    let ready = roomy_ready g.F.Fs.view g.F.Fs.clock g.F.Fs.spare g.F.Fs.was old made runs eq (ap (λ b. b.history) m.same) r.ready in
    roomy_acts g.F.Fs.view g.F.Fs.clock g.F.Fs.spare g.F.Fs.was old c.end-then-is_err.new.base made c.args.lane c.args.lane _ runs eq
    (still_acts g.F.Fs.view g.F.Fs.clock g.F.Fs.spare g.F.Fs.was (fs g) g.met.T.CommandTask.laws mid mid c.end-then-is_err.new.base c.args.lane c.args.lane runs runs _
    refl (λ v told. told) (no_time g.F.Fs.view g.F.Fs.clock g.F.Fs.spare g.F.Fs.was (fs g) g.met.T.CommandTask.laws old.fs) ready.sound.ordered.room c.end-then-is_err.ensures.ends
    (claim_not g.F.Fs.view g.F.Fs.clock g.F.Fs.spare g.F.Fs.was (fs g) g.met.T.CommandTask.laws mid c.args.lane t r.kind ready) ready)

pub claim_named-requires-clause-ready : goal.claim_named-requires-clause-ready
claim_named-requires-clause-ready g c =
    let m = c.make_claim_room.ensures in
    roomy_ready g.F.Fs.view g.F.Fs.clock g.F.Fs.spare g.F.Fs.was c.args.base.now c.make_claim_room.new.self (Runs g.T.CommandTask.kind_of g.T.CommandTask.facts c.args.lane c.args.task.now) (claim_room c.args.base.now.books c.make_claim_room.new.self m.same m.items) (ap (λ b. b.history) m.same) c.requires.ready

pub returns-then-is_err-clause-shared : goal.returns-then-is_err-clause-shared
returns-then-is_err-clause-shared g c = shares_since c.args.base.now.books c.make_claim_room.new.self c.end-then-is_err.new.base.books (ap (λ b. b.shared.items) c.make_claim_room.ensures.same) c.end-then-is_err.ensures.shared

pub returns-clause-shared : goal.returns-clause-shared
returns-clause-shared g c = shares_since c.args.base.now.books c.make_claim_room.new.self c.claim_named.new.base.books (ap (λ b. b.shared.items) c.make_claim_room.ensures.same) c.claim_named.ensures.shared
