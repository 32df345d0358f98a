use Rattle.std.proofs.Common.{Err, ◌∙◌, ap, inl, refl, subst, sym}
use Rattle.rely_guarantee.specs.Laws.{IsClaim, Runs}
use Rattle.rely_guarantee.proofs.Sounds.{IsFs}
use Rattle.rely_guarantee.proofs.Acting.{asks, none_stays, quiet_acts, refused_tells, tells_end}
use Rattle.rely_guarantee.proofs.Noting.{claim_acts, claim_quiet, claim_stood}
use Rattle.rely_guarantee.proofs.Locking.{shares_since}
use Rattle.rely_guarantee.proofs.act.claim_named.Given as given
use Rattle.rely_guarantee.proofs.act.claim_named.Goals as goal

module _ (g : given.Over) where
  fs : IsFs g.F.Fs.view g.F.Fs.clock g.F.Fs.was
  fs = record { only_now = g.met.F.Fs.only_now; bound = g.met.F.Fs.bound; told = g.met.F.Fs.told }

pub advance_with_room-requires-clause-needs : goal.advance_with_room-requires-clause-needs
advance_with_room-requires-clause-needs g c = asks g.F.Fs.view g.F.Fs.clock g.F.Fs.spare g.F.Fs.was (fs g) g.met.T.CommandTask.laws c.args.base.now c.args.lane c.args.lane c.args.task.now (inl refl) c.requires.ready

pub returns-else-not-note_claim-clause-acts : goal.returns-else-not-note_claim-clause-acts
returns-else-not-note_claim-clause-acts g c =
    let e = c.in-Ok-More.ensures in
    let r = c.requires in
    claim_acts g.F.Fs.view g.F.Fs.clock g.F.Fs.spare g.F.Fs.was (fs g) g.met.T.CommandTask.laws c.args.base.now c.advance_with_room.new.base c.note_claim.new.self c.args.lane c.args.task.now c.advance_with_room.new.task c.in-Ok-More.field-0 c.args.name
    e.books r.kind c.note_claim.ensures.same (c.note_claim.ensures.added c.if-not-note_claim.false) r.ready e.writes e.time e.room c.in-Ok-More.field-0-is e.stepped e.after

pub returns-in-Ok-Done-clause-acts : goal.returns-in-Ok-Done-clause-acts
returns-in-Ok-Done-clause-acts g c =
    let e = c.in-Ok-Done.ensures in
    let r = c.requires in
    let t = c.args.task.now in
    let is : IsClaim (g.T.CommandTask.kind_of t) = subst IsClaim (sym r.kind) tt in
    quiet_acts g.F.Fs.view g.F.Fs.clock g.F.Fs.spare g.F.Fs.was (fs g) g.met.T.CommandTask.laws c.args.base.now c.advance_with_room.new.base c.end.new.base c.args.lane c.args.lane t c.advance_with_room.new.task _
    e.books c.end.ensures.ends (inl refl) (claim_quiet (g.T.CommandTask.kind_of t) is) (claim_stood g.F.Fs.view g.F.Fs.clock g.F.Fs.spare g.F.Fs.was (fs g) g.met.T.CommandTask.laws t c.args.lane _ is) r.ready e.writes e.time e.room tt

pub returns-in-Err-clause-acts : goal.returns-in-Err-clause-acts
returns-in-Err-clause-acts g c =
    let e = c.in-Err.ensures in
    let r = c.requires in
    let t = c.args.task.now in
    let is : IsClaim (g.T.CommandTask.kind_of t) = subst IsClaim (sym r.kind) tt in
    quiet_acts g.F.Fs.view g.F.Fs.clock g.F.Fs.spare g.F.Fs.was (fs g) g.met.T.CommandTask.laws c.args.base.now c.advance_with_room.new.base c.refuse.new.base c.args.lane c.args.lane t c.advance_with_room.new.task c.refuse.result
    e.books c.refuse.ensures.ends (inl refl) (claim_quiet (g.T.CommandTask.kind_of t) is) (claim_stood g.F.Fs.view g.F.Fs.clock g.F.Fs.spare g.F.Fs.was (fs g) g.met.T.CommandTask.laws t c.args.lane _ is) r.ready e.writes e.time e.room
    (tells_end g.F.Fs.view (Runs g.T.CommandTask.kind_of g.T.CommandTask.facts c.args.lane c.advance_with_room.new.task) c.refuse.result c.refuse.new.base c.refuse.ensures.told)

pub returns-in-Err-clause-tells : goal.returns-in-Err-clause-tells
returns-in-Err-clause-tells g c =
    let e = c.in-Err.ensures in
    let old = c.args.base.now.fs in
    let mid = c.advance_with_room.new.base.fs in
    refused_tells g.T.CommandTask.leaves g.T.CommandTask.refuses c.args.task.now c.advance_with_room.new.task c.refuse.result c.in-Err.e (g.F.Fs.view old) (g.F.Fs.view c.refuse.new.base.fs) c.refuse.ensures.answer e.refused
    (λ is named v told. ap g.F.Fs.view c.refuse.ensures.ends.fs
    ∙ none_stays g.F.Fs.view g.F.Fs.clock g.F.Fs.was g.met.F.Fs.only_now g.met.F.Fs.counts_now old mid e.time c.in-Err.e (λ failed. c.refuse.ensures.still is failed ∙ c.clock-before.ensures) (λ u told_u none. e.unchanged u told_u (ap Err none)) named v told)

pub returns-in-Ok-Done-clause-shared : goal.returns-in-Ok-Done-clause-shared
returns-in-Ok-Done-clause-shared g c = shares_since c.args.base.now.books c.advance_with_room.new.base.books c.end.new.base.books (ap (λ m. m.books.shared.items) c.in-Ok-Done.ensures.books) c.end.ensures.shared

pub returns-in-Err-clause-shared : goal.returns-in-Err-clause-shared
returns-in-Err-clause-shared g c = shares_since c.args.base.now.books c.advance_with_room.new.base.books c.refuse.new.base.books (ap (λ m. m.books.shared.items) c.in-Err.ensures.books) c.refuse.ensures.shared
