use Rattle.std.proofs.Common.{◌∙◌, ◌++◌, ◌∷◌, [], ℕ, Some, ap, inl, refl, rules}
use Rattle.rely_guarantee.specs.Laws.{Runs}
use Rattle.rely_guarantee.proofs.Sounds.{IsFs}
use Rattle.rely_guarantee.proofs.Acting.{asks}
use Rattle.rely_guarantee.proofs.Publishing.{make_durable_is, owed_acts, same_counted, make_durable_parts, make_durable_pending, make_durable_acts}
use Rattle.rely_guarantee.proofs.Locking.{shares_since}
use Rattle.rely_guarantee.proofs.act.make_durable.Given as given
use Rattle.rely_guarantee.proofs.act.make_durable.Goals as goal

module _ (g : given.Over) where
  fs : IsFs g.F.Fs.view g.F.Fs.clock g.F.Fs.was
  fs = record { only_now = g.met.F.Fs.only_now; bound = g.met.F.Fs.bound; told = g.met.F.Fs.told }

pub advance-requires : goal.advance-requires
advance-requires g c = asks g.F.Fs.view g.F.Fs.clock g.F.Fs.spare g.F.Fs.was (fs g) g.met.T.CommandTask.laws c.args.base.now c.args.lane c.args.lane c.args.task.now (inl refl) c.requires.ready

pub returns-else-not-acknowledge-clause-acts : goal.returns-else-not-acknowledge-clause-acts
returns-else-not-acknowledge-clause-acts g c =
    let e = c.in-Ok-Done.ensures in
    let r = c.requires in
    let t = c.args.task.now in
    let old = c.args.base.now in
    let k = make_durable_is (g.T.CommandTask.kind_of t) r.kind in
    make_durable_acts g.F.Fs.view g.F.Fs.clock g.F.Fs.spare g.F.Fs.was (fs g) g.met.T.CommandTask.laws old (record { fs = c.advance.new.fs; books = c.acknowledge.new.self }) c.end.new.base c.args.lane t c.advance.new.self c.in-Ok-Done.field-0 k.0 (Runs g.T.CommandTask.kind_of g.T.CommandTask.facts c.args.lane c.advance.new.self) k.1
    c.acknowledge.ensures.same
    (λ p is. c.acknowledge.ensures.entry c.if-not-acknowledge.false p is ∙ ap (λ (m : ℕ). old.books.history.items ++ record { lane = p.lane; command = p.command; event = p.event; moment = m } ∷ []) c.clock-moment.ensures)
    c.end.ensures.ends r.ready e.writes e.time (e.ticks r.kind) c.in-Ok-Done.field-0-is e.after

pub returns-in-Err-clause-acts : goal.returns-in-Err-clause-acts
returns-in-Err-clause-acts g c =
    let e = c.in-Err.ensures in
    let r = c.requires in
    let t = c.args.task.now in
    let old = c.args.base.now in
    let k = make_durable_is (g.T.CommandTask.kind_of t) r.kind in
    owed_acts g.F.Fs.view g.F.Fs.clock g.F.Fs.spare g.F.Fs.was (fs g) g.met.T.CommandTask.laws old c.advance.new.fs c.pay.new.self c.args.lane t k.0 1 old.books.gone (Some c.why_of-why.result) (Runs g.T.CommandTask.kind_of g.T.CommandTask.facts c.args.lane c.advance.new.self) _
    c.pay.ensures (make_durable_pending g.F.Fs.view g.F.Fs.clock g.F.Fs.spare g.F.Fs.was (fs g) g.met.T.CommandTask.laws old c.args.lane t k.0 k.1 r.ready) (same_counted g.F.Fs.view g.F.Fs.clock g.F.Fs.spare g.F.Fs.was (fs g) g.met.T.CommandTask.laws old r.ready.sound.ordered)
    (make_durable_parts g.F.Fs.view g.F.Fs.clock g.F.Fs.spare g.F.Fs.was (fs g) g.met.T.CommandTask.laws old c.args.lane t k.0 k.1 r.ready)
    r.ready.sound e.writes e.time e.room.at_most_one refl

pub returns-else-not-acknowledge-clause-locks : goal.returns-else-not-acknowledge-clause-locks
returns-else-not-acknowledge-clause-locks g c = (search rules, search rules, shares_since c.args.base.now.books c.acknowledge.new.self c.end.new.base.books (ap (λ b. b.shared.items) c.acknowledge.ensures.same) c.end.ensures.shared, search rules)
