use Rattle.std.proofs.Common.{Some, inl, refl, subst}
use Rattle.rely_guarantee.specs.Laws.{IsLastly, Runs}
use Rattle.rely_guarantee.proofs.Sounds.{IsFs}
use Rattle.rely_guarantee.proofs.Acting.{asks}
use Rattle.rely_guarantee.proofs.Publishing.{more_tells, published_is, owed_acts, same_counted, published_parts, published_pending, published_runs}
use Rattle.rely_guarantee.proofs.act.published.Given as given
use Rattle.rely_guarantee.proofs.act.published.Goals as goal

module _ (g : given.Over) where
  fs : IsFs g.F.Fs.view g.F.Fs.clock g.F.Fs.was
  fs = record { only_now = g.met.F.Fs.only_now; bound = g.met.F.Fs.bound; told = g.met.F.Fs.told }

pub advance-requires : goal.advance-requires
advance-requires g c = asks g.F.Fs.view g.F.Fs.clock g.F.Fs.spare g.F.Fs.was (fs g) g.met.T.CommandTask.laws c.args.base.now c.args.lane c.args.lane c.args.task.now (inl refl) c.requires.ready

pub returns-in-Ok-clause-acts : goal.returns-in-Ok-clause-acts
returns-in-Ok-clause-acts g c =
    let e = c.in-Ok.ensures in
    let r = c.requires in
    let t = c.args.task.now in
    let old = c.args.base.now in
    let k = published_is (g.T.CommandTask.kind_of t) r.kind in
    owed_acts g.F.Fs.view g.F.Fs.clock g.F.Fs.spare g.F.Fs.was (fs g) g.met.T.CommandTask.laws old c.advance.new.fs c.pay.new.self c.args.lane t k.0 k.1 old.books.gone c.pay.new.self.halted (Runs g.T.CommandTask.kind_of g.T.CommandTask.facts c.args.lane c.advance.new.self) _
    c.pay.ensures (published_pending g.F.Fs.view g.F.Fs.clock g.F.Fs.spare g.F.Fs.was (fs g) g.met.T.CommandTask.laws old c.args.lane t k.0 k.1 k.2 r.ready).0 (same_counted g.F.Fs.view g.F.Fs.clock g.F.Fs.spare g.F.Fs.was (fs g) g.met.T.CommandTask.laws old r.ready.sound.ordered)
    (λ v told. let d = published_parts g.F.Fs.view g.F.Fs.clock g.F.Fs.spare g.F.Fs.was (fs g) g.met.T.CommandTask.laws old c.args.lane t k.0 k.1 k.2 r.ready v told in (d.0, d.1))
    r.ready.sound e.writes e.time e.room.at_most_one
    (published_runs g.F.Fs.view g.F.Fs.clock g.F.Fs.spare g.F.Fs.was (fs g) g.met.T.CommandTask.laws old c.advance.new.fs c.pay.new.self c.args.lane t c.advance.new.self c.in-Ok.field-0 k.0 k.1 c.pay.ensures k.2 r.ready e.stepped e.after)

pub returns-in-Err-clause-acts : goal.returns-in-Err-clause-acts
returns-in-Err-clause-acts g c =
    let e = c.in-Err.ensures in
    let r = c.requires in
    let t = c.args.task.now in
    let old = c.args.base.now in
    let k = published_is (g.T.CommandTask.kind_of t) r.kind in
    owed_acts g.F.Fs.view g.F.Fs.clock g.F.Fs.spare g.F.Fs.was (fs g) g.met.T.CommandTask.laws old c.advance.new.fs c.pay.new.self c.args.lane t k.0 k.1 old.books.gone (Some c.why_of-why.result) (Runs g.T.CommandTask.kind_of g.T.CommandTask.facts c.args.lane c.advance.new.self) _
    c.pay.ensures (published_pending g.F.Fs.view g.F.Fs.clock g.F.Fs.spare g.F.Fs.was (fs g) g.met.T.CommandTask.laws old c.args.lane t k.0 k.1 k.2 r.ready).0 (same_counted g.F.Fs.view g.F.Fs.clock g.F.Fs.spare g.F.Fs.was (fs g) g.met.T.CommandTask.laws old r.ready.sound.ordered)
    (λ v told. let d = published_parts g.F.Fs.view g.F.Fs.clock g.F.Fs.spare g.F.Fs.was (fs g) g.met.T.CommandTask.laws old c.args.lane t k.0 k.1 k.2 r.ready v told in (d.0, d.1))
    r.ready.sound e.writes e.time e.room.at_most_one refl

pub returns-in-Ok-clause-tells : goal.returns-in-Ok-clause-tells
returns-in-Ok-clause-tells g c = λ v told.
    let e = c.in-Ok.ensures in
    let t = c.args.task.now in
    let k = published_is (g.T.CommandTask.kind_of t) c.requires.kind in
    more_tells g.F.Fs.view g.F.Fs.clock g.F.Fs.spare g.F.Fs.was (fs g) g.met.T.CommandTask.laws t c.advance.new.self c.in-Ok.field-0 (λ last. subst IsLastly k.2 last) e.stepped v _ (e.after v told)
