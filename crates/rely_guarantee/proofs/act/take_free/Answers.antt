use Rattle.std.proofs.Common.{ap, rules, subst, sym}
use Rattle.rely_guarantee.specs.Pinning.{ArePinned}
use Rattle.rely_guarantee.proofs.Taking.{granted_doomed, granted_next, take_is, take_not, take_ready, take_acts, stopped_acts, unshared}
use Rattle.rely_guarantee.proofs.Pinning.{pinned_then}
use Rattle.rely_guarantee.proofs.act.take_free.Goals as goal

pub returns-clause-acts : goal.returns-clause-acts
returns-clause-acts g c =
    let old = c.args.base.now in
    let lane = c.args.lane in
    let e = c.grant.ensures in
    let s = c.stop_storing.ensures in
    let is = take_is c.args.wants (g.T.CommandTask.kind_of c.args.task.now) c.requires.kind in
    stopped_acts g.F.Fs.view g.F.Fs.clock g.F.Fs.spare g.F.Fs.was g.met.T.CommandTask.laws old c.quiet-outcome.new.base c.stop_storing.new.self lane s.kept s.no_more c.quiet-outcome.result c.quiet-outcome.new.task s.same
    (take_acts g.F.Fs.view g.F.Fs.clock g.F.Fs.spare g.F.Fs.was g.met.T.CommandTask.laws old c.quiet-outcome.new.base c.grant.new.self lane c.quiet-outcome.result _ (ap (λ x. x.claims) e.same) (ap (λ x. x.history) e.same)
    (granted_next old.books c.grant.new.self lane c.args.wants e.same c.requires.free e.taken.1 (take_not g.F.Fs.view g.F.Fs.clock g.F.Fs.spare g.F.Fs.was g.met.T.CommandTask.laws old lane c.args.task.now c.args.wants is c.requires.ready))
    e.spared e.keeps c.quiet-outcome.ensures.acts)

pub returns-clause-pins : goal.returns-clause-pins
returns-clause-pins g c =
    let before = c.args.base.now.books.pins.items in
    let q = c.quiet-outcome in
    subst (ArePinned c.args.wants.pin c.args.lane q.result before) (sym (ap (λ b. b.pins.items) c.stop_storing.ensures.same))
    (pinned_then c.args.wants.pin c.args.lane q.result before c.grant.new.self.pins.items q.new.base.books.pins.items q.ensures.goes (c.grant.ensures.pinned c.if-not-grant.false) q.ensures.pins)

pub returns-clause-locks : goal.returns-clause-locks
returns-clause-locks g c =
    let q = c.quiet-outcome in
    let s = c.stop_storing.ensures in
    (search rules, search rules, unshared c.args.base.now.books c.grant.new.self q.new.base.books c.stop_storing.new.self c.args.lane c.grant.ensures.shared q.ensures.shared s.no_more s.given_up, search rules)

pub quiet-outcome-requires-clause-ready : goal.quiet-outcome-requires-clause-ready
quiet-outcome-requires-clause-ready g c =
    let t = c.args.task.now in
    let e = c.grant.ensures in
    let old = c.args.base.now in
    let is = take_is c.args.wants (g.T.CommandTask.kind_of t) c.requires.kind in
    take_ready g.F.Fs.view g.F.Fs.clock g.F.Fs.spare g.F.Fs.was g.met.T.CommandTask.laws old c.grant.new.self c.args.lane t c.args.wants is e.same e.spared e.keeps
    (granted_doomed old.books c.grant.new.self c.args.lane c.args.wants e.same c.requires.free e.taken.1 (take_not g.F.Fs.view g.F.Fs.clock g.F.Fs.spare g.F.Fs.was g.met.T.CommandTask.laws old c.args.lane t c.args.wants is c.requires.ready))
    e.agrees c.requires.ready
