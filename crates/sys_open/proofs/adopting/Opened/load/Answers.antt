use Rattle.sys_open.proofs.Listed.{checkouts_still, good_still, listed_still, opened_still, rows_still}
use Rattle.sys_open.proofs.adopting.Opened.load.Goals as goal

pub invariant_of-self : goal.invariant_of-self
invariant_of-self g c =
    let i = c.self.invariant in
    let o = c.self.inside in
    let quiet = c.load.ensures.quiet in (
      opened_still g.F.Fs.view g.F.Fs.clock g.F.Fs.was o.fs c.load.new.fs quiet o.clock o.refs.items i.0,
      listed_still g.F.Fs.view g.F.Fs.clock g.F.Fs.was o.fs c.load.new.fs quiet o.objects.items i.1,
      good_still g.F.Fs.view g.F.Fs.clock g.F.Fs.was o.fs c.load.new.fs quiet o.clock o.limits o.refs.items i.2,
      checkouts_still g.F.Fs.view g.F.Fs.clock g.F.Fs.was o.fs c.load.new.fs quiet o.checkouts i.3,
      rows_still g.F.Fs.view g.F.Fs.clock g.F.Fs.was o.fs c.load.new.fs quiet o.clock o.limits o.rows.items i.4,
    )
