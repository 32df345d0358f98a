use Rattle.prune_mark.specs.Doomed.{AreUnmarked}
use Rattle.prune_mark.proofs.Downs.{doomed_exact}
use Rattle.prune_mark.proofs.doomed.doomed_of.Goals as goal

pub returns-clause-order : goal.returns-clause-order
returns-clause-order c = record { commits = c.in_ok-all.all.items; others = c.in_ok-others.others.items; both = c.in_ok-append.ensures.items; first = c.in_ok-all.ensures; rest = c.in_ok-others.ensures }

pub returns-clause-exact : goal.returns-clause-exact
returns-clause-exact c =
    let are : AreUnmarked c.args.names.now c.args.flags.now c.append.new.self.items = record { commits = c.in_ok-all.all.items; others = c.in_ok-others.others.items; both = c.in_ok-append.ensures.items; first = c.in_ok-all.ensures; rest = c.in_ok-others.ensures } in
    doomed_exact c.args.names.now c.args.flags.now c.append.new.self.items are
