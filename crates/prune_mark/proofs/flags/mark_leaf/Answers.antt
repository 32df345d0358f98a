use Rattle.std.proofs.Common.{subst}
use Rattle.prune_mark.specs.Flags.{IsDown}
use Rattle.prune_mark.proofs.Spreading.{spreads_leaf}
use Rattle.prune_mark.proofs.flags.mark_leaf.Goals as goal

pub returns-in-Some : goal.returns-in-Some
returns-in-Some c = λ pending.
    let was = subst (λ f. IsDown c.args.names.now f c.args.name.now c.in-Some.at) c.as_slice.ensures.value c.in-Some.ensures in
    spreads_leaf c.args.names.now c.args.flags.now.items pending c.args.name.now c.in-Some.at c.requires.long was c.requires.kind
