use Rattle.prune_mark.proofs.Search.{found_nowhere, found_there}
use Rattle.prune_mark.proofs.flags.down_at.Goals as goal

pub returns-then-flags-at : goal.returns-then-flags-at
returns-then-flags-at c = λ sorted has. (c.in-Ok.at, c.in-Ok.ensures.bound, found_there c.args.names.now c.args.name.now c.in-Ok.at c.in-Ok.ensures.ok, c.if-flags-at.true)

pub returns-else-flags-at : goal.returns-else-flags-at
returns-else-flags-at c = record { within = c.in-Ok.ensures.bound; is = found_there c.args.names.now c.args.name.now c.in-Ok.at c.in-Ok.ensures.ok; down = c.if-flags-at.false }

pub returns-in-Err : goal.returns-in-Err
returns-in-Err c = λ sorted has. absurd (found_nowhere c.args.names.now c.args.name.now c.in-Err.field-0 sorted c.in-Err.ensures.position has)
