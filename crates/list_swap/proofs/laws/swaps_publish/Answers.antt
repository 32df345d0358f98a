use Rattle.list_swap.proofs.Publishing.{swap_publishes}
use Rattle.list_swap.proofs.laws.swaps_publish.Goals as goal

pub returns : goal.returns
returns c t v w rows tree needs shows writes readable serials stands = swap_publishes t v w rows tree needs shows writes readable serials stands
