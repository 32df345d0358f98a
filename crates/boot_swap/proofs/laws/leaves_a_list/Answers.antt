use Rattle.boot_swap.proofs.Lists.{leaves_list}
use Rattle.boot_swap.proofs.laws.leaves_a_list.Goals as goal

pub returns : goal.returns
returns c = leaves_list
