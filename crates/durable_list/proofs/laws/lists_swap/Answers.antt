use Rattle.durable_list.proofs.Swapping.{one_left, swap_begins, swap_ends, swap_on, swap_settles}
use Rattle.durable_list.proofs.laws.lists_swap.Goals as goal

pub returns-clause-begins : goal.returns-clause-begins
returns-clause-begins c link new before after v w stands begins = swap_begins link new before after v w stands begins

pub returns-clause-spared : goal.returns-clause-spared
returns-clause-spared c link old new before after v w swap one two = swap_on link old new before after v w swap one two

pub returns-clause-images : goal.returns-clause-images
returns-clause-images c link old new before after v d swap i = one_left link old new before after v d swap i

pub returns-clause-ends : goal.returns-clause-ends
returns-clause-ends c link old new before after v w swap ends = swap_ends link old new before after v w swap ends

pub returns-clause-settles : goal.returns-clause-settles
returns-clause-settles c link old new before after v w swap only gone = swap_settles link old new before after v w swap only gone
