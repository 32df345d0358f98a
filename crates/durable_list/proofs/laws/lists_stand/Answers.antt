use Rattle.durable_list.proofs.Standing.{stands_begins, stands_left, stands_on}
use Rattle.durable_list.proofs.laws.lists_stand.Goals as goal

pub returns-clause-begins : goal.returns-clause-begins
returns-clause-begins c rows v settled are = stands_begins rows v settled are

pub returns-clause-goes_on : goal.returns-clause-goes_on
returns-clause-goes_on c rows v w spares stands = stands_on rows v w spares stands

pub returns-clause-images : goal.returns-clause-images
returns-clause-images c rows v d tree stands i = stands_left v d tree i rows stands
